use Rattle.krl.proofs.Words.{length}
use Rattle.krl.proofs.WholeSections.{WholeSoFar}
use Rattle.krl.proofs.sections.are_whole.Given as goal

abbrev pub invariant-loop-left : goal.invariant-loop-left
invariant-loop-left l = WholeSoFar l.fn.sections l.fn.key_ids l.count l.left

abbrev pub decreases-loop-left : goal.decreases-loop-left
decreases-loop-left l = length l.left
