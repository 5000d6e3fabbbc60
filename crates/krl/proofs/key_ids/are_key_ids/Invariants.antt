use Rattle.krl.proofs.Words.{length}
use Rattle.std.specs.Option.{option_copied}
use Rattle.krl.proofs.IdLaws.{IdsSoFar}
use Rattle.krl.proofs.key_ids.are_key_ids.Given as goal

abbrev pub invariant-loop-left : goal.invariant-loop-left
invariant-loop-left l = IdsSoFar l.fn.bytes (option_copied l.last) l.left

abbrev pub decreases-loop-left : goal.decreases-loop-left
decreases-loop-left l = length l.left
