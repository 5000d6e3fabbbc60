use Rattle.krl.proofs.Words.{List, length, ℕ, ◌+◌}
use Rattle.krl.specs.Fronts.{AreIds}
use Rattle.krl.proofs.IdLaws.{IdsStillKept}
use Rattle.krl.proofs.key_ids.keeps_ids.Given as goal

abbrev pub invariant-loop-id : goal.invariant-loop-id
invariant-loop-id l =
    (ids others : List (List ℕ)) → AreIds l.fn.old ids → AreIds l.fn.new others
    → IdsStillKept ids others l.wanted l.left

abbrev pub decreases-loop-id : goal.decreases-loop-id
decreases-loop-id l = length l.wanted + length l.left
