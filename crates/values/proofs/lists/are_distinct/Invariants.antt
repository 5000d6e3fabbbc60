use Rattle.std.proofs.Common.{◌≡◌, length}
use Rattle.values.specs.Lists.{are_distinct}
use Rattle.values.proofs.lists.are_distinct.Given as goal

abbrev pub invariant-loop-rest : goal.invariant-loop-rest
invariant-loop-rest l = are_distinct l.fn.texts ≡ are_distinct l.rest

abbrev pub decreases-loop-rest : goal.decreases-loop-rest
decreases-loop-rest l = length l.rest
