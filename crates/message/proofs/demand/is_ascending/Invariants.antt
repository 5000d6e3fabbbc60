use Rattle.std.proofs.Common.{◌≡◌, length}
use Rattle.message.specs.Values.{is_ascending}
use Rattle.message.proofs.demand.is_ascending.Given as goal

abbrev pub invariant-loop-rest : goal.invariant-loop-rest
invariant-loop-rest l = is_ascending l.rest ≡ is_ascending l.options

abbrev pub decreases-loop-rest : goal.decreases-loop-rest
decreases-loop-rest l = length l.rest
