use Rattle.guard.proofs.Retired.{signs_again}
use Rattle.guard.proofs.laws.a_retired_guard_signs_again.Goals as goal

pub returns : goal.returns
returns c = signs_again
