use Rattle.guard_sql.proofs.Steps.{none_over}
use Rattle.guard_sql.proofs.laws.a_retired_guard_stays_retired.Goals as goal

pub returns : goal.returns
returns c = none_over
