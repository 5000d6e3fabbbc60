use Rattle.guard_sql.proofs.Steps.{is_later}
use Rattle.guard_sql.proofs.laws.a_guard_only_narrows.Goals as goal

pub returns : goal.returns
returns c = is_later
