use Rattle.guard_sql.proofs.Steps.{asked}
use Rattle.guard_sql.proofs.laws.a_kept_body_was_permitted.Goals as goal

pub returns : goal.returns
returns c = asked
