use Rattle.guard_sql.proofs.Steps.{once}
use Rattle.guard_sql.proofs.laws.a_kept_serial_has_one_body.Goals as goal

pub returns : goal.returns
returns c = once
