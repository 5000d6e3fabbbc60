use Rattle.guard_sql.proofs.Steps.{signs}
use Rattle.guard_sql.proofs.laws.a_kept_body_is_signed_again.Goals as goal

pub returns : goal.returns
returns c = signs
