use Rattle.guard_sql.proofs.Steps.{added}
use Rattle.guard_sql.proofs.laws.an_added_body_was_permitted.Goals as goal

pub returns : goal.returns
returns c = added
