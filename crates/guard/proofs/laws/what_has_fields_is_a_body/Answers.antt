use Rattle.guard.proofs.BodyTexts.{is_body}
use Rattle.guard.proofs.laws.what_has_fields_is_a_body.Goals as goal

pub returns : goal.returns
returns c = is_body
