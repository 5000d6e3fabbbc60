use Rattle.guard.proofs.Histories.{again}
use Rattle.guard.proofs.laws.an_approved_body_is_signed_again.Goals as goal

pub returns : goal.returns
returns c = again
