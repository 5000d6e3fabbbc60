use Rattle.guard.proofs.Allowed.{approved_if_new}
use Rattle.guard.proofs.laws.what_may_be_signed_is_approved.Goals as goal

pub returns : goal.returns
returns c = approved_if_new
