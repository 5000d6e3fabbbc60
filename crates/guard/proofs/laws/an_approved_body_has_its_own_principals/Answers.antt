use Rattle.guard.proofs.OwnNames.{all_own}
use Rattle.guard.proofs.laws.an_approved_body_has_its_own_principals.Goals as goal

pub returns : goal.returns
returns c = all_own
