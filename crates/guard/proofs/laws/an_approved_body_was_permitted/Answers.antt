use Rattle.guard.proofs.Histories.{asked}
use Rattle.guard.proofs.laws.an_approved_body_was_permitted.Goals as goal

pub returns : goal.returns
returns c = asked
