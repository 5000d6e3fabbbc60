use Rattle.guard.proofs.Histories.{stays}
use Rattle.guard.proofs.laws.a_body_that_was_approved_stays.Goals as goal

pub returns : goal.returns
returns c = stays
