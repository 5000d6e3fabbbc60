use Rattle.office.proofs.Sizes.{due_short}
use Rattle.office.proofs.laws.replies_are_short.Goals as goal

pub returns : goal.returns
returns c = due_short
