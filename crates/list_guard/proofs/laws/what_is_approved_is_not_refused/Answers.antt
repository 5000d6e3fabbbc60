use Rattle.list_guard.proofs.ListLaws.{not_refused}
use Rattle.list_guard.proofs.laws.what_is_approved_is_not_refused.Goals as goal

pub returns : goal.returns
returns c = not_refused
