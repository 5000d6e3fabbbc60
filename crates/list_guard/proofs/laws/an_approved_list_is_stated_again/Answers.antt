use Rattle.list_guard.proofs.ListLaws.{again}
use Rattle.list_guard.proofs.laws.an_approved_list_is_stated_again.Goals as goal

pub returns : goal.returns
returns c = again
