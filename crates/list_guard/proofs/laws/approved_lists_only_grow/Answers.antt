use Rattle.list_guard.specs.Machine.{opened}
use Rattle.list_guard.proofs.ListLaws.{grow}
use Rattle.list_guard.proofs.laws.approved_lists_only_grow.Goals as goal

pub returns : goal.returns
returns c qs lists t h = (grow qs opened lists t h).1
