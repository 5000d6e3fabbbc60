use Rattle.list_guard.specs.Machine.{opened}
use Rattle.list_guard.proofs.ListLaws.{live}
use Rattle.list_guard.proofs.laws.stated_lists_only_grow.Goals as goal

pub returns : goal.returns
returns c calls t h = (live calls opened t h).1
