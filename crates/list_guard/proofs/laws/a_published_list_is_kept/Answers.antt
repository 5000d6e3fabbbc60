use Rattle.list_guard.specs.Machine.{opened}
use Rattle.list_guard.proofs.ListLaws.{lawful}
use Rattle.list_guard.proofs.laws.a_published_list_is_kept.Goals as goal

pub returns : goal.returns
returns c qs lists t h = lawful qs opened lists t h tt
