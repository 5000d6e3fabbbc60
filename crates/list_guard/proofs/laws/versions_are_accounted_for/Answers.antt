use Rattle.list_guard.specs.Machine.{opened}
use Rattle.list_guard.proofs.ListLaws.{accounted}
use Rattle.list_guard.proofs.laws.versions_are_accounted_for.Goals as goal

pub returns : goal.returns
returns c qs lists t h = accounted qs opened lists t h (λ kept is. absurd cc)
