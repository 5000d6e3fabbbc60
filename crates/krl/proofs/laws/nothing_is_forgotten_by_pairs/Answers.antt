use Rattle.krl.proofs.Forgetting.{pairs_are_enough, pairs_must_be_kept}
use Rattle.krl.proofs.laws.nothing_is_forgotten_by_pairs.Goals as goal

pub returns : goal.returns
returns c old new h k = (pairs_must_be_kept old new h k, pairs_are_enough old new h k)
