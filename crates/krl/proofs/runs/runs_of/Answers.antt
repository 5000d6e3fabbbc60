use Rattle.krl.proofs.Words.{IsStrictlyIncreasing, subst}
use Rattle.krl.proofs.runs.runs_of.Goals as goal

pub gathered-requires : goal.gathered-requires
gathered-requires c = subst IsStrictlyIncreasing c.in-Some.ensures.cases.0 c.requires
