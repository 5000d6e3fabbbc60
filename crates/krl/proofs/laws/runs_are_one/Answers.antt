use Rattle.krl.proofs.Maximal.{runs_unique}
use Rattle.krl.proofs.laws.runs_are_one.Goals as goal

pub returns : goal.returns
returns c = runs_unique 0 0
