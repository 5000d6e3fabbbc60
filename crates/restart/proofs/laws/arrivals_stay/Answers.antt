use Rattle.restart.proofs.Adding.{arrivals_stay}
use Rattle.restart.proofs.laws.arrivals_stay.Goals as goal

pub returns : goal.returns
returns g = arrivals_stay
