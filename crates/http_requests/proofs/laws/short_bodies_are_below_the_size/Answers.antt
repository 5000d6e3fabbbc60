use Rattle.http_requests.proofs.Asking.{short_below}
use Rattle.http_requests.proofs.laws.short_bodies_are_below_the_size.Goals as goal

pub returns : goal.returns
returns c = short_below
