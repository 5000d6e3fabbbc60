use Rattle.http_requests.proofs.Places.{starts}
use Rattle.http_requests.proofs.growing.Spot.start.Goals as goal

pub returns : goal.returns
returns c = starts
