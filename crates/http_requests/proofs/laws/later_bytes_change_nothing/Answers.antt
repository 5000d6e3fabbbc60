use Rattle.http_requests.proofs.Asking.{later_of}
use Rattle.http_requests.proofs.laws.later_bytes_change_nothing.Goals as goal

pub returns : goal.returns
returns c = later_of
