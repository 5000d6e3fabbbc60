use Rattle.http_requests.proofs.OneAsk.{one_of}
use Rattle.http_requests.proofs.laws.one_ask.Goals as goal

pub returns : goal.returns
returns c = one_of
