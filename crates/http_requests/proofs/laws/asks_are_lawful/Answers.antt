use Rattle.http_requests.proofs.Asking.{lawful_of}
use Rattle.http_requests.proofs.laws.asks_are_lawful.Goals as goal

pub returns : goal.returns
returns c = lawful_of
