use Rattle.http_requests.proofs.OneAsk.{same_path}
use Rattle.http_requests.proofs.laws.texts_tell_paths.Goals as goal

pub returns : goal.returns
returns c = same_path
