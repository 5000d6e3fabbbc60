use Rattle.krl.proofs.ReadBack.{read_back}
use Rattle.krl.proofs.laws.what_is_written_is_read.Goals as goal

pub returns : goal.returns
returns c = read_back
