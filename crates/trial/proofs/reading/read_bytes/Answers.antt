use Rattle.trial.proofs.Causes.{tells}
use Rattle.trial.proofs.reading.read_bytes.Goals as goal

pub returns-clause-tells : goal.returns-clause-tells
returns-clause-tells g c =
    tells (λ v. v.items) c.read_first.result (g.R.Read.remaining c.args.reader) c.read_first.ensures.first
