use Rattle.office_jobs.proofs.Telling.{tells}
use Rattle.office_jobs.proofs.file_reader.read_exchanges_of.Goals as goal

pub returns : goal.returns
returns g c =
    tells (λ v. v.items) c.read_first.result (g.R.Read.remaining c.args.reader) c.read_first.ensures
