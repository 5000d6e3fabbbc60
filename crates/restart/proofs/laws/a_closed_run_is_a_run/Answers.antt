use Rattle.restart.proofs.Ended.{closed_runs}
use Rattle.restart.proofs.laws.a_closed_run_is_a_run.Goals as goal

pub returns : goal.returns
returns g c = closed_runs c.args.files.now
