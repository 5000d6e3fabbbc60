use Rattle.restart.proofs.Left.{run_keeps_office}
use Rattle.restart.proofs.laws.a_run_keeps_the_office.Goals as goal

pub returns : goal.returns
returns g c = run_keeps_office c.args.files.now
