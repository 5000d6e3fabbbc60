use Rattle.guard_sql.proofs.Left.{run_keeps_guard}
use Rattle.guard_sql.proofs.laws.a_run_keeps_the_guard.Goals as goal

pub returns : goal.returns
returns g c = run_keeps_guard c.args.files.now
