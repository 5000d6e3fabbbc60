use Rattle.restart.proofs.Ended.{cut_runs}
use Rattle.restart.proofs.laws.a_cut_run_is_a_run.Goals as goal

pub returns : goal.returns
returns g c = cut_runs g.met.D.Disk.seen_may_stay c.args.store.now
