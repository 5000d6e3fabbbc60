use Rattle.restart.proofs.HowEnded.{ends_runs}
use Rattle.restart.proofs.ending.end_at.Goals as goal

pub returns-clause-runs : goal.returns-clause-runs
returns-clause-runs g c =
    ends_runs g.met.D.Disk.seen_may_stay c.args.conn c.end_at.result.0 c.end_at.result.1 c.end_at.ensures
