use Rattle.guard_sql.proofs.Left.{ends_well}
use Rattle.guard_sql.proofs.ending.end_at.Goals as goal

pub returns-clause-well : goal.returns-clause-well
returns-clause-well g c =
    ends_well g.met.D.Disk.seen_may_stay c.args.conn c.end_at.result.0 c.end_at.result.1 c.end_at.ensures
