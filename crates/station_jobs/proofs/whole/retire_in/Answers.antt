use Rattle.station_jobs.specs.Leaving.{OfRetiring}
use Rattle.station_jobs.specs.Whole.{Retires}
use Rattle.station_jobs.proofs.Filed.{ran_in, retires_so}
use Rattle.station_jobs.proofs.whole.retire_in.Goals as goal

pub returns-in-Ok : goal.returns-in-Ok
returns-in-Ok g c =
    let is = c.retire_over-done.ensures in
    ran_in g.G.Register g.D.GuardFile c.requires (OfRetiring c.args.last) (Retires c.args.last)
    (retires_so c.args.last) (Unit {0}) c.args.db.now
    c.open.new.self c.close.new.self c.args.path.now c.in-Ok.guard c.retire_over-done.new.register
    c.retire_over-done.result c.close.result c.closed.result c.in-Ok.ensures (is.honest, is.retires) is.reported c.close.ensures
    c.closed.ensures
