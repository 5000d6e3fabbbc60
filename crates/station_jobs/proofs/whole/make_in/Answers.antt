use Rattle.std.proofs.Common.{Ok}
use Rattle.station_jobs.proofs.Filed.{closes_new}
use Rattle.station_jobs.proofs.whole.make_in.Goals as goal

pub returns-in-Ok : goal.returns-in-Ok
returns-in-Ok g c = record {
  found = Ok c.in-Ok.guard;
  made = c.make.new.self;
  is_made = c.in-Ok.ensures;
  ran = closes_new g.G.Register g.D.GuardFile c.requires.keeps c.args.db.now c.make.new.self c.close.new.self
      c.args.path.now c.args.scope.now c.in-Ok.guard c.close.result c.in-Ok.ensures c.close.ensures;
}
