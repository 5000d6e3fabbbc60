use Rattle.sqlite.specs.Held.{state}
use Rattle.store.proofs.Taken.{applied}
use Rattle.store.proofs.registry.StoreRegistry.apply.Goals as goal

pub returns : goal.returns
returns g c =
    let q = c.take.ensures in
    let t = applied c.args.arrival (state g.S.Store c.args.self.now.conn) (state g.S.Store c.take.new.conn)
    c.take.result c.told.result c.told.ensures q.ends q.cause q.before q.short q.survives
    (g.met.S.Store.settled c.take.new.conn.store) in
    assumption t
