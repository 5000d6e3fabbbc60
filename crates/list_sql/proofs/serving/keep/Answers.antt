use Rattle.std.proofs.Common.{Err, Ok, subst}
use Rattle.sqlite.specs.Held.{state}
use Rattle.krl.specs.Contents.{IsPublished}
use Rattle.list_sql.proofs.Answering.{leads_nowhere}
use Rattle.list_sql.proofs.Changed.{list_kept, none_there, published_some, some_there}
use Rattle.list_sql.proofs.serving.keep.Goals as goal

pub returns-then-is_empty : goal.returns-then-is_empty
returns-then-is_empty g c = leads_nowhere (state g.S.Store c.args.conn.now)
    (λ room. published_some (subst IsPublished
    (none_there c.args.list.now c.is_empty.result c.is_empty.ensures c.if-is_empty.true) room.0))

pub returns-in-Ok : goal.returns-in-Ok
returns-in-Ok g c = list_kept (state g.S.Store c.args.conn.now) (state g.S.Store c.fill.new.conn)
    (g.met.S.Store.settled c.fill.new.conn.store) (Ok tt) c.args.list.now
    (some_there c.args.list.now c.is_empty.result c.is_empty.ensures c.if-is_empty.false) c.in-Ok.ensures

pub returns-in-Err : goal.returns-in-Err
returns-in-Err g c = rw c.register_fault.ensures (list_kept (state g.S.Store c.args.conn.now)
    (state g.S.Store c.fill.new.conn) (g.met.S.Store.settled c.fill.new.conn.store) (Err c.in-Err.fault)
    c.args.list.now (some_there c.args.list.now c.is_empty.result c.is_empty.ensures c.if-is_empty.false)
    c.in-Err.ensures)
