use Rattle.std.proofs.Common.{Err, Ok}
use Rattle.sqlite.specs.Held.{state}
use Rattle.guard_sql.proofs.Changed.{last_set}
use Rattle.guard_sql.proofs.serving.set_last.Goals as goal

pub returns-in-Ok : goal.returns-in-Ok
returns-in-Ok g c = last_set (state g.S.Store c.args.conn.now) (state g.S.Store c.end_at.new.conn)
    (g.met.S.Store.settled c.end_at.new.conn.store) (Ok tt) c.args.last
    (rw c.in-Some.ensures.value at c.in-Ok.ensures)

pub returns-in-Err : goal.returns-in-Err
returns-in-Err g c = rw c.register_fault.ensures (last_set (state g.S.Store c.args.conn.now)
    (state g.S.Store c.end_at.new.conn) (g.met.S.Store.settled c.end_at.new.conn.store) (Err c.in-Err.fault) c.args.last
    (rw c.in-Some.ensures.value at c.in-Err.ensures))
