use Rattle.std.proofs.Common.{Err, Ok, refl}
use Rattle.sqlite.specs.Held.{state}
use Rattle.guard_sql.proofs.Several.{bodies_kept}
use Rattle.guard_sql.proofs.serving.keep.Goals as goal

pub returns-in-Ok : goal.returns-in-Ok
returns-in-Ok g c = bodies_kept (state g.S.Store c.args.conn.now) (state g.S.Store c.keep_approvals.new.conn)
    (g.met.S.Store.settled c.keep_approvals.new.conn.store) (Ok tt) c.args.rows.now (c.if-not-are_low.ensures.low refl)
    c.in-Ok.ensures

pub returns-in-Err : goal.returns-in-Err
returns-in-Err g c = rw c.register_fault.ensures (bodies_kept (state g.S.Store c.args.conn.now)
    (state g.S.Store c.keep_approvals.new.conn) (g.met.S.Store.settled c.keep_approvals.new.conn.store)
    (Err c.in-Err.fault) c.args.rows.now (c.if-not-are_low.ensures.low refl) c.in-Err.ensures)
