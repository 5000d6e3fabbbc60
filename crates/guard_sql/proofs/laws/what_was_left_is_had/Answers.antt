use Rattle.sqlite.specs.Held.{state}
use Rattle.guard_sql.proofs.Opened.{found_is_had, has_what_is_held}
use Rattle.guard_sql.proofs.laws.what_was_left_is_had.Goals as goal

pub returns : goal.returns
returns g c image new may s kept =
    let conn = state g.S.Store c.args.conn.now in
    has_what_is_held image conn new.0 new.1 new.2 (found_is_had conn) s (kept image may)
