use Rattle.sqlite.specs.Held.{state}
use Rattle.guard_sql.specs.Changes.{with_guard}
use Rattle.guard_sql.specs.Contents.{guard_tables, no_contents}
use Rattle.guard_sql.specs.Refusals.{RefusesGuard}
use Rattle.rows.proofs.Blanks.{made, unmade}
use Rattle.guard_sql.proofs.creating.make.Goals as goal

pub returns-in-Ok : goal.returns-in-Ok
returns-in-Ok g c = made guard_tables (state g.S.Store c.args.conn.now) (state g.S.Store c.create_tables.new.conn)
    (state g.S.Store c.insert_guard.new.conn) c.insert_guard.result c.in-Ok.ensures.completes c.in-Ok.ensures.stays
    c.create_tables.ensures.survives c.insert_guard.ensures

pub returns-in-Err : goal.returns-in-Err
returns-in-Err g c = unmade guard_tables (with_guard c.args.guard.now no_contents) (RefusesGuard c.args.guard.now no_contents)
    (state g.S.Store c.args.conn.now) (state g.S.Store c.create_tables.new.conn) c.in-Err.fault c.in-Err.ensures.completes
    c.in-Err.ensures.fault c.in-Err.ensures.stays c.create_tables.ensures.survives
