use Rattle.rows.proofs.Words.{state}
use Rattle.store_sql.proofs.Later.{stops}
use Rattle.guard_sql.proofs.Growth.{completed, fails, outlive, stay}
use Rattle.guard_sql.proofs.creation.create_tables.Goals as goal

pub returns-in-Ok-clause-completes : goal.returns-in-Ok-clause-completes
returns-in-Ok-clause-completes g c = completed (state g.S.Store c.args.conn.now) (state g.S.Store c.create_guard.new.conn)
    (state g.S.Store c.create_approved.new.conn) c.create_approved.result c.in-Ok.ensures.creates
    c.create_guard.ensures.survives c.create_approved.ensures.survives c.create_approved.ensures.creates

pub returns-in-Ok-clause-fault : goal.returns-in-Ok-clause-fault
returns-in-Ok-clause-fault g c = fails (state g.S.Store c.args.conn.now) (state g.S.Store c.create_guard.new.conn)
    (state g.S.Store c.create_approved.new.conn) c.create_approved.result c.in-Ok.ensures.creates
    c.create_guard.ensures.survives c.create_approved.ensures.survives c.create_approved.ensures.fault

pub returns-in-Ok-clause-stays : goal.returns-in-Ok-clause-stays
returns-in-Ok-clause-stays g c = stay (state g.S.Store c.args.conn.now) (state g.S.Store c.create_guard.new.conn)
    (state g.S.Store c.create_approved.new.conn) c.create_approved.result c.in-Ok.ensures.creates
    c.create_guard.ensures.survives c.create_approved.ensures.survives c.in-Ok.ensures.stays
    c.create_approved.ensures.stays

pub returns-in-Ok-clause-survives : goal.returns-in-Ok-clause-survives
returns-in-Ok-clause-survives g c = outlive (state g.S.Store c.args.conn.now) (state g.S.Store c.create_guard.new.conn)
    (state g.S.Store c.create_approved.new.conn) c.create_approved.result c.in-Ok.ensures.creates
    c.create_guard.ensures.survives c.create_approved.ensures.survives

pub returns-in-Err-clause-completes : goal.returns-in-Err-clause-completes
returns-in-Err-clause-completes g c clean bare inside = stops (state g.S.Store c.args.conn.now)
    (state g.S.Store c.create_guard.new.conn) (c.in-Err.ensures.creates clean)

pub returns-in-Err-clause-fault : goal.returns-in-Err-clause-fault
returns-in-Err-clause-fault g c clean bare = c.in-Err.ensures.fault clean bare.0
