use Rattle.rows.proofs.Words.{Creates, HasCause, no_schema, state}
use Rattle.guard_sql.proofs.Words.{guard}
use Rattle.store_sql.proofs.FoundLemmas.{done_as, fault_done}
use Rattle.store_sql.proofs.Makes.{create_faults, create_stays, creates, creates_left}
use Rattle.store_sql.proofs.Statements.{survives_as}
use Rattle.guard_sql.proofs.Makes.{guard_makeable}
use Rattle.guard_sql.proofs.creation.create_guard.Goals as goal

pub returns-clause-creates : goal.returns-clause-creates
returns-clause-creates g c clean =
    let old = state g.S.Store c.args.conn.now in
    let new = state g.S.Store c.execute.new.self in
    done_as (Creates no_schema guard old new) (Creates no_schema guard old new) (λ n x h. h) (λ e h. h) c.execute.result
    c.done.result c.done.ensures.is (creates guard_makeable.create old new c.execute.result (c.execute.ensures.runs clean))

pub returns-clause-fault : goal.returns-clause-fault
returns-clause-fault g c clean has =
    let old = state g.S.Store c.args.conn.now in
    let new = state g.S.Store c.execute.new.self in
    fault_done (HasCause old new) c.execute.result c.done.result c.done.ensures.is
    (create_faults guard_makeable old new has c.execute.result (c.execute.ensures.runs clean))

pub returns-clause-stays : goal.returns-clause-stays
returns-clause-stays g c clean = create_stays guard_makeable.create (state g.S.Store c.args.conn.now)
    (state g.S.Store c.execute.new.self) c.execute.result c.done.result c.done.ensures.is (c.execute.ensures.runs clean)

pub returns-clause-survives : goal.returns-clause-survives
returns-clause-survives g c = survives_as (state g.S.Store c.args.conn.now) (state g.S.Store c.execute.new.self) _ _
    (creates_left guard_makeable.create (state g.S.Store c.args.conn.now)) c.execute.ensures.survives
