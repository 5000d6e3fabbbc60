use Rattle.store.proofs.Words.{Had, HasCleanDisk, HasNoCa, HasStopped, WaitsAt, arith, migrated, refl, state}
use Rattle.store.proofs.Words.{stays_then, without_ca}
use Rattle.store.proofs.Steps.{answers_then, waits_then}
use Rattle.store.proofs.Failing.{stopped_late}
use Rattle.store.proofs.Judging.{judged_fault, judged_for}
use Rattle.store.proofs.Moves.{made_leads, made_waits}
use Rattle.store.proofs.migration.moving.move_tables.Goals as goal

pub returns-in-Ok : goal.returns-in-Ok
returns-in-Ok g c =
    let old = state g.S.Store c.args.conn.now in
    let mid = state g.S.Store c.create_ca.new.conn in
    let new = state g.S.Store c.fill.new.conn in
    let one = c.create_ca.ensures.survives in
    let rest = c.fill.ensures in
    let before : HasCleanDisk new → HasCleanDisk mid = λ clean. omega (arith, rest.survives.clean) in
    record {
      makes = λ clean. answers_then Had (λ _ _. Unit {0}) migrated HasNoCa (λ _ _. Unit {0}) migrated (λ x. x) old
          mid new c.fill.result (made_leads old mid (c.in-Ok.ensures.adds (before clean))) (rest.makes clean)
          (λ _ _ _. tt) (λ _. refl);
      judges = λ clean con had. judged_for con (HasStopped con mid new) (HasStopped con old new) c.fill.result
          (stopped_late (WaitsAt without_ca old) old mid new con one (before clean) rest.survives.counts)
          (rest.judges clean con (made_leads old mid (c.in-Ok.ensures.adds (before clean)) con had).2);
      stays = λ clean. stays_then {X = Unit {0}} old mid new tt c.fill.result
          (c.in-Ok.ensures.stays (before clean)) (rest.stays clean);
      survives = waits_then Had HasNoCa (λ x. x) old mid new (λ clean. made_leads old mid (c.in-Ok.ensures.adds clean))
          (made_waits old mid one) rest.survives;
    }

pub returns-in-Err-clause-survives : goal.returns-in-Err-clause-survives
returns-in-Err-clause-survives g c = made_waits _ _ c.create_ca.ensures.survives

pub returns-in-Err-clause-judges : goal.returns-in-Err-clause-judges
returns-in-Err-clause-judges g c clean con had =
    rw c.fault_of.ensures (judged_fault (state g.S.Store c.args.conn.now) (state g.S.Store c.create_ca.new.conn) con
    c.in-Err.fault (c.in-Err.ensures.fault clean had.schema))
