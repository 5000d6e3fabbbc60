use Rattle.store.proofs.Words.{Had, HasCleanDisk, Waits, arith, migrated, state}
use Rattle.store.proofs.Steps.{ends, left}
use Rattle.store.proofs.Judging.{judged_fault, judged_whole}
use Rattle.store.proofs.Before.{concludes_before, fails_before}
use Rattle.store.proofs.migration.migrating.migrate_whole.Goals as goal

pub returns-in-Ok : goal.returns-in-Ok
returns-in-Ok g c =
    let old = state g.S.Store c.args.conn.now in
    let first = state g.S.Store c.begin.new.conn in
    let last = state g.S.Store c.move_tables-moved.new.conn in
    let new = state g.S.Store c.end.new.conn in
    let moved = c.move_tables-moved in
    let end = c.end.ensures in
    let late : HasCleanDisk new → HasCleanDisk last = λ clean. omega (arith, end.survives.clean) in
    let early : HasCleanDisk new → HasCleanDisk first =
    λ clean. omega (arith, end.survives.clean, moved.ensures.survives.clean) in
    record {
      ends = λ clean. ends Had (λ _ _. Unit {0}) migrated old first last new moved.result c.end.result
          (c.in-Ok.ensures.begins (early clean)) (moved.ensures.makes (late clean)) (end.concludes clean);
      judges = λ clean con rests. judged_whole (λ _. ⊥) (Waits Had first) old first last new con moved.result
          c.end.result c.begin.ensures.survives (early clean) moved.ensures.survives (late clean) end.survives.counts
          rests (c.in-Ok.ensures.begins (early clean)) (moved.ensures.makes (late clean))
          (moved.ensures.judges (late clean)) (end.tells clean);
      before = λ clean. concludes_before old first last new moved.result c.end.result
          (c.in-Ok.ensures.begins (early clean)) (moved.ensures.stays (late clean)) (end.concludes clean);
      survives = left Had (λ _ _. Unit {0}) migrated old first last new moved.result c.in-Ok.ensures.begins
          moved.ensures.makes c.begin.ensures.survives moved.ensures.survives end.survives;
    }

pub returns-in-Err-clause-judges : goal.returns-in-Err-clause-judges
returns-in-Err-clause-judges g c clean con rests =
    rw c.fault_of.ensures (judged_fault (state g.S.Store c.args.conn.now) (state g.S.Store c.begin.new.conn) con
    c.in-Err.fault (c.in-Err.ensures.fault clean rests.autocommit))

pub returns-in-Err-clause-before : goal.returns-in-Err-clause-before
returns-in-Err-clause-before g c clean = fails_before _ _ (c.in-Err.ensures.begins clean)
