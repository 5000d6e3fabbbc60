use Rattle.office_jobs.proofs.Words.{Applies, HasCleanDisk, IsAsBefore, State, ap, of_store, state, subst, sym, ◌∙◌}
use Rattle.office_jobs.proofs.Carried.{applied, before_again, before_open, of_an_office, of_refused_rows}
use Rattle.office_jobs.proofs.Counted.{of_a_store, uncounted_as}
use Rattle.office_jobs.proofs.applying.apply_over.Goals as goal

pub returns-in-Ok-clause-failed : goal.returns-in-Ok-clause-failed
returns-in-Ok-clause-failed g c =
    c.replay.ensures.failed ∙ sym (c.of_a_run-done.ensures.counts (g.W.Sink.failed c.args.out.now))

pub returns-in-Err-clause-failed : goal.returns-in-Err-clause-failed
returns-in-Err-clause-failed g c =
    uncounted_as (Unit {0}) _ (of_store c.in-Err.fault) c.from.result c.from.ensures (of_a_store c.in-Err.fault)

pub returns-in-Ok-clause-applies : goal.returns-in-Ok-clause-applies
returns-in-Ok-clause-applies g c honest =
    let back = ap (state g.S.Store) c.into_connection.ensures in
    let clean : HasCleanDisk (state g.S.Store c.replay.new.store.conn) = subst HasCleanDisk back honest in
    let run = c.replay in
    subst (λ (s : State). Applies c.args.exchanges.now (state g.S.Store c.args.conn) s
    (g.W.Sink.taken c.args.out.now) (g.W.Sink.taken run.new.out) c.of_a_run-done.result) (sym back)
    (applied run.result c.of_a_run-done.result
    c.args.exchanges.now (state g.S.Store c.args.conn) (state g.S.Store c.in-Ok.store.conn)
    (state g.S.Store run.new.store.conn)
    (g.W.Sink.taken c.args.out.now) (g.W.Sink.taken run.new.out) c.of_a_run-done.ensures.value
    (c.in-Ok.ensures.opened (run.ensures.honest clean)) (run.ensures.ok clean) (run.ensures.fault clean)
    (run.ensures.write clean)
    (λ e. ap (λ s. state g.S.Store s.conn) (run.ensures.unrun e))
    (λ e. ap g.W.Sink.taken (run.ensures.unprinted e)))

pub returns-in-Ok-clause-honest : goal.returns-in-Ok-clause-honest
returns-in-Ok-clause-honest g c = λ honest.
    let back = ap (state g.S.Store) c.into_connection.ensures in
    c.in-Ok.ensures.honest (c.replay.ensures.honest (subst HasCleanDisk back honest))

pub returns-in-Ok-clause-rows : goal.returns-in-Ok-clause-rows
returns-in-Ok-clause-rows g c honest rows has =
    let back = ap (state g.S.Store) c.into_connection.ensures in
    let clean : HasCleanDisk (state g.S.Store c.replay.new.store.conn) = subst HasCleanDisk back honest in
    of_an_office rows _ _ ((c.in-Ok.ensures.opened (c.replay.ensures.honest clean)).office rows has)

pub returns-in-Err-clause-rows : goal.returns-in-Err-clause-rows
returns-in-Err-clause-rows g c honest rows has =
    of_refused_rows (Unit {0}) rows _ c.in-Err.fault c.from.result c.from.ensures ((c.in-Err.ensures.unopened honest).refused rows has)

pub returns-in-Ok-clause-reads : goal.returns-in-Ok-clause-reads
returns-in-Ok-clause-reads g c none honest =
    let back = ap (state g.S.Store) c.into_connection.ensures in
    let clean : HasCleanDisk (state g.S.Store c.replay.new.store.conn) = subst HasCleanDisk back honest in
    subst (λ (s : State). IsAsBefore (state g.S.Store c.args.conn) s) (sym back)
    (before_again (state g.S.Store c.args.conn) (state g.S.Store c.in-Ok.store.conn)
    (state g.S.Store c.replay.new.store.conn) (c.in-Ok.ensures.opened (c.replay.ensures.honest clean)).before
    (before_open (state g.S.Store c.in-Ok.store.conn) (state g.S.Store c.replay.new.store.conn)
    (c.replay.ensures.reads none clean)))

pub returns-in-Err-clause-reads : goal.returns-in-Err-clause-reads
returns-in-Err-clause-reads g c none honest = (c.in-Err.ensures.unopened honest).before
