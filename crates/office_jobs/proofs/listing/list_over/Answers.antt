use Rattle.office_jobs.proofs.Words.{HasCleanDisk, IfErr-weaker, PrintsKrl, State, ap, of_store, refl, state, subst, sym}
use Rattle.office_jobs.proofs.Words.{◌∙◌}
use Rattle.office_jobs.proofs.Printed.{listed, unlisted}
use Rattle.office_jobs.proofs.Carried.{of_an_office, of_refused_rows}
use Rattle.office_jobs.proofs.Counted.{of_a_store, uncounted_as}
use Rattle.office_jobs.proofs.listing.list_over.Goals as goal

pub returns-in-Ok-clause-lists : goal.returns-in-Ok-clause-lists
returns-in-Ok-clause-lists g c = λ honest.
    let back = ap (state g.S.Store) c.into_connection.ensures in
    let clean : HasCleanDisk (state g.S.Store c.publish.new.store.conn) = subst HasCleanDisk back honest in
    let run = c.publish in
    let held = g.W.Sink.taken c.args.out.now in
    let holds = g.W.Sink.taken run.new.sink in
    subst (λ (s : State). PrintsKrl (state g.S.Store c.args.conn) s held holds c.of_publishing-done.result) (sym back)
    (listed run.result c.of_publishing-done.result (state g.S.Store c.args.conn) (state g.S.Store c.in-Ok.store.conn)
    (state g.S.Store run.new.store.conn) held holds
    c.of_publishing-done.ensures.value (c.in-Ok.ensures.opened (run.ensures.honest clean)) (run.ensures.list clean)
    (run.ensures.part clean) (run.ensures.same clean) (run.ensures.found clean) (run.ensures.before clean)
    (IfErr-weaker run.result _ _ (λ e still other. ap g.W.Sink.taken (still other)) run.ensures.unwritten)
    (run.ensures.only clean) clean run.ensures.cause)

pub returns-in-Ok-clause-failed : goal.returns-in-Ok-clause-failed
returns-in-Ok-clause-failed g c =
    c.publish.ensures.failed ∙ sym (c.of_publishing-done.ensures.counts (g.W.Sink.failed c.args.out.now))

pub returns-in-Err-clause-failed : goal.returns-in-Err-clause-failed
returns-in-Err-clause-failed g c =
    uncounted_as (Unit {0}) _ (of_store c.in-Err.fault) c.from.result c.from.ensures (of_a_store c.in-Err.fault)

pub returns-in-Err-clause-lists : goal.returns-in-Err-clause-lists
returns-in-Err-clause-lists g c = λ honest.
    unlisted c.in-Err.fault c.from.result _ _ _ _ c.from.ensures (c.in-Err.ensures.unopened honest) refl

pub returns-in-Ok-clause-honest : goal.returns-in-Ok-clause-honest
returns-in-Ok-clause-honest g c = λ honest.
    let back = ap (state g.S.Store) c.into_connection.ensures in
    c.in-Ok.ensures.honest (c.publish.ensures.honest (subst HasCleanDisk back honest))

pub returns-in-Ok-clause-rows : goal.returns-in-Ok-clause-rows
returns-in-Ok-clause-rows g c honest rows has =
    let back = ap (state g.S.Store) c.into_connection.ensures in
    let clean : HasCleanDisk (state g.S.Store c.publish.new.store.conn) = subst HasCleanDisk back honest in
    of_an_office rows _ _ ((c.in-Ok.ensures.opened (c.publish.ensures.honest clean)).office rows has)

pub returns-in-Err-clause-rows : goal.returns-in-Err-clause-rows
returns-in-Err-clause-rows g c honest rows has =
    of_refused_rows (Unit {0}) rows _ c.in-Err.fault c.from.result c.from.ensures ((c.in-Err.ensures.unopened honest).refused rows has)
