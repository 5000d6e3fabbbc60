use Rattle.office_jobs.proofs.Words.{HasCleanDisk, Reports, State, ap, of_store, refl, state, subst, sym}
use Rattle.office_jobs.proofs.Printed.{reports_from, unreported}
use Rattle.office_jobs.proofs.Carried.{of_an_office, of_refused_rows}
use Rattle.office_jobs.proofs.Counted.{of_a_store, uncounted_as}
use Rattle.office_jobs.proofs.reporting.report_over.Goals as goal

pub returns-in-Err-clause-failed : goal.returns-in-Err-clause-failed
returns-in-Err-clause-failed g c =
    uncounted_as (Unit {0}) _ (of_store c.in-Err.fault) c.from.result c.from.ensures (of_a_store c.in-Err.fault)

pub returns-in-Ok-clause-reports : goal.returns-in-Ok-clause-reports
returns-in-Ok-clause-reports g c = λ honest.
    let back = ap (state g.S.Store) c.into_connection.ensures in
    let run = c.report_in-done in
    let clean : HasCleanDisk (state g.S.Store run.new.store.conn) = subst HasCleanDisk back honest in
    subst (λ (s : State). Reports c.args.report (state g.S.Store c.args.conn) s (g.W.Sink.taken c.args.out.now)
    (g.W.Sink.taken run.new.out) run.result) (sym back)
    (reports_from c.args.report (state g.S.Store c.args.conn) (state g.S.Store c.in-Ok.store.conn)
    (state g.S.Store run.new.store.conn) (g.W.Sink.taken c.args.out.now) (g.W.Sink.taken run.new.out) run.result
    (c.in-Ok.ensures.opened (run.ensures.honest clean)) (run.ensures.reports clean))

pub returns-in-Err-clause-reports : goal.returns-in-Err-clause-reports
returns-in-Err-clause-reports g c = λ honest.
    unreported c.args.report c.in-Err.fault c.from.result _ _ _ _ c.from.ensures (c.in-Err.ensures.unopened honest) refl

pub returns-in-Ok-clause-honest : goal.returns-in-Ok-clause-honest
returns-in-Ok-clause-honest g c = λ honest.
    let back = ap (state g.S.Store) c.into_connection.ensures in
    c.in-Ok.ensures.honest (c.report_in-done.ensures.honest (subst HasCleanDisk back honest))

pub returns-in-Ok-clause-rows : goal.returns-in-Ok-clause-rows
returns-in-Ok-clause-rows g c honest rows has =
    let back = ap (state g.S.Store) c.into_connection.ensures in
    let clean : HasCleanDisk (state g.S.Store c.report_in-done.new.store.conn) = subst HasCleanDisk back honest in
    of_an_office rows _ _ ((c.in-Ok.ensures.opened (c.report_in-done.ensures.honest clean)).office rows has)

pub returns-in-Err-clause-rows : goal.returns-in-Err-clause-rows
returns-in-Err-clause-rows g c honest rows has =
    of_refused_rows (Unit {0}) rows _ c.in-Err.fault c.from.result c.from.ensures ((c.in-Err.ensures.unopened honest).refused rows has)
