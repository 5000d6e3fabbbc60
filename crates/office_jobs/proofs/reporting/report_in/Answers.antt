use Rattle.office_jobs.proofs.Words.{Err, IsReport, JobFault, arith, get, length, of_store, refl, resource_of, state, subst, sym}
use Rattle.office_jobs.proofs.Words.{◌<◌, ◌^◌}
use Rattle.office_jobs.proofs.Carried.{before_open, excused}
use Rattle.office_jobs.proofs.Printed.{report_fault}
use Rattle.office_jobs.proofs.Reported.{is_plain, reported, unfound}
use Rattle.office_jobs.proofs.Counted.{of_a_store, uncounted_as}
use Rattle.office_jobs.proofs.reporting.report_in.Goals as goal

pub returns-in-Some-clause-reports : goal.returns-in-Some-clause-reports
returns-in-Some-clause-reports g c = λ clean.
    let old = state g.S.Store c.args.store.now.conn in
    let new = state g.S.Store c.respond.new.store.conn in
    let response = c.in-Ok.response in
    let short : length response.items < 2 ^ 64 = omega (arith, response.small, response.ok.0, response.ok.1) in record {
      before = before_open old new (c.respond.ensures.reads (get (resource_of c.args.report), c.request.ensures, tt) clean);
      came = reported c.args.report old new
          (g.W.Sink.taken c.args.out.now) (g.W.Sink.taken c.write_out.new.out) c.request.result.now _ _ response.items
          c.as_slice.result.now c.in-Some.body.now c.write_out.result c.one_ask.ensures c.request.ensures
          (c.in-Ok.ensures.answered clean) c.as_slice.ensures.value short c.in-Ok.ensures.form c.in-Some.ensures c.write_out.ensures.ok
          c.write_out.ensures.part c.write_out.ensures.only;
    }

pub returns-in-Ok-clause-reports : goal.returns-in-Ok-clause-reports
returns-in-Ok-clause-reports g c = λ clean.
    let old = state g.S.Store c.args.store.now.conn in
    let new = state g.S.Store c.respond.new.store.conn in
    let response = c.in-Ok.response in
    let short : length response.items < 2 ^ 64 = omega (arith, response.small, response.ok.0, response.ok.1) in record {
      before = before_open old new (c.respond.ensures.reads (get (resource_of c.args.report), c.request.ensures, tt) clean);
      came = unfound c.args.report old new
          (g.W.Sink.taken c.args.out.now) c.request.result.now _ _ response.items c.as_slice.result.now c.one_ask.ensures
          c.request.ensures (c.in-Ok.ensures.answered clean) c.as_slice.ensures.value short c.in-None.ensures;
    }

pub returns-clause-reports : goal.returns-clause-reports
returns-clause-reports g c = λ clean.
    let old = state g.S.Store c.args.store.now.conn in
    let new = state g.S.Store c.respond.new.store.conn in
    let held = g.W.Sink.taken c.args.out.now in record {
      before = before_open old new (c.respond.ensures.reads (get (resource_of c.args.report), c.request.ensures, tt) clean);
      came = subst (λ (f : JobFault). IsReport c.args.report old new held held (Err f)) (sym c.from.ensures)
          (report_fault c.args.report c.in-Err.fault old new held held (record {
            unprinted = refl;
            tells = c.in-Err.ensures.fault clean;
            only = λ is_open o l m. excused c.in-Err.fault old new clean o l m (c.in-Err.ensures.only clean o l m)
                (c.in-Err.ensures.plain
                (get (resource_of c.args.report), c.request.ensures, is_plain c.args.report) clean);
          }));
    }

pub returns-clause-failed : goal.returns-clause-failed
returns-clause-failed g c =
    uncounted_as (Unit {0}) _ (of_store c.in-Err.fault) c.from.result c.from.ensures (of_a_store c.in-Err.fault)
