use Rattle.office_jobs.proofs.Words.{AsksOffice, Err, IfErr-weaker, JobFault, Ok, Result, ap, arith, failures_after, refl}
use Rattle.office_jobs.proofs.Words.{IfErr, state, subst, sym, ◌∙◌, ℕ, ◌≡◌}
use Rattle.std.specs.Prelude.{IsOk}
use Rattle.office_jobs.proofs.Additions.{done as added}
use Rattle.office_jobs.proofs.Ended.{told}
use Rattle.office_jobs.proofs.Counted.{at_most_one, closed_counts, of_opening, uncounted}
use Rattle.office_jobs.proofs.Doing.{does_asked, unopened_asked}
use Rattle.office_jobs.proofs.Idle.{idles_on}
use Rattle.office_jobs.specs.Faults.{IsOfOpening}
use Rattle.office_jobs.proofs.Found.{kept, opened_for, ran, ready_for}
use Rattle.office_jobs.proofs.whole.do_in.Goals as goal

pub returns-in-Ok-clause-does : goal.returns-in-Ok-clause-does
returns-in-Ok-clause-does g c = record {
  between = g.O.Sink.taken c.do_on-outcome.result.out;
  done = c.closed.result;
  ran = record {
    found = Ok c.in-Ok.conn;
    opened = c.open_for.new.world;
    is_opened = c.in-Ok.ensures.opens;
    ran = record {
      outcome = c.do_on-outcome.result.outcome;
      last = c.do_on-outcome.result.conn;
      between = c.open_for.new.world;
      did = (refl, c.do_on-outcome.ensures.does, c.do_on-outcome.ensures.wants);
      honest = c.do_on-outcome.ensures.honest;
      closing = c.close_database.result;
      is_closed = c.close_database.ensures;
      keeps = kept g.S.Store g.W.World c.requires.keeps c.args.db.now c.open_for.new.world c.open_for.new.world
          c.close_database.new.self c.in-Ok.conn c.do_on-outcome.result.conn c.close_database.result
          (opened_for g.S.Store g.W.World c.requires.keeps c.args.db.now c.args.job.now c.args.world.now c.in-Ok.conn
          c.open_for.new.world c.in-Ok.ensures.opens)
          c.do_on-outcome.ensures.honest
          (λ was clean. added (state g.S.Store c.in-Ok.conn) (state g.S.Store c.do_on-outcome.result.conn) was
          c.args.job.now _ _ c.do_on-outcome.result.outcome (c.do_on-outcome.ensures.does clean))
          c.close_database.ensures;
      runs = ran g.S.Store g.W.World c.requires.keeps c.args.db.now c.open_for.new.world c.open_for.new.world
          c.close_database.new.self c.in-Ok.conn c.do_on-outcome.result.conn c.close_database.result
          (AsksOffice c.args.job.now (g.O.Sink.taken c.args.out)
          (g.O.Sink.taken c.do_on-outcome.result.out) c.do_on-outcome.result.outcome)
          (opened_for g.S.Store g.W.World c.requires.keeps c.args.db.now c.args.job.now c.args.world.now c.in-Ok.conn
          c.open_for.new.world c.in-Ok.ensures.opens)
          c.do_on-outcome.ensures.honest
          (λ clean was. does_asked (state g.S.Store c.in-Ok.conn) (state g.S.Store c.do_on-outcome.result.conn) clean was
          (λ trees still may. g.met.S.Store.settled c.do_on-outcome.result.conn.store trees still may)
          c.args.job.now _ _ c.do_on-outcome.result.outcome c.requires.lawful
          (λ making seen. let none = c.do_on-outcome.ensures.none making seen in (none.0, ap (state g.S.Store) none.1))
          (c.do_on-outcome.ensures.does clean))
          c.close_database.ensures;
      came = c.closed.ensures;
    };
    unopened = λ e same. absurd cc;
  };
  told_of = told _ _ _ c.closed.result c.finish-done.result c.finish-done.ensures.fault
      (IfErr-weaker c.closed.result _ _ (λ e same. ap g.O.Sink.taken same) c.finish-done.ensures.silent)
      c.finish-done.ensures.ok c.finish-done.ensures.part c.finish-done.ensures.only;
}

pub returns-in-Err-clause-does : goal.returns-in-Err-clause-does
returns-in-Err-clause-does g c = record {
  between = g.O.Sink.taken c.args.out;
  done = Err c.in-Err.unopened;
  ran = record {
    found = Err c.in-Err.unopened;
    opened = c.open_for.new.world;
    is_opened = c.in-Err.ensures.opens;
    ran = (refl, (refl, refl));
    unopened = λ e same.
        let one : c.in-Err.unopened ≡ e = cc in
        let of : IsOfOpening e = subst IsOfOpening one c.in-Err.ensures.only in
        idles_on _ g.W.World.image (unopened_asked c.args.job.now (g.O.Sink.taken c.args.out) e of);
  };
  told_of = (refl, refl);
}

pub do_on-outcome-requires-clause-outside : goal.do_on-outcome-requires-clause-outside
do_on-outcome-requires-clause-outside g c =
    (ready_for g.S.Store g.W.World c.requires.keeps c.args.db.now c.args.job.now c.args.world.now c.in-Ok.conn
    c.open_for.new.world c.in-Ok.ensures.opens).outside

pub do_on-outcome-requires-clause-unlimited : goal.do_on-outcome-requires-clause-unlimited
do_on-outcome-requires-clause-unlimited g c =
    (ready_for g.S.Store g.W.World c.requires.keeps c.args.db.now c.args.job.now c.args.world.now c.in-Ok.conn
    c.open_for.new.world c.in-Ok.ensures.opens).unlimited

-- the message of a job is printed to an output that has failed once at most
pub finish-done-requires : goal.finish-done-requires
finish-done-requires g c =
    omega (
      arith,
      c.do_on-outcome.ensures.failed,
      c.requires.prints,
      at_most_one (g.O.Sink.failed c.args.out) c.do_on-outcome.result.outcome,
    )

-- the count after a message, if there was one
message_counts : (n m k : ℕ) (done result : Result (Unit {0}) JobFault) → m ≡ failures_after n done
    → (IsOk done → k ≡ failures_after m result) → IfErr done (λ e. result ≡ Err e) → IfErr done (λ _. k ≡ m)
    → k ≡ failures_after n result
message_counts n m k (Ok x) result before after fault silent =
    after refl ∙ ap (λ (it : ℕ). failures_after it result) before
message_counts n m k (Err e) result before after fault silent =
    silent ∙ before ∙ ap (λ (r : Result (Unit {0}) JobFault). failures_after n r) (sym fault)

pub returns-in-Ok-clause-failed : goal.returns-in-Ok-clause-failed
returns-in-Ok-clause-failed g c =
    let ran = c.do_on-outcome in
    message_counts _ (g.O.Sink.failed ran.result.out) _ c.closed.result c.finish-done.result
    (ran.ensures.failed ∙ sym (closed_counts (g.O.Sink.failed c.args.out) ran.result.outcome c.close_database.result)
    ∙ ap (λ (r : Result (Unit {0}) JobFault). failures_after (g.O.Sink.failed c.args.out) r) (sym c.closed.ensures))
    c.finish-done.ensures.failed c.finish-done.ensures.fault
    (IfErr-weaker c.closed.result _ _ (λ e same. ap g.O.Sink.failed same) c.finish-done.ensures.silent)

pub returns-in-Err-clause-failed : goal.returns-in-Err-clause-failed
returns-in-Err-clause-failed g c = uncounted (Unit {0}) _ c.in-Err.unopened (of_opening c.in-Err.unopened c.in-Err.ensures.only)
