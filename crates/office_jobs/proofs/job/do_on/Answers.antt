use Rattle.office_jobs.proofs.Words.{DoesOfficeJob, OfficeJob, ap, state, subst, sym}
use Rattle.office_jobs.specs.Jobs.{Wants}
use Rattle.office_jobs.proofs.Counted.{uncounted_if}
use Rattle.office_jobs.proofs.job.do_on.Goals as goal

pub returns-in-Init-clause-failed : goal.returns-in-Init-clause-failed
returns-in-Init-clause-failed g c = uncounted_if _ c.make_over-outcome.result.0 c.make_over-outcome.ensures.unwritten

pub returns-in-Migrate-clause-failed : goal.returns-in-Migrate-clause-failed
returns-in-Migrate-clause-failed g c =
    uncounted_if _ c.migrate_over-outcome.result.0 c.migrate_over-outcome.ensures.unwritten

pub returns-in-Apply-clause-does : goal.returns-in-Apply-clause-does
returns-in-Apply-clause-does g c honest =
    let run = c.apply_over-outcome in
    subst (λ (job : OfficeJob). DoesOfficeJob job (state g.S.Store c.args.conn) (state g.S.Store run.result.1)
    (g.W.Sink.taken c.args.out) (g.W.Sink.taken run.new.out) run.result.0) (sym c.in-Apply.is)
    (record { applies = run.ensures.applies honest; reads = λ none. run.ensures.reads none honest })

pub returns-in-Apply-clause-wants : goal.returns-in-Apply-clause-wants
returns-in-Apply-clause-wants g c =
    let run = c.apply_over-outcome in
    subst (λ (job : OfficeJob). Wants g.S.Store job c.args.conn run.result.1 run.result.0) (sym c.in-Apply.is) (record {
      none = λ seen. (ap (λ p. p.0) (run.ensures.none seen), ap (λ p. p.1) (run.ensures.none seen));
      rows = run.ensures.rows;
    })

pub returns-in-Krl-clause-wants : goal.returns-in-Krl-clause-wants
returns-in-Krl-clause-wants g c =
    let run = c.list_over-outcome in
    subst (λ (job : OfficeJob). Wants g.S.Store job c.args.conn run.result.1 run.result.0) (sym c.in-Krl.is)
    (record {
      none = λ seen. (ap (λ p. p.0) (run.ensures.none seen), ap (λ p. p.1) (run.ensures.none seen));
      rows = run.ensures.rows;
    })

pub returns-in-Signers-clause-wants : goal.returns-in-Signers-clause-wants
returns-in-Signers-clause-wants g c =
    let run = c.report_over-outcome in
    subst (λ (job : OfficeJob). Wants g.S.Store job c.args.conn run.result.1 run.result.0) (sym c.in-Signers.is)
    (record {
      none = λ seen. (ap (λ p. p.0) (run.ensures.none seen), ap (λ p. p.1) (run.ensures.none seen));
      rows = run.ensures.rows;
    })

pub returns-in-Table-clause-wants : goal.returns-in-Table-clause-wants
returns-in-Table-clause-wants g c =
    let run = c.report_over-outcome-in-Table in
    subst (λ (job : OfficeJob). Wants g.S.Store job c.args.conn run.result.1 run.result.0) (sym c.in-Table.is) (record {
      none = λ seen. (ap (λ p. p.0) (run.ensures.none seen), ap (λ p. p.1) (run.ensures.none seen));
      rows = run.ensures.rows;
    })
