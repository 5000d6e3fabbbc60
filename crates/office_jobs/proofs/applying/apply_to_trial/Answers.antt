use Rattle.office_jobs.proofs.Words.{IfErr, IsOfATrial, memory_is_clean, of_store, subst, sym, ◌∙◌}
use Rattle.std.proofs.lemmas.Result.{IfOk-weaker}
use Rattle.office_jobs.proofs.Applied.{applies_of, applies_part_of, not_bad, of_ok, was_fault, was_write}
use Rattle.office_jobs.proofs.Causes.{silent, trial_run}
use Rattle.office_jobs.proofs.Counted.{of_a_store, of_exchanges, uncounted, uncounted_as}
use Rattle.office_jobs.proofs.applying.apply_to_trial.Goals as goal

pub returns-clause-ok : goal.returns-clause-ok
returns-clause-ok g c =
    of_ok c.apply_exchanges-done.result c.of_a_run.result _ c.of_a_run.ensures.value
    (IfOk-weaker c.apply_exchanges-done.result _ _
    (λ _ prints. applies_of (g.R.Read.remaining c.args.file) _ _ _ _ _ _ _ _ _
    c.as_slice.ensures.value c.in_ok-exchanges.ensures.found c.in_ok-office.ensures prints)
    (c.apply_exchanges-done.ensures.ok (memory_is_clean c.apply_exchanges-done.new.registry.conn)))

pub returns-clause-fault : goal.returns-clause-fault
returns-clause-fault g c = λ failed.
    applies_of (g.R.Read.remaining c.args.file) _ _ _ _ _ _ _ _ _ c.as_slice.ensures.value
    c.in_ok-exchanges.ensures.found c.in_ok-office.ensures
    (c.apply_exchanges-done.ensures.fault (memory_is_clean c.apply_exchanges-done.new.registry.conn)
    (was_fault c.apply_exchanges-done.result (sym c.of_a_run.ensures.value ∙ failed)))

pub returns-clause-bad : goal.returns-clause-bad
returns-clause-bad g c = λ k failed.
    absurd (not_bad c.apply_exchanges-done.result k (sym c.of_a_run.ensures.value ∙ failed))

pub returns-clause-only : goal.returns-clause-only
returns-clause-only g c =
    subst (λ r. IfErr r IsOfATrial) (sym c.of_a_run.ensures.value) (trial_run c.apply_exchanges-done.result)

pub returns-clause-silent : goal.returns-clause-silent
returns-clause-silent g c =
    silent _ c.apply_exchanges-done.result c.of_a_run.result c.of_a_run.ensures.value
    c.apply_exchanges-done.ensures.unprinted

pub returns-clause-part : goal.returns-clause-part
returns-clause-part g c = λ failed.
    applies_part_of (g.R.Read.remaining c.args.file) _ _ _ _ _ _ _ _ c.as_slice.ensures.value
    c.in_ok-exchanges.ensures.found c.in_ok-office.ensures
    (c.apply_exchanges-done.ensures.write (memory_is_clean c.apply_exchanges-done.new.registry.conn)
    (was_write c.apply_exchanges-done.result (sym c.of_a_run.ensures.value ∙ failed)))

pub returns-clause-failed : goal.returns-clause-failed
returns-clause-failed g c =
    c.apply_exchanges-done.ensures.failed ∙ sym (c.of_a_run.ensures.counts (g.W.Sink.failed c.args.out.now))
