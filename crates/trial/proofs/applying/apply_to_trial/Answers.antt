use Rattle.std.proofs.Common.{sym, ◌∙◌}
use Rattle.std.proofs.lemmas.Result.{IfOk-weaker}
use Rattle.trial.proofs.Applied.{applies_of, not_bad, of_ok, was_fault}
use Rattle.trial.proofs.applying.apply_to_trial.Goals as goal

pub returns-clause-ok : goal.returns-clause-ok
returns-clause-ok g c =
    of_ok c.apply_exchanges-done.result c.of_a_run.result _ c.of_a_run.ensures
    (IfOk-weaker c.apply_exchanges-done.result _ _
    (λ _ prints. applies_of (g.R.Read.remaining c.args.file) _ _ _ _ _ _ _ _ _
    c.as_slice.ensures.value c.in_ok-exchanges.ensures.found c.in_ok-office.ensures prints)
    (c.apply_exchanges-done.ensures.ok tt))

pub returns-clause-fault : goal.returns-clause-fault
returns-clause-fault g c = λ failed.
    applies_of (g.R.Read.remaining c.args.file) _ _ _ _ _ _ _ _ _ c.as_slice.ensures.value
    c.in_ok-exchanges.ensures.found c.in_ok-office.ensures
    (c.apply_exchanges-done.ensures.fault tt
    (was_fault c.apply_exchanges-done.result (sym c.of_a_run.ensures ∙ failed)))

pub returns-clause-bad : goal.returns-clause-bad
returns-clause-bad g c = λ k failed.
    absurd (not_bad c.apply_exchanges-done.result k (sym c.of_a_run.ensures ∙ failed))
