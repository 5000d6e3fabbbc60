use Rattle.office_jobs.proofs.Words.{IfErr-weaker, [], ap, inr, of_store, opening_of, ◌∷◌}
use Rattle.office_jobs.specs.TrialOffice.{trial_arrival}
use Rattle.office_jobs.proofs.Ended.{test_told}
use Rattle.office_jobs.proofs.Counted.{of_a_store, uncounted_as}
use Rattle.office_jobs.proofs.command.test_itself.Goals as goal

pub returns-in-Err-clause-failed : goal.returns-in-Err-clause-failed
returns-in-Err-clause-failed g c =
    uncounted_as (Unit {0}) _ (of_store c.in-Err.fault) c.from.result c.from.ensures (of_a_store c.in-Err.fault)

pub returns-in-Ok-clause-tests : goal.returns-in-Ok-clause-tests
returns-in-Ok-clause-tests g c =
    let told = c.test_ended.ensures in
    inr (
      c.test_office-tested.result,
      c.test_office-tested.ensures (opening_of 1 9223372036854775806) (trial_arrival ∷ []) c.in-Ok.ensures,
      test_told _ _ _ c.test_office-tested.result c.test_ended.result told.fault
          (IfErr-weaker c.test_office-tested.result _ _ (λ e same. ap g.O.Sink.taken same) told.silent) told.ok
          told.part told.only,
    )
