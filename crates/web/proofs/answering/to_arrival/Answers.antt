use Rattle.office.specs.declared.store_fault.StoreFault.TheVariants.{Damaged}
use Rattle.web.proofs.Replies.{only_unfit, refused_unchanged, reply_fits, unfit_unchanged}
use Rattle.web.proofs.Shown.{always_ok, on_err}
use Rattle.web.proofs.answering.to_arrival.Goals as goal

pub returns-clause-fault : goal.returns-clause-fault
returns-clause-fault g c honest =
    only_unfit c.to_outcome.result Damaged c.in_ok-outcome.outcome _ c.to_outcome.ensures.err (λ unfit e o l m. absurd (unfit
    (reply_fits o l c.args.arrival c.in_ok-outcome.outcome (g.met.R.Registry.lawful c.args.registry.now o l m)
    (c.in_ok-outcome.ensures.due honest o l m))))

pub returns-clause-only : goal.returns-clause-only
returns-clause-only g c honest =
    only_unfit c.to_outcome.result Damaged c.in_ok-outcome.outcome _ c.to_outcome.ensures.err (λ unfit e o l m. absurd (unfit
    (reply_fits o l c.args.arrival c.in_ok-outcome.outcome (g.met.R.Registry.lawful c.args.registry.now o l m)
    (c.in_ok-outcome.ensures.due honest o l m))))

pub returns-in_err-room-clause-before : goal.returns-in_err-room-clause-before
returns-in_err-room-clause-before g c honest is =
    on_err c.from_residual.result _ (g.met.R.Registry.unasked c.args.registry.now)

pub returns-clause-before : goal.returns-clause-before
returns-clause-before g c honest =
    unfit_unchanged c.to_outcome.result Damaged c.in_ok-outcome.outcome _ _ c.to_outcome.ensures.err
    (c.in_ok-outcome.ensures.short honest) (c.in_ok-outcome.ensures.before honest)

pub returns-in_err-room-clause-refused : goal.returns-in_err-room-clause-refused
returns-in_err-room-clause-refused g c honest =
    always_ok c.from_residual.result _ (λ v refused is. g.met.R.Registry.unasked c.args.registry.now)

pub returns-clause-refused : goal.returns-clause-refused
returns-clause-refused g c honest =
    refused_unchanged c.to_outcome.result c.in_ok-outcome.outcome _ _ c.to_outcome.ensures.ok
    (c.in_ok-outcome.ensures.before honest)
