use Rattle.web.proofs.Shown.{always_ok, on_err}
use Rattle.web.proofs.request.answer.Goals as goal

pub returns-in_err-routes-clause-before : goal.returns-in_err-routes-clause-before
returns-in_err-routes-clause-before g c honest is =
    on_err c.from_residual.result _ (g.met.R.Registry.unasked c.args.registry.now)

pub returns-in_err-routes-clause-reads : goal.returns-in_err-routes-clause-reads
returns-in_err-routes-clause-reads g c honest is none = g.met.R.Registry.unasked c.args.registry.now

pub returns-in_err-routes-clause-refused : goal.returns-in_err-routes-clause-refused
returns-in_err-routes-clause-refused g c honest =
    always_ok c.from_residual.result _ (λ v refused is. g.met.R.Registry.unasked c.args.registry.now)
