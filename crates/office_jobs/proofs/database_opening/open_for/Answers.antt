use Rattle.office_jobs.proofs.Words.{OfficeJob, OpensFor, subst, sym}
use Rattle.office_jobs.proofs.Found.{there_for}
use Rattle.office_jobs.proofs.database_opening.open_for.Goals as goal

pub returns-in-Init-clause-opens : goal.returns-in-Init-clause-opens
returns-in-Init-clause-opens g c =
    subst (λ (job : OfficeJob). OpensFor g.W.World c.args.path.now job c.args.world.now c.open_new.result
    c.open_new.new.world) (sym c.in-Init.is) c.open_new.ensures.opens

pub returns-in_default-clause-opens : goal.returns-in_default-clause-opens
returns-in_default-clause-opens g c =
    there_for g.W.World c.args.path.now c.args.job.now c.args.world.now c.open_there.result c.open_there.new.world
    c.in_default.not-Init c.open_there.ensures.opens
