use Rattle.std.proofs.Common.{◌≡◌, List, inr, refl, ℕ}
use Rattle.guard.specs.Machine.{Question}
use Rattle.station_jobs.specs.Judging.{Asks}
use Rattle.station_jobs.specs.Leaving.{Leaves, OfBodies}
use Rattle.station_jobs.proofs.Judgements.{fault_first, one_weighed}
use Rattle.station_jobs.proofs.Leavings.{body_cause, fails_same}
use Rattle.station_jobs.proofs.Reported.{own_body}
use Rattle.station_jobs.proofs.judging.judge_file.Goals as goal

pub returns-in-Err-clause-judges : goal.returns-in-Err-clause-judges
returns-in-Err-clause-judges g c h s kept =
    let register = c.args.register.now in
    let Asked : List ℕ → Question → Type 0 =
    Asks g.P.Surroundings c.args.around.now g.F.Read.remaining (λ p. p ≡ c.args.policy.now) c.args.ahead in
    fault_first (Leaves g.G.Register (OfBodies 1 Asked) register register s) Asked s _ _ _
    (fails_same g.G.Register Unit register s c.in-Err.fault kept
    (body_cause (g.G.Register.has_failed register) c.in-Err.fault c.in-Err.ensures.only))

pub returns-in-Ok-clause-judges : goal.returns-in-Ok-clause-judges
returns-in-Ok-clause-judges g c h s kept =
    one_weighed g.G.Register c.args.register.now c.judge_bodies.new.register g.P.Surroundings c.args.around.now
    g.F.Read.remaining c.args.policy.now c.args.ahead c.args.path.now _ _ _ c.from_vec.ensures
    c.in-Ok.ensures.weighs s _ _ _ (c.judge_bodies.ensures.answers h s kept)

pub returns-in-Err-clause-reported : goal.returns-in-Err-clause-reported
returns-in-Err-clause-reported g c = inr (refl, own_body c.in-Err.fault c.in-Err.ensures.only)

pub returns-in-Err-clause-before : goal.returns-in-Err-clause-before
returns-in-Err-clause-before g c h = inr (g.met.G.Register.unasked c.args.register.now)
