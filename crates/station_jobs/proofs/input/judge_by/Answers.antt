use Rattle.std.proofs.Common.{◌≡◌, List, ℕ, inr, refl}
use Rattle.guard.specs.Machine.{Question}
use Rattle.station_jobs.specs.declared.station_fault.StationFault.TheVariants.{Clock}
use Rattle.station_jobs.specs.Judging.{AsksOf}
use Rattle.station_jobs.specs.Leaving.{Leaves, OfBodies}
use Rattle.station_jobs.proofs.Judgements.{fault_first, given_judged}
use Rattle.station_jobs.proofs.Leavings.{fails_same}
use Rattle.station_jobs.proofs.input.judge_by.Goals as goal

pub returns-in-Some-clause-judges : goal.returns-in-Some-clause-judges
returns-in-Some-clause-judges g c h s kept =
    given_judged g.G.Register c.args.register.now c.judge_bodies.new.register g.P.Surroundings c.args.around.now
    g.F.Read.remaining c.args.policy.now (record { moment = c.in-Some.moment; ahead = c.args.ahead })
    c.in-Some.ensures.shown c.args.bodies.now c.requires s _ _ _ (c.judge_bodies.ensures.answers h s kept)

pub returns-in-None-clause-judges : goal.returns-in-None-clause-judges
returns-in-None-clause-judges g c h s kept =
    let register = c.args.register.now in
    let Asked : List ℕ → Question → Type 0 =
    AsksOf g.P.Surroundings c.args.around.now g.F.Read.remaining (λ p. p ≡ c.args.policy.now) c.args.ahead in
    fault_first (Leaves g.G.Register (OfBodies 64 Asked) register register s) Asked s c.args.bodies.now
    (g.W.Write.contents c.args.out.now) Clock (fails_same g.G.Register Unit register s Clock kept tt)

pub returns-in-None-clause-reported : goal.returns-in-None-clause-reported
returns-in-None-clause-reported g c = inr (refl, tt)
