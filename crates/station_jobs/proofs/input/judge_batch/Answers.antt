use Rattle.std.proofs.Common.{Err, ap, inr, refl, true}
use Rattle.station_jobs.specs.Judging.{AsksGiven, IsBadPolicyAt}
use Rattle.station_jobs.specs.Leaving.{Leaves, OfBodies}
use Rattle.station_jobs.proofs.Causes.{judging_of_a_policy}
use Rattle.station_jobs.proofs.Judgements.{batch_now, fault_first}
use Rattle.station_jobs.proofs.Leavings.{fails_same, policy_cause}
use Rattle.station_jobs.proofs.Reported.{own_policy}
use Rattle.station_jobs.proofs.input.judge_batch.Goals as goal

pub returns-in-Err-clause-judges : goal.returns-in-Err-clause-judges
returns-in-Err-clause-judges g c h s kept =
    let register = c.args.register.now in
    let Asked =
    AsksGiven g.P.Surroundings c.args.around.now g.F.Read.remaining true c.args.policy.now c.args.ahead in
    fault_first (Leaves g.G.Register (OfBodies 64 Asked) register register s) Asked s c.args.bodies.now
    (g.W.Write.contents c.args.out.now) c.in-Err.fault
    (fails_same g.G.Register Unit register s c.in-Err.fault kept
    (policy_cause (g.G.Register.has_failed register) c.in-Err.fault c.in-Err.ensures.only))

pub returns-in-Err-judge_by-clause-judges : goal.returns-in-Err-judge_by-clause-judges
returns-in-Err-judge_by-clause-judges g c h s kept =
    batch_now g.P.Surroundings c.args.around.now g.F.Read.remaining c.in-Ok.known.policy c.args.policy.now c.args.ahead
    c.in-Ok.ensures.read g.G.Register c.args.register.now c.judge_by.new.register s _ _ _ _
    (c.in-Err-judge_by.ensures.judges h s kept)

pub returns-in-Err-clause-only : goal.returns-in-Err-clause-only
returns-in-Err-clause-only g c =
    judging_of_a_policy (IsBadPolicyAt g.P.Surroundings c.args.around.now g.F.Read.remaining c.args.policy.now)
    c.in-Err.fault c.in-Err.ensures.only (λ line is. c.in-Err.ensures.bad line (ap Err is))

pub returns-in-Err-clause-reported : goal.returns-in-Err-clause-reported
returns-in-Err-clause-reported g c = inr (refl, own_policy c.in-Err.fault c.in-Err.ensures.only)
