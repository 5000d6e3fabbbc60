use Rattle.std.proofs.Common.{◌≡◌, IfSome, Ok, Option, refl, subst, true, ◌∙◌}
use Rattle.guard.specs.Policies.{policy_at}
use Rattle.station_jobs.specs.declared.policy_file.PolicyText.{PolicyText}
use Rattle.station_jobs.specs.Input.{JudgesNext}
use Rattle.station_jobs.specs.Judging.{AsksGiven, left_by}
use Rattle.station_jobs.specs.Leaving.{Leaves, OfBodies}
use Rattle.station_jobs.proofs.Leavings.{stays_same}
use Rattle.station_jobs.proofs.Batches.{fails, goes_on, starts, stops}
use Rattle.station_jobs.proofs.Reported.{reported_then}
use Rattle.station_jobs.proofs.input.judge_batches.Goals as goal

pub loop-turn-init : goal.loop-turn-init
loop-turn-init g c = record {
  honest = λ h. h;
  known = c.requires;
  underway = λ h s kept.
      let Asked = AsksGiven g.P.Surroundings c.args.around.now g.F.Read.remaining true c.args.policy.now c.args.ahead in
      starts (Leaves g.G.Register (OfBodies 64 Asked) c.args.register.now c.args.register.now s) Asked s
      (g.I.Read.remaining c.args.input.now) (g.W.Write.contents c.args.out.now)
      (stays_same g.G.Register c.args.register.now s kept);
  reported = refl;
}

pub loop-turn-preserved : goal.loop-turn-preserved
loop-turn-preserved g c =
    let inv = c.loop-turn.invariant in
    let Asked = AsksGiven g.P.Surroundings c.args.around.now g.F.Read.remaining true c.args.policy.now c.args.ahead in
    let old = c.args.register.now in
    let between = c.loop-turn.register in
    let new = c.judge_next.new.register in
    record {
      honest = λ h. inv.honest (c.judge_next.ensures.honest h);
      known = subst (λ o. IfSome o (λ p. policy_at p.text.items ≡ Ok p.policy)) c.in-Ok-Some.field-0-is c.in-Ok-Some.ensures.known;
      underway = λ h s kept.
          let first = inv.underway (c.judge_next.ensures.honest h) s kept in
          let t = left_by s first.judges.judged in
          let Next : Option PolicyText → Type 0 =
          λ o. JudgesNext t (Leaves g.G.Register (OfBodies 64 Asked) between new t) Asked
          (g.I.Read.remaining c.loop-turn.input)
          (g.I.Read.remaining c.judge_next.new.input) (g.W.Write.contents c.loop-turn.out)
          (g.W.Write.contents c.judge_next.new.out) (Ok o) in
          goes_on {A = PolicyText} g.G.Register old between new Asked s (g.I.Read.remaining c.args.input.now)
          (g.I.Read.remaining c.loop-turn.input) (g.I.Read.remaining c.judge_next.new.input)
          (g.W.Write.contents c.args.out.now) (g.W.Write.contents c.loop-turn.out)
          (g.W.Write.contents c.judge_next.new.out) c.in-Ok-Some.policy first
          (subst (λ (o : Option PolicyText). Next o) c.in-Ok-Some.field-0-is
          (c.in-Ok-Some.ensures.judges h t first.judges.left.kept));
      reported = c.in-Ok-Some.ensures.reported ∙ inv.reported;
    }

pub returns-in-Err-clause-judges : goal.returns-in-Err-clause-judges
returns-in-Err-clause-judges g c h s kept =
    let inv = c.loop-turn.invariant in
    let Asked = AsksGiven g.P.Surroundings c.args.around.now g.F.Read.remaining true c.args.policy.now c.args.ahead in
    let first = inv.underway (c.judge_next.ensures.honest h) s kept in
    fails PolicyText g.G.Register c.args.register.now c.loop-turn.register c.judge_next.new.register Asked s
    (g.I.Read.remaining c.args.input.now) (g.I.Read.remaining c.loop-turn.input)
    (g.I.Read.remaining c.judge_next.new.input) (g.W.Write.contents c.args.out.now)
    (g.W.Write.contents c.loop-turn.out) (g.W.Write.contents c.judge_next.new.out) c.in-Err.fault first
    (c.in-Err.ensures.judges h (left_by s first.judges.judged) first.judges.left.kept)

pub returns-clause-judges : goal.returns-clause-judges
returns-clause-judges g c h s kept =
    stops g.G.Register c.args.register.now c.loop-turn.register
    (AsksGiven g.P.Surroundings c.args.around.now g.F.Read.remaining true c.args.policy.now c.args.ahead) s
    (g.I.Read.remaining c.args.input.now) (g.I.Read.remaining c.loop-turn.input) (g.W.Write.contents c.args.out.now)
    (g.W.Write.contents c.loop-turn.out) (c.loop-turn.invariant.underway h s kept)

pub returns-in-Err-clause-reported : goal.returns-in-Err-clause-reported
returns-in-Err-clause-reported g c =
    reported_then (g.G.Register.reported c.args.register.now) (g.G.Register.reported c.loop-turn.register)
    (g.G.Register.reported c.judge_next.new.register) c.in-Err.fault c.loop-turn.invariant.reported
    c.in-Err.ensures.reported
