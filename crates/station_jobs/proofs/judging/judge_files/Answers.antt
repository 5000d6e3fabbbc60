use Rattle.std.proofs.Common.{◌≡◌, ◌+◌, ◌∷◌, [], List, ℕ, Err, Ok, drop, map, refl, string_bytes, subst, take, ◌∙◌}
use Rattle.station_jobs.specs.Judging.{Asks, Judges, left_by}
use Rattle.station_jobs.specs.Leaving.{Leaves, OfBodies}
use Rattle.station_jobs.proofs.Judgements.{given_after, judged_then, more_given, next_path, none_judged}
use Rattle.station_jobs.proofs.Leavings.{stays_same}
use Rattle.station_jobs.proofs.Reported.{reported_then}
use Rattle.station_jobs.proofs.judging.judge_files.Goals as goal

pub loop-path-init : goal.loop-path-init
loop-path-init g c = record {
  honest = λ h. h;
  judges = λ h s kept.
      let Asked = Asks g.P.Surroundings c.args.around.now g.F.Read.remaining
      (λ p. p ≡ c.args.policy.now) c.args.ahead in
      none_judged (Leaves g.G.Register (OfBodies 1 Asked) c.args.register.now c.args.register.now s) Asked s
      (g.W.Write.contents c.args.out.now) (stays_same g.G.Register c.args.register.now s kept);
  reported = refl;
}

pub loop-path-preserved : goal.loop-path-preserved
loop-path-preserved g c =
    let inv = c.loop-path.invariant in
    let i = c.loop-path.path-index in
    let paths = c.args.paths.now in
    let Asked = Asks g.P.Surroundings c.args.around.now g.F.Read.remaining (λ p. p ≡ c.args.policy.now) c.args.ahead in
    let old = c.args.register.now in
    let between = c.loop-path.register in
    let new = c.judge_file.new.register in
    record {
      honest = λ h. inv.honest (c.judge_file.ensures.honest h);
      judges = λ h s kept.
          let before = inv.judges (c.judge_file.ensures.honest h) s kept in
          let t = left_by s before.judged in
          let one = c.judge_file.ensures.judges h t before.left.kept in
          subst (λ (ps : List (List ℕ)). Judges 1 s (Leaves g.G.Register (OfBodies 1 Asked) old new s) Asked ps
          (g.W.Write.contents c.args.out.now) (g.W.Write.contents c.judge_file.new.out) (Ok tt))
          (next_path string_bytes paths i c.path-item.result c.as_str-path.result.now c.loop-path-test.true c.path-item.is
          c.as_str-path.ensures.value)
          (judged_then g.G.Register old between new Asked s (map string_bytes (take i paths))
          (c.as_str-path.result.now ∷ []) _ (g.W.Write.contents c.loop-path.out) _ (Ok tt) before
          (subst (λ r. Judges 1 t (Leaves g.G.Register (OfBodies 1 Asked) between new t) Asked
          (c.as_str-path.result.now ∷ [])
          (g.W.Write.contents c.loop-path.out) (g.W.Write.contents c.judge_file.new.out) r) c.in-Ok.is one));
      reported = c.in-Ok.ensures.reported ∙ inv.reported;
    }

pub returns-in-Err-clause-judges : goal.returns-in-Err-clause-judges
returns-in-Err-clause-judges g c h s kept =
    let inv = c.loop-path.invariant in
    let i = c.loop-path.path-index in
    let paths = c.args.paths.now in
    let Asked = Asks g.P.Surroundings c.args.around.now g.F.Read.remaining (λ p. p ≡ c.args.policy.now) c.args.ahead in
    let old = c.args.register.now in
    let between = c.loop-path.register in
    let new = c.judge_file.new.register in
    let before = inv.judges (c.judge_file.ensures.honest h) s kept in
    let t = left_by s before.judged in
    let one = c.judge_file.ensures.judges h t before.left.kept in
    let held = g.W.Write.contents c.args.out.now in
    let holds = g.W.Write.contents c.judge_file.new.out in
    let r = Err c.in-Err.fault in
    let Left = Leaves g.G.Register (OfBodies 1 Asked) old new s in
    let both = judged_then g.G.Register old between new Asked s (map string_bytes (take i paths))
    (c.as_str-path.result.now ∷ []) held (g.W.Write.contents c.loop-path.out) holds r before
    (subst (λ r. Judges 1 t (Leaves g.G.Register (OfBodies 1 Asked) between new t) Asked (c.as_str-path.result.now ∷ [])
    (g.W.Write.contents c.loop-path.out) holds r) c.in-Err.is one) in
    subst (λ (ps : List (List ℕ)). Judges 1 s Left Asked ps held holds r) (given_after string_bytes paths (i + 1))
    (more_given Left Asked s (map string_bytes (take (i + 1) paths)) (map string_bytes (drop (i + 1) paths)) held holds
    c.in-Err.fault
    (subst (λ (ps : List (List ℕ)). Judges 1 s Left Asked ps held holds r)
    (next_path string_bytes paths i c.path-item.result c.as_str-path.result.now c.loop-path-test.true c.path-item.is
    c.as_str-path.ensures.value) both))

pub returns-in-Err-clause-reported : goal.returns-in-Err-clause-reported
returns-in-Err-clause-reported g c =
    reported_then (g.G.Register.reported c.args.register.now) (g.G.Register.reported c.loop-path.register)
    (g.G.Register.reported c.judge_file.new.register) c.in-Err.fault c.loop-path.invariant.reported
    c.in-Err.ensures.reported
