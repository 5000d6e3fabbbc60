use Rattle.std.proofs.Common.{◌≡◌, ◌+◌, ◌++◌, ◌∷◌, ◌∙◌, [], ℕ, List, ap, map, refl, subst, sym, take}
use Rattle.std.proofs.Common.{get_or}
use Rattle.std.proofs.lemmas.List.{map_push, take_more}
use Rattle.guard.specs.declared.judging.Answer.{Answer}
use Rattle.guard.specs.Decided.{question, questions}
use Rattle.guard.specs.Machine.{Question}
use Rattle.guard.specs.Weighing.{WeighsAll}
use Rattle.guard.proofs.Weighed.{one_weighed}
use Rattle.guard.proofs.judging.weigh_all.Goals as goal

pub loop-body-preserved : goal.loop-body-preserved
loop-body-preserved g c =
    let inv = c.loop-body.invariant in
    let i = c.loop-body.body-index in
    let bodies = c.args.bodies.now in
    let moment = c.args.window.moment in
    let ask : List ℕ → Question = question c.args.policy.now c.args.window in
    let so_far : List Question = questions c.args.policy.now c.args.window (take i bodies) in
    let q : Question = ask c.as_slice.result.now in
    let next : so_far ++ q ∷ [] ≡ questions c.args.policy.now c.args.window (take (i + 1) bodies) =
    sym (ap (map ask) (take_more bodies i c.body-item.result c.loop-body-test.true)
    ∙ (map_push ask (take i bodies) (get_or bodies i c.body-item.result)
    ∙ ap (λ (b : List ℕ). so_far ++ ask b ∷ []) (sym c.body-item.is ∙ sym c.as_slice.ensures))) in
    record {
      honest = λ h. inv.honest (c.weigh.ensures.honest h);
      weighs = λ h s kept.
          let before = c.weigh.ensures.honest h in
          let one = c.in-Ok.ensures.weighs h s (inv.same before s kept) in
          subst (λ (qs : List Question). WeighsAll moment c.push.new.self.items s c.weigh.new.rows.items qs) next
          (subst (λ (answers : List Answer). WeighsAll moment answers s c.weigh.new.rows.items (so_far ++ q ∷ []))
          (sym c.in-Ok-push.ensures.items)
          (one_weighed moment c.loop-body.answers.items s c.loop-body.rows.items c.weigh.new.rows.items so_far
          c.in-Ok.answer q refl (inv.weighs before s kept) one));
      same = λ h s kept. c.weigh.ensures.same h s (inv.same (c.weigh.ensures.honest h) s kept);
      crash = λ h s kept left.
          let before = c.weigh.ensures.honest h in
          c.weigh.ensures.crash h s (inv.same before s kept) (inv.crash before s kept left);
      reported = c.in-Ok.ensures.reported ∙ inv.reported;
      before = λ h. g.met.R.Register.through c.args.register.now c.loop-body.register c.weigh.new.register
          (inv.before (c.weigh.ensures.honest h)) (c.weigh.ensures.before h);
    }
