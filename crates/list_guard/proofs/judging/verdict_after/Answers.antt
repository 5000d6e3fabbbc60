use Rattle.std.proofs.Common.{ap, arith, subst, sym, ◌∙◌}
use Rattle.std.proofs.lemmas.Bool.{ltb-false, ltb-true}
use Rattle.krl.specs.Contents.{Publishes}
use Rattle.krl.specs.declared.krl_head.KrlHead.{KrlHead}
use Rattle.list_guard.proofs.judging.verdict_after.Goals as goal

pub returns-then-jumps : goal.returns-then-jumps
returns-then-jumps c now d p q list kept apart =
    let new = ap (λ (h : KrlHead). h.version) (c.head-version.ensures.head now p) in
    let old = ap (λ (h : KrlHead). h.version) (c.head-before.ensures.head d q) in
    let jumps =
    c.jumps.ensures now d (subst (λ b. Publishes b now) (sym list) p) (subst (λ b. Publishes b d) (sym kept) q) new old in (
      let low = c.if-version-before.false in let other = c.if-version-before-2.false in omega (arith, low, other, new, old),
      (c.forgets_nothing.ensures d now q p).0 c.if-not-forgets_nothing.false,
      ltb-true _ _ (sym jumps ∙ c.if-jumps.true),
    )

pub returns : goal.returns
returns c now d p q list kept apart =
    let new = ap (λ (h : KrlHead). h.version) (c.head-version.ensures.head now p) in
    let old = ap (λ (h : KrlHead). h.version) (c.head-before.ensures.head d q) in
    let jumps =
    c.jumps.ensures now d (subst (λ b. Publishes b now) (sym list) p) (subst (λ b. Publishes b d) (sym kept) q) new old in (
      record {
        published = q;
        version = let up = c.if-version-before.false in omega arith;
        bytes = λ same. let up = c.if-version-before.false in absurd (c.if-version-before-2.false (omega arith));
        kept_revoked = (c.forgets_nothing.ensures d now q p).0 c.if-not-forgets_nothing.false;
        accounted = ltb-false _ _ (sym jumps ∙ c.if-jumps.false);
      },
      new,
    )
