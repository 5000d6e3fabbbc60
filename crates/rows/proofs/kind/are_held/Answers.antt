use Rattle.rows.proofs.Words.{ap, refl, sym, ◌&&◌, ◌+◌, ◌∙◌}
use Rattle.rows.specs.declared.kind.Kind.TheVariants.{Number}
use Rattle.rows.proofs.KindLemmas.{held_end, held_from, held_next}
use Rattle.rows.proofs.kind.are_held.Goals as goal

pub loop-at-init : goal.loop-at-init
loop-at-init c = refl

pub returns-then-not-is_held : goal.returns-then-not-is_held
returns-then-not-is_held c =
    let next = held_next c.args.kinds.now c.args.columns.now c.loop-at.at Number c.loop-at-test.true in
    sym (c.loop-at.invariant ∙ next
    ∙ ap (λ b. b && held_from c.args.kinds.now c.args.columns.now (c.loop-at.at + 1)) (sym c.if-not-is_held.ensures))

pub loop-at-preserved : goal.loop-at-preserved
loop-at-preserved c =
    let next = held_next c.args.kinds.now c.args.columns.now c.loop-at.at Number c.loop-at-test.true in
    c.loop-at.invariant ∙ next
    ∙ ap (λ b. b && held_from c.args.kinds.now c.args.columns.now (c.loop-at.at + 1)) (sym c.if-not-is_held.ensures)

pub returns : goal.returns
returns c = sym (c.loop-at.invariant ∙ held_end c.args.kinds.now c.args.columns.now c.loop-at.at c.loop-at-test.false)
