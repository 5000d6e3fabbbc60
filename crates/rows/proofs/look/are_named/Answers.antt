use Rattle.rows.proofs.Words.{ap, arith, length, refl, sym, ◌&&◌, ◌+◌, ◌<◌, ◌∙◌, ◌≤◌}
use Rattle.store_sql.proofs.KindLemmas.{named_end, named_from, named_next, same_or_not}
use Rattle.rows.proofs.look.are_named.Goals as goal

pub loop-at-init : goal.loop-at-init
loop-at-init c = refl

pub returns-then-ne : goal.returns-then-ne
returns-then-ne c =
    let inside : c.loop-at.at < length c.args.columns.now = omega arith in
    let next = named_next c.args.columns.now c.args.names.now c.loop-at.at c.index-columns-at.result _ inside
    c.loop-at-test.true in
    let other = same_or_not _ _ _ _ _ c.as_slice.ensures c.as_bytes.ensures.value c.if-ne.ensures in
    sym (c.loop-at.invariant ∙ next
    ∙ ap (λ b. b && named_from c.args.columns.now c.args.names.now (c.loop-at.at + 1)) other)

pub loop-at-preserved : goal.loop-at-preserved
loop-at-preserved c =
    let inside : c.loop-at.at < length c.args.columns.now = omega arith in
    let next = named_next c.args.columns.now c.args.names.now c.loop-at.at c.index-columns-at.result _ inside
    c.loop-at-test.true in
    let same = same_or_not _ _ _ _ _ c.as_slice.ensures c.as_bytes.ensures.value c.if-ne.ensures in
    c.loop-at.invariant ∙ next ∙ ap (λ b. b && named_from c.args.columns.now c.args.names.now (c.loop-at.at + 1)) same

pub returns : goal.returns
returns c =
    let end : length c.args.columns.now ≤ c.loop-at.at = omega arith in
    sym (c.loop-at.invariant ∙ named_end c.args.columns.now c.args.names.now c.loop-at.at end)
