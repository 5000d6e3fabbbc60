use Rattle.message.proofs.Words.{List, ap, append_assoc, sym, ℕ, ◌++◌, ◌∙◌}
use Rattle.message.proofs.PutLines.{each_after, list_put, text_put}
use Rattle.message.proofs.writing.put_listed.Goals as goal

pub loop-text-init : goal.loop-text-init
loop-text-init c =
    ap (λ (x : List ℕ). x ++ each_after 32 c.args.texts.now) c.in_ok-extend_from_slice.ensures.items
    ∙ append_assoc c.args.out.now.items c.args.word.now (each_after 32 c.args.texts.now)
    ∙ ap (λ (x : List ℕ). c.args.out.now.items ++ x) (list_put c.args.word.now c.args.texts.now)

pub loop-text-preserved : goal.loop-text-preserved
loop-text-preserved c =
    let text = c.in_ok-extend_from_slice-2.ensures.items in
    let before = c.in_ok-push.ensures.items in
    rw (text, before, c.as_slice.ensures)
    (sym (text_put c.loop-text.out.items c.loop-text.before c.args.texts.now c.loop-text.text-index _ c.text-item.is
    c.loop-text-test.true) ∙ c.loop-text.invariant)
