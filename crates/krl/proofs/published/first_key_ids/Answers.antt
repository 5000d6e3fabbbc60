use Rattle.krl.proofs.Words.{List, None, Some, [], ap, eqb, length, same_Some, sym, ℕ, ◌∙◌, ◌≡◌, ◌≢◌}
use Rattle.krl.proofs.Booleans.{clash}
use Rattle.krl.proofs.FrontLaws.{no_bytes}
use Rattle.krl.proofs.WholeSections.{next_whole, no_whole_text}
use Rattle.krl.proofs.published.first_key_ids.Goals as goal

pub returns-then-is_empty-clause-only : goal.returns-then-is_empty-clause-only
returns-then-is_empty-clause-only c ids cas are none =
    let empty : c.args.sections.now ≡ [] = no_bytes c.args.sections.now (sym c.is_empty.ensures ∙ c.if-is_empty.true) in
    ap Some (empty ∙ sym (none (no_whole_text ids cas (sym are.text ∙ empty))))

pub returns-in_err-key_ids-clause-only : goal.returns-in_err-key_ids-clause-only
returns-in_err-key_ids-clause-only c ids cas are none =
    let some : c.args.sections.now ≢ [] = λ e. clash c.is_empty.result
    (c.is_empty.ensures ∙ ap (λ (x : List ℕ). eqb (length x) 0) e) c.if-is_empty.false in
    let first = next_whole ids c.args.sections.now cas None some are.whole are.text c.in_err-key_ids.ensures.only in
    absurd (let bad = first.3 in cc)

pub returns-clause-only : goal.returns-clause-only
returns-clause-only c ids cas are none =
    let some : c.args.sections.now ≢ [] = λ e. clash c.is_empty.result
    (c.is_empty.ensures ∙ ap (λ (x : List ℕ). eqb (length x) 0) e) c.if-is_empty.false in
    let first = next_whole ids c.args.sections.now cas _ some are.whole are.text c.in_ok-key_ids.ensures.only in
    ap (λ (x : List ℕ × List ℕ). Some x.0) (same_Some _ _ first.3)
