use Rattle.message.proofs.Words.{List, [], ap, append_assoc, codes, decimal, lines_text, sym, ℕ, ◌++◌, ◌∙◌, ◌∷◌}
use Rattle.std.proofs.lemmas.Result.{on_ok_weaker}
use Rattle.message.proofs.PutLines.{in_turn}
use Rattle.message.proofs.writing.put_range.Goals as goal

pub returns : goal.returns
returns c =
    let start : List ℕ = c.args.out.now.items in
    let lo : List ℕ = decimal c.args.range.lo in
    let hi : List ℕ = codes " " ++ decimal c.args.range.hi in
    on_ok_weaker c.put_number.result (λ put. in_turn start _ _ _ (codes "revoke-range ") lo (lines_text (hi ∷ []))
    c.in_ok-extend_from_slice.ensures.items c.in_ok-put_decimal.ensures.ok put
    ∙ ap (λ (t : List ℕ). start ++ (codes "revoke-range " ++ t)) (sym (append_assoc lo hi (10 ∷ []))))
    c.put_number.ensures
