use Rattle.message.proofs.Words.{List, Pair, [], ap, arith, length, lines_text, map, option_line, refl, sym, take, ℕ}
use Rattle.message.proofs.Words.{◌++◌, ◌+◌, ◌<◌, ◌∙◌, ◌∷◌, ◌≡◌}
use Rattle.std.proofs.lemmas.List.{map_more}
use Rattle.message.proofs.PutLines.{IsPut, then_line}
use Rattle.message.proofs.writing.put_options.Goals as goal

pub loop-option-preserved : goal.loop-option-preserved
loop-option-preserved c =
    let options : List Pair = c.args.options.now in
    let i : ℕ = c.loop-option.option-index in
    let item : Pair = c.option-item.result in
    let inside : i < length options = omega arith in
    let more : map option_line (take (i + 1) options) ≡ map option_line (take i options) ++ option_line item ∷ [] =
    map_more option_line options i item inside
    ∙ ap (λ (p : Pair). map option_line (take i options) ++ option_line p ∷ []) (sym c.option-item.is) in
    let so_far : IsPut c.args.out.now.items (map option_line (take i options)) c.loop-option.out.items =
    record { is = c.loop-option.invariant } in
    (then_line so_far (option_line item) refl c.in_ok-put_option.ensures).is
    ∙ ap (λ (ls : List (List ℕ)). c.args.out.now.items ++ lines_text ls) (sym more)
