-- Lists without duplicates.
use Rattle.std.proofs.Common.{◌≡◌, ℕ, zero, suc, List, [], ◌∷◌, get_or, true, not, arith, sym, ◌∙◌, refl}
use Rattle.std.specs.List.{list_any}
use Rattle.std.specs.Str.{bytes_eq}
use Rattle.std.proofs.lemmas.Bool.{and_parts, and_from, not-true, not_from_false, both_ways, false_from_ne_true}
use Rattle.std.proofs.lemmas.List.{get_or_default}
use Rattle.std.proofs.lemmas.List.Folds.{list_any_at, list_any_none}
use Rattle.std.proofs.lemmas.Slice.Eq.{bytes_eq-Decides}
use Rattle.values.specs.Lists.{are_distinct}
use Rattle.values.specs.Laws.{AreDistinct}

pub distinct_found : (ts : List (List ℕ)) → are_distinct ts ≡ true → AreDistinct ts
distinct_found [] h i j below inside = absurd (omega arith)
distinct_found (t ∷ ts) h i zero below inside = absurd (omega arith)
distinct_found (t ∷ ts) h zero (suc j) below inside = λ same.
    let p = and_parts (not (list_any (λ u. bytes_eq u t) ts)) (are_distinct ts) h in
    let there =
    list_any_at (λ u. bytes_eq u t) ts j [] (omega arith) ((bytes_eq-Decides (get_or ts j []) t).1 (sym same)) in
    both_ways _ (not-true _ p.0) there
distinct_found (t ∷ ts) h (suc i) (suc j) below inside =
    let p = and_parts (not (list_any (λ u. bytes_eq u t) ts)) (are_distinct ts) h in
    distinct_found ts p.1 i j (omega arith) (omega arith)

pub distinct_from : (ts : List (List ℕ)) → AreDistinct ts → are_distinct ts ≡ true
distinct_from [] h = refl
distinct_from (t ∷ ts) h =
    and_from (not (list_any (λ u. bytes_eq u t) ts)) (are_distinct ts)
    (not_from_false _ (list_any_none (λ u. bytes_eq u t) ts (λ k d inside.
    false_from_ne_true _ (λ same. h zero (suc k) (omega arith) (omega arith)
    (sym ((bytes_eq-Decides (get_or ts k d) t).0 same) ∙ get_or_default ts k d [] inside)))))
    (distinct_from ts (λ i j below inside. h (suc i) (suc j) (omega arith) (omega arith)))
