-- A text that grows item by item.
use Rattle.web.proofs.Words.{List, [], ap, flat_map, get_or, length, sym, take, ℕ, ◌++◌, ◌+◌, ◌<◌, ◌∙◌, ◌∷◌, ◌≡◌}
use Rattle.std.proofs.lemmas.List.{flat_map_more, take_more}

-- one more item, for a list of items that can be copied
pub one_copy_more : {X A : Type 0} (f : X → List A) (xs : List X) (i : ℕ) (d : X) (before so_far now : List A) → i < length xs
    → so_far ≡ before ++ flat_map f (take i xs) → now ≡ so_far ++ f (get_or xs i d)
    → now ≡ before ++ flat_map f (take (i + 1) xs)
one_copy_more {X} {A} f xs i d before so_far now lt said more =
    more ∙ ap (λ (t : List A). t ++ f (get_or xs i d)) said ∙ flat_map_more f before (take i xs) (get_or xs i d)
    ∙ ap (λ (ys : List X). before ++ flat_map f ys) (sym (take_more xs i d lt))

pub one_item_more : {X A : Type 0} (f : X → List A) (xs : List X) (i : ℕ) (x : X) (before so_far now : List A) → i < length xs
    → x ≡ get_or xs i x → so_far ≡ before ++ flat_map f (take i xs) → now ≡ so_far ++ f x
    → now ≡ before ++ flat_map f (take (i + 1) xs)
one_item_more {X} {A} f xs i x before so_far now lt is said more =
    more ∙ ap (λ (t : List A). t ++ f x) said ∙ flat_map_more f before (take i xs) x
    ∙ ap (λ (y : X). before ++ flat_map f (take i xs ++ y ∷ [])) is
    ∙ ap (λ (ys : List X). before ++ flat_map f ys) (sym (take_more xs i x lt))
