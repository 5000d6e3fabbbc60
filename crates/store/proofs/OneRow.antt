-- A single row that was found, and its value.
use Rattle.store.proofs.Words.{Contents, Fault, IsLawful, IsOneOf, IsRead, IsUnchanged, Kept, List, Means, None, Option}
use Rattle.store.proofs.Words.{Result, ShowsFromRows, Some, State, [], ap, arith, contents_of, length_permutation}
use Rattle.store.proofs.Words.{one_permutation, option_map, refl, subst, ◌∙◌, ◌∷◌, ◌≡◌}
use Rattle.sqlite.specs.State.{State as Connection}
use Rattle.store.proofs.Sorting.{shows_read}
use Rattle.store.specs.Finding.{value_in}

-- the row of a value, if there is one
abbrev pub rows_of : {R X : Type 0} → (X → R) → Option X → List R
rows_of row None = []
rows_of row (Some x) = row x ∷ []

-- the row of a value, and no other, is found
pub found_row : {R X : Type 0} (row : X → R) (o : Option X) (found : Option R) → IsOneOf (rows_of row o) found
    → found ≡ option_map row o
found_row row None None is = refl
found_row row None (Some r) is = absurd (omega (arith, length_permutation [] (r ∷ is.0) is.1))
found_row row (Some x) None is = absurd cc
found_row row (Some x) (Some r) is =
    let same : r ∷ is.0 ≡ row x ∷ [] = one_permutation (row x) (r ∷ is.0) is.1 in
    let head : r ≡ row x = cc in
    ap (λ (y : _). Some y) head

module _ {R X : Type 0} (value : R → Option X) (row : X → R) (of : Contents → List R) (one : State → Option X)
    (only : (s : State) (kept : List Kept) → IsLawful s → of (contents_of s kept) ≡ rows_of row (one s))
    (again : (s : State) (x : X) → IsLawful s → one s ≡ Some x → value (row x) ≡ Some x) where
  read_again : (s : State) (o : Option X) → IsLawful s → one s ≡ o → value_in value (option_map row o) ≡ Some o
  read_again s None lawful is = refl
  read_again s (Some x) lawful is = ap (option_map (λ y. Some y)) (again s x lawful is)

  found_value : (s : State) (kept : List Kept) (found : Option R) → IsLawful s → IsOneOf (of (contents_of s kept)) found
      → value_in value found ≡ Some (one s)
  found_value s kept found lawful is =
      ap (value_in value)
      (found_row row (one s) found (subst (λ (l : List R). IsOneOf l found) (only s kept lawful) is))
      ∙ read_again s (one s) lawful refl

  -- the row's value is shown, and the row is not damaged
  pub shows_one : (old new : Connection) (found : Option R) (r : Result (Option X) Fault)
      → ((c : Contents) → Means old.now c → IsUnchanged old new × IsOneOf (of c) found)
      → IsRead (value_in value found) r → ShowsFromRows (λ s kept x. x ≡ one s) old new r
  shows_one old new found r finds =
      shows_read (λ s kept x. x ≡ one s) old new (value_in value found) r (λ s kept lawful means.
      let f = finds (contents_of s kept) means in (f.0, (one s, found_value s kept found lawful f.1, refl)))
