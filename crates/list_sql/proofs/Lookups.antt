-- What the rows of a table represent, in whatever order they are found.
use Rattle.std.proofs.Common.{◌≡◌, ◌⊎◌, ◌∷◌, ◌++◌, ◌∙◌, ◌<◌, ◌+◌, ℕ, zero, suc, Bool, true, false, List, []}
use Rattle.std.proofs.Common.{Option, None, Some, Err, add-one, ap, ap₂, arith, inl, inr, length, refl, sym}
use Rattle.std.specs.Prelude.{find, ◌&&◌, ◌==◌, ◌||◌}
use Rattle.std.specs.List.{list_all}
use Rattle.std.specs.List.Sorted.{IsPermutation}
use Rattle.std.proofs.lemmas.Bool.{both_ways, cases_Bool, cases_lt, cond-false, cond-true, eq-eqb, eqb-true}
use Rattle.std.proofs.lemmas.List.Sorted.{IsPermutation-sym, length_permutation}
use Rattle.sqlite_rules.proofs.ListLemmas.{all_from, all_has, test_from, test_has}
use Rattle.sqlite_rules.specs.Lists.{Has}
use Rattle.sqlite_trees.proofs.ListLemmas.{all-permutation}
use Rattle.list_sql.specs.declared.lists.ListRow.{ListRow}
use Rattle.list_sql.specs.declared.opening_fault.OpeningFault.TheVariants as fault
use Rattle.list_sql.specs.Opening.{add_row, has_id, has_schema, is_known, joined, last_in, listed, row_with}

-- ---- one row

-- rows with the same id are the same
abbrev pub AreApart : List ListRow → Type 0
AreApart rows = (x y : ListRow) → Has rows x → Has rows y → x.id ≡ y.id → x ≡ y

-- a row that passes is found, or none passes
find_cases : (p : ListRow → Bool) (rows : List ListRow)
    → ((row : ListRow) × Has rows row × (p row ≡ true) × (find p rows ≡ Some row))
    ⊎ ((find p rows ≡ None) × ((row : ListRow) → Has rows row → p row ≡ false))
find_cases p [] = inr (refl, λ row here. absurd here)
find_cases p (x ∷ rows) = elim (cases_Bool (p x)) [
  | inl passes ↦ inl (x, inl refl, passes, cond-true (p x) (Some x) (find p rows) passes)
  | inr fails ↦ elim (find_cases p rows) [
    | inl it ↦ inl (it.0, inr it.1, it.2, cond-false (p x) (Some x) (find p rows) fails ∙ it.3)
    | inr none ↦ inr (
      cond-false (p x) (Some x) (find p rows) fails ∙ none.0,
      λ row here. elim here [ inl same ↦ ap p same ∙ fails | inr later ↦ none.1 row later ],
    )
  ]
]

pub found_is : (rows : List ListRow) (n : ℕ) (row : ListRow) → AreApart rows → Has rows row → row.id ≡ n
    → row_with rows n ≡ Some row
found_is rows n row apart here is = elim (find_cases (has_id n) rows) [
  | inl it ↦ it.3 ∙ ap Some (apart it.0 row it.1 here (eqb-true it.0.id n it.2 ∙ sym is))
  | inr none ↦ absurd (both_ways (has_id n row) (none.1 row here) (eq-eqb row.id n is))
]

-- ---- rows in another order

moved : (xs ys : List ListRow) → IsPermutation xs ys → (row : ListRow) → Has ys row → Has xs row
moved xs ys same row here =
    all_has (Has xs) ys row (all-permutation (Has xs) xs ys same (all_from (Has xs) xs (λ x h. h))) here

found_moved : (xs ys : List ListRow) → AreApart xs → IsPermutation xs ys → (n : ℕ) → row_with xs n ≡ row_with ys n
found_moved xs ys apart same n = elim (find_cases (has_id n) ys) [
  | inl it ↦ found_is xs n it.0 apart (moved xs ys same it.0 it.1) (eqb-true it.0.id n it.2) ∙ sym it.3
  | inr none ↦ elim (find_cases (has_id n) xs) [
    | inl it ↦ absurd (both_ways (has_id n it.0)
        (none.1 it.0 (moved ys xs (IsPermutation-sym xs ys same) it.0 it.1)) it.2)
    | inr nowhere ↦ nowhere.0 ∙ sym none.0
  ]
]

joined_moved : (xs ys : List ListRow) → AreApart xs → IsPermutation xs ys → (n : ℕ) → joined xs n ≡ joined ys n
joined_moved xs ys apart same zero = refl
joined_moved xs ys apart same (suc n) =
    ap₂ add_row (found_moved xs ys apart same (n + 1)) (joined_moved xs ys apart same n)

all_moved : (p : ListRow → Bool) (xs ys : List ListRow) → IsPermutation xs ys → list_all p xs ≡ list_all p ys
all_moved p xs ys same = elim (cases_Bool (list_all p ys)) [
  | inl all ↦ test_from p xs
      (λ row here. test_has p ys row all (moved ys xs (IsPermutation-sym xs ys same) row here)) ∙ sym all
  | inr some ↦ elim (cases_Bool (list_all p xs)) [
    | inl all ↦ absurd (both_ways (list_all p ys) some
        (test_from p ys (λ row here. test_has p xs row all (moved xs ys same row here))))
    | inr other ↦ other ∙ sym some
  ]
]

known_moved : (xs ys : List ListRow) → IsPermutation xs ys → is_known xs ≡ is_known ys
known_moved xs ys same = ap₂ ◌||◌ (all_moved (has_schema 2) xs ys same)
    (ap₂ ◌&&◌ (ap (λ (n : ℕ). n == 1) (sym (length_permutation xs ys same))) (all_moved (has_schema 1) xs ys same))

pub in_order : (xs ys : List ListRow) → AreApart xs → IsPermutation xs ys → last_in xs ≡ last_in ys
in_order [] [] apart same = refl
in_order [] (y ∷ ys) apart same = absurd (let many = length_permutation _ _ same in omega (arith, many))
in_order (x ∷ xs) [] apart same = absurd (let many = length_permutation _ _ same in omega (arith, many))
in_order (x ∷ xs) (y ∷ ys) apart same = ap₂ listed (known_moved (x ∷ xs) (y ∷ ys) same)
    (joined_moved (x ∷ xs) (y ∷ ys) apart same (length (x ∷ xs))
    ∙ ap (joined (y ∷ ys)) (sym (length_permutation (x ∷ xs) (y ∷ ys) same)))

-- ---- rows that are walked through by their ids

pub joined_more : (rows : List ListRow) (at : ℕ) (row : ListRow) (bytes : List ℕ) → row_with rows (at + 1) ≡ Some row
    → joined rows at ≡ Some bytes → joined rows (at + 1) ≡ Some (bytes ++ row.bytes)
joined_more rows at row bytes found before = ap (joined rows) (add-one at) ∙ ap₂ add_row found before

none_added : (found : Option ListRow) → add_row found None ≡ None
none_added None = refl
none_added (Some row) = refl

-- one id is missing
pub joined_none : (rows : List ListRow) (at n : ℕ) → row_with rows (at + 1) ≡ None → at < n → joined rows n ≡ None
joined_none rows at zero missing below = absurd (omega arith)
joined_none rows at (suc n) missing below = elim (cases_lt at n) [
  | inl lower ↦ ap (add_row (row_with rows (n + 1))) (joined_none rows at n missing lower)
      ∙ none_added (row_with rows (n + 1))
  | inr upper ↦ let same : n ≡ at = omega arith in
      ap (λ (found : Option ListRow). add_row found (joined rows n))
      (ap (λ (k : ℕ). row_with rows (k + 1)) same ∙ missing)
]

-- ---- no row, or some

pub no_rows : (rows : List ListRow) (b : Bool) → b ≡ (length rows == 0) → b ≡ true → last_in rows ≡ Err fault.NotAGuard
no_rows [] b is h = refl
no_rows (x ∷ rows) b is h = let none = eqb-true (length (x ∷ rows)) 0 (sym is ∙ h) in absurd (omega (arith, none))

pub some_rows : (rows : List ListRow) → 0 < length rows
    → last_in rows ≡ listed (is_known rows) (joined rows (length rows))
some_rows [] some = absurd (omega arith)
some_rows (row ∷ rows) some = refl

pub some_length : (rows : List ListRow) (b : Bool) → b ≡ (length rows == 0) → b ≡ false → 0 < length rows
some_length [] b is h = absurd (both_ways b h is)
some_length (x ∷ rows) b is h = omega arith
