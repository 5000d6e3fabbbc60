-- The element of a list with the least serial from a given one on.
use Rattle.rows.proofs.Words.{AllByRecursion, Binary, Equal, Greater, Has, Int, IsOneOf, IsPermutation}
use Rattle.rows.proofs.Words.{IsPermutation-sym, IsSorted, IsSorted-from_map, Less, List, None, Option, Ordering, Row}
use Rattle.rows.proofs.Words.{Some, all-permutation, all_from, all_has, ap₂, arith, ascending, cases_Bool, column}
use Rattle.rows.proofs.Words.{false, filter, has_filtered, has_kept, if◌then◌else◌, inl, inr, key_cmp}
use Rattle.rows.proofs.Words.{length_permutation, map, nat_cmp, nat_le, nat_tests, pos, refl, subst, suc, sym, take}
use Rattle.rows.proofs.Words.{true, value_cmp, [], ℕ, ◌<◌, ◌∙◌, ◌∷◌, ◌≡◌, ◌≤◌}
use Rattle.guard_sql.proofs.Words.{IsLeastFrom}
use Rattle.std.proofs.Common.{is_lt, add-one}
use Rattle.sqlite_trees.proofs.ListLemmas.{all_weaker}
use Rattle.store_sql.proofs.Selects.{AscendBy, number_cmp}

is_below : (a b : ℕ) → nat_le a b ≡ true → a ≤ b
is_below a b h = grind (arith, nat_tests)

is_above : (a b : ℕ) → nat_le a b ≡ false → b < a
is_above a b h = grind (arith, nat_tests)

up_cmp : (a b : Row) (o : Ordering) → value_cmp (column a 0) (column b 0) ≡ o
    → key_cmp 0 (ascending Binary ∷ []) a b ≡ o
up_cmp a b Less e = rw e refl
up_cmp a b Equal e = rw e refl
up_cmp a b Greater e = rw e refl

not_less : (a b : ℕ) → is_lt (nat_cmp b a) ≡ false → a ≤ b
not_less a b h = grind (arith, nat_tests)

has_same : {X : Type 0} (x : X) (xs ys : List X) → IsPermutation xs ys → Has xs x → Has ys x
has_same x xs ys same here =
    all_has (Has ys) xs x (all-permutation (Has ys) ys xs (IsPermutation-sym xs ys same) (all_from (Has ys) ys (λ e k. k))) here

-- for any elements with serials
module _ {X : Type 0} (serial : X → ℕ) where
  -- the nearer one of two rows, if there are two
  abbrev pub nearer : X → List X → List X
  nearer a [] = a ∷ []
  nearer a (b ∷ bs) = if nat_le (serial a) (serial b) then a ∷ [] else b ∷ bs

  -- the row with the least serial from this one on, or no row
  abbrev pub first_from : ℕ → List X → List X
  first_from n [] = []
  first_from n (a ∷ rows) = if nat_le n (serial a) then nearer a (first_from n rows) else first_from n rows

  abbrev pub IsFirst : ℕ → List X → List X → Type 0
  IsFirst n rows [] = IsLeastFrom serial n rows None
  IsFirst n rows (a ∷ others) = (others ≡ []) × IsLeastFrom serial n rows (Some a)

  or_it : (n : ℕ) (a : X) (rows found : List X) → n ≤ serial a → IsFirst n rows found
      → IsFirst n (a ∷ rows) (nearer a found)
  or_it n a rows [] le h = (
    refl,
    (
      inl refl,
      le,
      (λ _. omega arith, all_weaker _ _ (λ b under over. absurd (omega (arith, under, over))) rows h),
    ),
  )
  or_it n a rows (b ∷ bs) le h = elim (cases_Bool (nat_le (serial a) (serial b))) [
    | inl e ↦
        let near = is_below (serial a) (serial b) e in
        rw e (
          refl,
          (
            inl refl,
            le,
            (λ _. omega arith, all_weaker _ _ (λ y least over. omega (arith, near, least over)) rows h.1.2),
          ),
        )
    | inr e ↦
        let far = is_above (serial a) (serial b) e in
        rw e (h.0, (inr h.1.0, h.1.1, (λ _. omega (arith, far), h.1.2)))
  ]

  not_it : (n : ℕ) (a : X) (rows found : List X) → serial a < n → IsFirst n rows found
      → IsFirst n (a ∷ rows) found
  not_it n a rows [] lt h = (lt, h)
  not_it n a rows (b ∷ bs) lt h = (h.0, (inr h.1.0, h.1.1, (λ over. absurd (omega (arith, lt, over)), h.1.2)))

  pub is_first : (n : ℕ) (rows : List X) → IsFirst n rows (first_from n rows)
  is_first n [] = tt
  is_first n (a ∷ rows) = elim (cases_Bool (nat_le n (serial a))) [
    | inl e ↦ rw e (or_it n a rows (first_from n rows) (is_below n (serial a) e) (is_first n rows))
    | inr e ↦ rw e (not_it n a rows (first_from n rows) (is_above n (serial a) e) (is_first n rows))
  ]

  -- an element of that list is the one, and there is none if the list is empty
  pub it_is : (n : ℕ) (rows : List X) (found : Option X) → IsOneOf (first_from n rows) found
      → IsLeastFrom serial n rows found
  it_is n rows found is = go (first_from n rows) (is_first n rows) found is
    where
      go : (xs : List X) → IsFirst n rows xs → (found : Option X) → IsOneOf xs found
          → IsLeastFrom serial n rows found
      go [] h None is = h
      go [] h (Some y) is = absurd (let many = length_permutation [] (y ∷ is.0) is.1 in omega (arith, many))
      go (z ∷ zs) h None is = absurd cc
      go (z ∷ zs) h (Some y) is =
          let alone : IsPermutation (z ∷ []) (y ∷ is.0) = subst (λ l. IsPermutation (z ∷ l) (y ∷ is.0)) h.0 is.1 in
          let same = all-permutation (λ x. x ≡ z) (z ∷ []) (y ∷ is.0) alone (refl, tt) in
          subst (λ x. IsLeastFrom serial n rows (Some x)) (sym same.0) h.1

  -- ---- the first of an ascending list

  abbrev pub rises : X → X → Ordering
  rises x y = nat_cmp (serial x) (serial y)

  pub rising : (cells : X → Row) → ((x : X) → column (cells x) 0 ≡ Int (pos (serial x))) → (zs : List X)
      → AscendBy 0 (map cells zs) → IsSorted rises zs
  rising cells first zs up =
      let mine = IsSorted-from_map (λ x y. key_cmp 0 (ascending Binary ∷ []) (column x 0 ∷ []) (column y 0 ∷ []))
      cells zs up in
      subst (λ (o : X → X → Ordering). IsSorted o zs)
      (λ i x y. up_cmp (column (cells x) 0 ∷ []) (column (cells y) 0 ∷ []) (nat_cmp (serial x) (serial y))
      (ap₂ value_cmp (first x) (first y) ∙ number_cmp (serial x) (serial y)) i) mine

  least : (z : X) (zs : List X) → IsSorted rises (z ∷ zs)
      → AllByRecursion (λ y. serial z ≤ serial y) (z ∷ zs)
  least z [] sorted = (omega arith, tt)
  least z (y ∷ zs) sorted =
      let first : serial z ≤ serial y = not_less (serial z) (serial y) (sorted 0 z (omega arith) (omega arith)) in
      let tail : IsSorted rises (y ∷ zs) =
      λ k d p q. rw add-one (rw add-one at (sorted (suc k) d (omega arith) (omega arith))) in
      (omega arith, all_weaker _ _ (λ x le. omega (arith, le, first)) (y ∷ zs) (least y zs tail))

  -- if no two have the same serial, the first is the one
  pub first_is_least : (n : ℕ) (rows zs : List X)
      → ((x y : X) → Has rows x → Has rows y → serial x ≡ serial y → x ≡ y)
      → IsPermutation (filter (λ a. nat_le n (serial a)) rows) zs → IsSorted rises zs → take 1 zs ≡ first_from n rows
  first_is_least n rows zs apart same sorted = go zs (first_from n rows) same sorted (is_first n rows)
    where
      is_high : (x : X) → n ≤ serial x → nat_le n (serial x) ≡ true
      is_high x le = grind (arith, nat_tests)

      go : (zs found : List X) → IsPermutation (filter (λ a. nat_le n (serial a)) rows) zs → IsSorted rises zs
          → IsFirst n rows found → take 1 zs ≡ found
      go [] [] same sorted h = refl
      go [] (x ∷ xs) same sorted h =
          absurd (has_same x (filter (λ a. nat_le n (serial a)) rows) [] same
          (has_kept (λ (a : X). nat_le n (serial a)) rows x h.1.0 (is_high x h.1.1)))
      go (z ∷ zs) [] same sorted h =
          let it = has_filtered (λ (a : X). nat_le n (serial a)) rows z
          (has_same z (z ∷ zs) (filter (λ a. nat_le n (serial a)) rows) (IsPermutation-sym _ _ same) (inl refl)) in
          let under : serial z < n = all_has (λ (a : X). serial a < n) rows z h it.0 in
          absurd (omega (arith, under, is_below n (serial z) it.1))
      go (z ∷ zs) (x ∷ xs) same sorted h =
          let it = has_filtered (λ (a : X). nat_le n (serial a)) rows z
          (has_same z (z ∷ zs) (filter (λ a. nat_le n (serial a)) rows) (IsPermutation-sym _ _ same) (inl refl)) in
          let here = has_same x (filter (λ a. nat_le n (serial a)) rows) (z ∷ zs) same
          (has_kept (λ (a : X). nat_le n (serial a)) rows x h.1.0 (is_high x h.1.1)) in
          let over : serial z ≤ serial x = all_has (λ (y : X). serial z ≤ serial y) (z ∷ zs) x (least z zs sorted) here in
          let under : serial x ≤ serial z = all_has (λ (a : X). n ≤ serial a → serial x ≤ serial a) rows z h.1.2 it.0 (is_below n (serial z) it.1) in
          let equal : serial z ≡ serial x = omega (arith, under, over) in
          ap₂ ◌∷◌ (apart z x it.0 h.1.0 equal) (sym h.0)
