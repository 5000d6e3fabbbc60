-- The last of the runs that begin at or before a serial.
use Rattle.store_sql.proofs.Words.{AllByRecursion, Bool, Contents, Err, Fault, FindsOne, IsOneOf, IsPermutation-sym}
use Rattle.store_sql.proofs.Words.{IsSorted, List, None, Ok, Option, Result, RunRow, Some, State, [], all-permutation}
use Rattle.store_sql.proofs.Words.{ap, arith, cases_Bool, false, filter, inl, inr, length_permutation, nat_cmp, nat_le}
use Rattle.store_sql.proofs.Words.{nat_tests, refl, suc, take, true, ℕ, ◌<◌, ◌∷◌, ◌≡◌, ◌≤◌}
use Rattle.std.proofs.Common.{is_lt, IsPermutation}
use Rattle.sqlite_trees.proofs.ListLemmas.{all_weaker}
use Rattle.store_sql.specs.Runs.{FindsIts, last_at, later}
pub use Rattle.sqlite_rules.specs.Lists.{Has}
pub use Rattle.sqlite_rules.proofs.ListLemmas.{has_filtered, has_kept, all_has, all_from, some_has, some_from}
pub use Rattle.sqlite_rules.proofs.ProbeLemmas.{mapped_has}

-- ---- a run that is found

abbrev pub listed : {X : Type 0} → Option X → List X
listed None = []
listed (Some x) = x ∷ []

the_one : {X : Type 0} (it found : Option X) → IsOneOf (listed it) found → found ≡ it
the_one None None h = refl
the_one None (Some x) h = absurd (let many = length_permutation [] (x ∷ h.0) h.1 in omega (arith, many))
the_one (Some y) None h = absurd cc
the_one (Some y) (Some x) h =
    let same : x ≡ y = (all-permutation (λ z. z ≡ y) (y ∷ []) (x ∷ h.0) h.1 (refl, tt)).0 in ap (λ z. Some z) same

pub its_one : {X : Type 0} (of : Contents → Option X) (old new : State) (r : Result (Option X) Fault)
    → FindsOne (λ c. listed (of c)) old new r → FindsIts of old new r
its_one of old new (Ok found) h = λ c means. let it = h c means in (it.0, the_one (of c) found it.1)
its_one of old new (Err e) h = h

-- ---- the last run

abbrev pub IsLast : ℕ → List RunRow → Option RunRow → Type 0
IsLast n rs None = AllByRecursion (λ r. n < r.lo) rs
IsLast n rs (Some x) = Has rs x × (x.lo ≤ n) × AllByRecursion (λ r. r.lo ≤ n → r.lo ≤ x.lo) rs

is_below : (a b : ℕ) → nat_le a b ≡ true → a ≤ b
is_below a b h = grind (arith, nat_tests)

is_above : (a b : ℕ) → nat_le a b ≡ false → b < a
is_above a b h = grind (arith, nat_tests)

or_it : (n : ℕ) (r : RunRow) (rs : List RunRow) (o : Option RunRow) → r.lo ≤ n → IsLast n rs o
    → IsLast n (r ∷ rs) (later r o)
or_it n r rs None low h =
    (inl refl, low, (λ _. omega arith, all_weaker _ _ (λ y above below. absurd (omega (arith, above, below))) rs h))
or_it n r rs (Some x) low h = elim (cases_Bool (nat_le r.lo x.lo)) [
  | inl e ↦ rw e (inr h.0, h.1, (λ _. is_below r.lo x.lo e, h.2))
  | inr e ↦ let lt = is_above r.lo x.lo e in
      rw e (inl refl, low, (λ _. omega arith, all_weaker _ _ (λ y le below. omega (arith, le below, lt)) rs h.2))
]

not_it : (n : ℕ) (r : RunRow) (rs : List RunRow) (o : Option RunRow) → n < r.lo → IsLast n rs o → IsLast n (r ∷ rs) o
not_it n r rs None lt h = (lt, h)
not_it n r rs (Some x) lt h = (inr h.0, h.1, (λ below. absurd (omega (arith, lt, below)), h.2))

pub is_last : (n : ℕ) (rs : List RunRow) → IsLast n rs (last_at n rs)
is_last n [] = tt
is_last n (r ∷ rs) = elim (cases_Bool (nat_le r.lo n)) [
  | inl e ↦ rw e (or_it n r rs (last_at n rs) (is_below r.lo n e) (is_last n rs))
  | inr e ↦ rw e (not_it n r rs (last_at n rs) (is_above r.lo n e) (is_last n rs))
]

-- ---- the first of descending runs

abbrev pub falls : RunRow → RunRow → Rattle.std.proofs.Common.Ordering
falls x y = nat_cmp y.lo x.lo

not_less : (a b : ℕ) → is_lt (nat_cmp a b) ≡ false → b ≤ a
not_less a b h = grind (arith, nat_tests)

greatest : (z : RunRow) (zs : List RunRow) → IsSorted falls (z ∷ zs) → AllByRecursion (λ y. y.lo ≤ z.lo) (z ∷ zs)
greatest z [] sorted = (omega arith, tt)
greatest z (y ∷ zs) sorted =
    let first : y.lo ≤ z.lo = not_less z.lo y.lo (sorted 0 z (omega arith) (omega arith)) in
    let tail : IsSorted falls (y ∷ zs) =
    λ k d p q. rw Rattle.std.proofs.Common.add-one (rw Rattle.std.proofs.Common.add-one at (sorted (suc k) d (omega arith) (omega arith))) in
    (omega arith, all_weaker _ _ (λ x le. omega (arith, le, first)) (y ∷ zs) (greatest y zs tail))

has_same : {X : Type 0} (x : X) (xs ys : List X) → IsPermutation xs ys → Has xs x → Has ys x
has_same x xs ys same here =
    all_has (Has ys) xs x (all-permutation (Has ys) ys xs (IsPermutation-sym xs ys same) (all_from (Has ys) ys (λ e k. k))) here

-- if no two begin with the same serial, it is the last
pub first_is_last : (n : ℕ) (rs zs : List RunRow) → ((x y : RunRow) → Has rs x → Has rs y → x.lo ≡ y.lo → x ≡ y)
    → IsPermutation (filter (λ r. nat_le r.lo n) rs) zs → IsSorted falls zs → take 1 zs ≡ listed (last_at n rs)
first_is_last n rs zs apart same sorted = go zs (last_at n rs) same sorted (is_last n rs)
  where
    low : RunRow → Bool
    low r = nat_le r.lo n

    is_low : (x : RunRow) → x.lo ≤ n → nat_le x.lo n ≡ true
    is_low x le = grind (arith, nat_tests)

    go : (zs : List RunRow) (o : Option RunRow) → IsPermutation (filter (λ r. nat_le r.lo n) rs) zs → IsSorted falls zs
        → IsLast n rs o → take 1 zs ≡ listed o
    go [] None same sorted h = refl
    go [] (Some x) same sorted h =
        absurd (has_same x (filter (λ r. nat_le r.lo n) rs) [] same (has_kept (λ (r : RunRow). nat_le r.lo n) rs x h.0 (is_low x h.1)))
    go (z ∷ zs) None same sorted h =
        let it = has_filtered (λ (r : RunRow). nat_le r.lo n) rs z
        (has_same z (z ∷ zs) (filter (λ r. nat_le r.lo n) rs) (IsPermutation-sym _ _ same) (inl refl)) in
        let above : n < z.lo = all_has (λ (r : RunRow). n < r.lo) rs z h it.0 in
        absurd (omega (arith, above, is_below z.lo n it.1))
    go (z ∷ zs) (Some x) same sorted h =
        let it = has_filtered (λ (r : RunRow). nat_le r.lo n) rs z
        (has_same z (z ∷ zs) (filter (λ r. nat_le r.lo n) rs) (IsPermutation-sym _ _ same) (inl refl)) in
        let here = has_same x (filter (λ r. nat_le r.lo n) rs) (z ∷ zs) same
        (has_kept (λ (r : RunRow). nat_le r.lo n) rs x h.0 (is_low x h.1)) in
        let under : x.lo ≤ z.lo = all_has (λ (y : RunRow). y.lo ≤ z.lo) (z ∷ zs) x (greatest z zs sorted) here in
        let over : z.lo ≤ x.lo = all_has (λ (r : RunRow). r.lo ≤ n → r.lo ≤ x.lo) rs z h.2 it.0 (is_below z.lo n it.1) in
        let equal : z.lo ≡ x.lo = omega (arith, under, over) in
        ap (λ y. y ∷ []) (apart z x it.0 h.0 equal)
