-- Runs cut at serials.
use Rattle.krl.proofs.Words.{AreRunsFrom, Bool, List, None, Option, Run, Some, [], and-false, ap, arith, cases_lt}
use Rattle.krl.proofs.Words.{contains, drop, false, get_or, inl, inr, is_last_reached, is_within, le-leb, le-ltb, leb}
use Rattle.krl.proofs.Words.{length, list_all, ltb, max, min, nat_tests, refl, suc, sym, true, zero, ℕ, ◌&&◌, ◌+◌, ◌-◌}
use Rattle.krl.proofs.Words.{◌<◌, ◌||◌, ◌∙◌, ◌∷◌, ◌≡◌, ◌≤◌, ◌⊎◌}
use Rattle.std.specs.Prelude.{slice_get}
use Rattle.std.specs.List.{filter_map}
use Rattle.std.specs.List.Sorted.{IsNonDecreasing}
use Rattle.std.proofs.lemmas.Bool.{lt-leb}
use Rattle.std.proofs.lemmas.List.Sorted.{IsNonDecreasingBy-drop}
use Rattle.krl.specs.Sets.{is_below_bound, cut_run}
use Rattle.krl.proofs.Booleans.{ltb-yes}
use Rattle.krl.proofs.Maximal.{weaken}

-- whether a serial is at or above one serial and below a bound
abbrev pub is_between : ℕ → Option ℕ → ℕ → Bool
is_between from before n = leb from n && is_below_bound n before

-- a run has no serial there, or one run of serials
abbrev pub CutCases : ℕ → Option ℕ → Run → Type 0
CutCases from before r =
    ((cut_run from before r ≡ None) × ((n : ℕ) → (is_between from before n && is_within n r) ≡ false))
    ⊎ ((c : Run) × (cut_run from before r ≡ Some c) × (r.lo ≤ c.lo) × (c.lo ≤ c.hi) × (c.hi ≤ r.hi)
    × ((n : ℕ) → is_within n c ≡ (is_between from before n && is_within n r)))

cut_cases : (from : ℕ) (before : Option ℕ) (r : Run) → r.lo ≤ r.hi → CutCases from before r
cut_cases from None r le = elim (cases_lt r.hi (max r.lo from)) [
  | inl lt ↦ inl (rw (lt-leb (max r.lo from) r.hi lt) refl, λ n. grind (arith, nat_tests))
  | inr ge ↦
      inr (
        record { lo = max r.lo from; hi = r.hi },
        rw (le-leb (max r.lo from) r.hi ge) refl,
        omega arith,
        ge,
        omega arith,
        λ n. grind (arith, nat_tests),
      )
]
cut_cases from (Some bound) r le = elim (cases_lt (max r.lo from) bound) [
  | inl lt ↦ rw (lt-leb bound (max r.lo from) lt) (elim (cases_lt (min r.hi (bound - 1)) (max r.lo from)) [
    | inl none ↦ inl (rw (lt-leb (max r.lo from) (min r.hi (bound - 1)) none) refl, λ n. grind (arith, nat_tests))
    | inr ge ↦
        inr (
          record { lo = max r.lo from; hi = min r.hi (bound - 1) },
          rw (le-leb (max r.lo from) (min r.hi (bound - 1)) ge) refl,
          omega arith,
          ge,
          omega arith,
          λ n. grind (arith, nat_tests),
        )
  ])
  | inr past ↦ inl (rw (le-leb bound (max r.lo from) past) refl, λ n. grind (arith, nat_tests))
]

and_or : (p a b : Bool) → ((p && a) || (p && b)) ≡ (p && (a || b))
and_or true a b = refl
and_or false a b = refl

-- the cut runs are runs
pub cut_runs : (at : ℕ) (from : ℕ) (before : Option ℕ) (rs : List Run) → AreRunsFrom at rs
    → AreRunsFrom at (filter_map (cut_run from before) rs)
cut_runs at from before [] h = tt
cut_runs at from before (r ∷ rs) h = elim (cut_cases from before r h.1) [
  | inl none ↦ rw (none.0) (weaken at (r.hi + 2) _ (omega arith) (cut_runs (r.hi + 2) from before rs h.3))
  | inr some ↦
      rw (some.1) (
        omega (arith, some.2),
        some.3,
        omega (arith, some.4),
        weaken (some.0.hi + 2) (r.hi + 2) _ (omega (arith, some.4)) (cut_runs (r.hi + 2) from before rs h.3),
      )
]

-- and they contain the serials that are there
pub contains_cut : (at : ℕ) (from : ℕ) (before : Option ℕ) (rs : List Run) (n : ℕ) → AreRunsFrom at rs
    → contains (filter_map (cut_run from before) rs) n ≡ (is_between from before n && contains rs n)
contains_cut at from before [] n h = sym (and-false (is_between from before n))
contains_cut at from before (r ∷ rs) n h = elim (cut_cases from before r h.1) [
  | inl none ↦
      rw (none.0) (contains_cut (r.hi + 2) from before rs n h.3
      ∙ sym (ap (λ b. b || (is_between from before n && contains rs n)) (none.1 n))
      ∙ and_or (is_between from before n) (is_within n r) (contains rs n))
  | inr some ↦ rw (some.1) (ap (λ b. is_within n some.0 || b) (contains_cut (r.hi + 2) from before rs n h.3)
      ∙ ap (λ b. b || (is_between from before n && contains rs n)) (some.5 n)
      ∙ and_or (is_between from before n) (is_within n r) (contains rs n))
]

-- ---- the last place that a serial reaches

all_above : (n : ℕ) (xs : List ℕ) → ((j : ℕ) → j < length xs → n < get_or xs j 0)
    → list_all (λ later. ltb n later) xs ≡ true
all_above n [] h = refl
all_above n (x ∷ xs) h = rw (ltb-yes (h 0 (omega arith))) (all_above n xs (λ j lt. h (suc j) (omega arith)))

first_later : (n : ℕ) (xs : List ℕ) → IsNonDecreasing xs
    → list_all (λ later. ltb n later) xs ≡ is_below_bound n (slice_get xs 0)
first_later n [] h = refl
first_later n (x ∷ xs) h = elim (cases_lt n x) [
  | inl lt ↦
      rw (ltb-yes lt)
      (all_above n xs (λ j in-xs. let le : x ≤ get_or xs j 0 =
      h 0 (suc j) 0 (omega arith) (omega arith) in omega arith))
  | inr le ↦ rw (le-ltb _ _ le) refl
]

get_drop : {X : Type 0} (k : ℕ) (xs : List X) → slice_get (drop k xs) 0 ≡ slice_get xs k
get_drop zero xs = refl
get_drop (suc k) [] = refl
get_drop (suc k) (x ∷ xs) = get_drop k xs

-- in numbers that don't descend, the next place decides
pub last_reached : (since : List ℕ) (k n : ℕ) → IsNonDecreasing since
    → is_last_reached since k n ≡ is_between (get_or since k 0) (slice_get since (k + 1)) n
last_reached since k n h =
    ap (λ b. leb (get_or since k 0) n && b)
    (first_later n (drop (k + 1) since) (IsNonDecreasingBy-drop (λ x. x) (k + 1) since h)
    ∙ ap (is_below_bound n) (get_drop (k + 1) since))
