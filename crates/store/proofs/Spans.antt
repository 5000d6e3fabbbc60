-- The runs (maximal ranges) that touch or overlap an interval are merged with it.
use Rattle.store.proofs.Words.{AreRunsFrom, Bool, IsPermutation, IsPermutation-refl, IsPermutation-trans, List, Run, []}
use Rattle.store.proofs.Words.{ap, arith, cases_lt, false, filter, inl, inr, joined, le-ltb, lt-ltb, max, min, nat_le}
use Rattle.store.proofs.Words.{nat_tests, not, refl, true, ℕ, ◌&&◌, ◌+◌, ◌-◌, ◌<◌, ◌∷◌, ◌≡◌, ◌≤◌}
use Rattle.std.proofs.lemmas.List.Sorted.{IsPermutation-cons}
use Rattle.std.proofs.lemmas.List.Sorted.{IsPermutation-middle}

-- the run overlaps or touches the interval
abbrev pub is_near : ℕ → ℕ → Run → Bool
is_near lo hi r = nat_le (lo - 1) r.hi && nat_le r.lo (hi + 1)

abbrev pub is_far : ℕ → ℕ → Run → Bool
is_far lo hi r = not (is_near lo hi r)

-- from the least start up to the greatest end
abbrev pub span : ℕ → ℕ → List Run → Run
span lo hi [] = record { lo = lo; hi = hi }
span lo hi (r ∷ rs) = span (min lo r.lo) (max hi r.hi) rs

near : (lo hi : ℕ) (r : Run) → 1 ≤ lo → lo ≤ r.hi + 1 → r.lo ≤ hi + 1 → is_near lo hi r ≡ true
near lo hi r low p q = grind (arith, nat_tests)

below : (lo hi : ℕ) (r : Run) → r.hi + 1 < lo → is_near lo hi r ≡ false
below lo hi r p = grind (arith, nat_tests)

above : (lo hi : ℕ) (r : Run) → hi + 1 < r.lo → is_near lo hi r ≡ false
above lo hi r p = grind (arith, nat_tests)

-- runs above the interval are not near it
none_near : (lo hi from : ℕ) (rs : List Run) → hi + 1 < from → AreRunsFrom from rs
    → (filter (is_near lo hi) rs ≡ []) × (filter (is_far lo hi) rs ≡ rs)
none_near lo hi from [] lt h = (refl, refl)
none_near lo hi from (r ∷ rs) lt h =
    let later = none_near lo hi (r.hi + 2) rs (omega (arith, h.0, h.1)) h.3 in
    let off = above lo hi r (omega (arith, h.0)) in
    (rw off later.0, rw off (ap (λ (xs : List Run). r ∷ xs) later.1))

-- a run merged into the runs above it stays as it is
carried : (r : Run) (rs : List Run) → r.lo ≤ r.hi → AreRunsFrom (r.hi + 2) rs → joined r.lo r.hi rs ≡ r ∷ rs
carried r [] le h = refl
carried r (s ∷ rs) le h =
    rw (le-ltb (s.hi + 1) r.lo (omega (arith, h.0, h.1)), lt-ltb (r.hi + 1) s.lo (omega (arith, h.0)))
    (ap (λ (xs : List Run). r ∷ xs) (carried s rs h.1 h.3))

-- the joined runs, once the interval has absorbed a run that ends at p
grown : (lo hi a b p : ℕ) (rs : List Run) → 1 ≤ lo → lo ≤ p + 1 → a ≤ lo → b ≡ max hi p → a ≤ b → AreRunsFrom (p + 2) rs
    → joined a b rs ≡ span a b (filter (is_near lo hi) rs) ∷ filter (is_far lo hi) rs
grown lo hi a b p [] low over first last le h = refl
grown lo hi a b p (r ∷ rs) low over first last le h = elim (cases_lt (hi + 1) r.lo) [
  | inl lt ↦ rw (
    le-ltb (r.hi + 1) a (omega (arith, h.0, h.1)),
    lt-ltb (b + 1) r.lo (omega (arith, h.0)),
    above lo hi r lt,
    (none_near lo hi (r.hi + 2) rs (omega (arith, h.1)) h.3).0,
    (none_near lo hi (r.hi + 2) rs (omega (arith, h.1)) h.3).1,
    carried r rs h.1 h.3,
  ) refl
  | inr ge ↦ rw (
    le-ltb (r.hi + 1) a (omega (arith, h.0, h.1)),
    le-ltb (b + 1) r.lo (omega (arith, h.0)),
    near lo hi r low (omega (arith, h.0, h.1)) ge,
  ) (grown lo hi (min a r.lo) (max b r.hi) r.hi rs low (omega (arith, h.0, h.1)) (omega arith) (omega (arith, h.0, h.1))
      (omega (arith, h.1)) h.3)
]

-- an element after the first
pub moved : {X : Type 0} (x y : X) (xs zs : List X) → IsPermutation (x ∷ xs) zs → IsPermutation (x ∷ y ∷ xs) (y ∷ zs)
moved x y xs zs h =
    IsPermutation-trans _ (y ∷ x ∷ xs) _ (IsPermutation-middle (x ∷ []) y xs) (IsPermutation-cons y (x ∷ xs) zs h)

-- the far runs, and the near ones merged with the interval, are the runs that `joined` returns
pub spanned : (lo hi from : ℕ) (rs : List Run) → 1 ≤ lo → lo ≤ hi → AreRunsFrom from rs
    → IsPermutation (span lo hi (filter (is_near lo hi) rs) ∷ filter (is_far lo hi) rs) (joined lo hi rs)
spanned lo hi from [] low le h = IsPermutation-refl _
spanned lo hi from (r ∷ rs) low le h = elim (cases_lt (r.hi + 1) lo) [
  | inl lt ↦ rw (lt-ltb (r.hi + 1) lo lt, below lo hi r lt)
      (moved (span lo hi (filter (is_near lo hi) rs)) r (filter (is_far lo hi) rs) (joined lo hi rs)
      (spanned lo hi (r.hi + 2) rs low le h.3))
  | inr ge ↦ elim (cases_lt (hi + 1) r.lo) [
    | inl lt ↦ rw (
      le-ltb (r.hi + 1) lo ge,
      lt-ltb (hi + 1) r.lo lt,
      above lo hi r lt,
      (none_near lo hi (r.hi + 2) rs (omega (arith, h.1)) h.3).0,
      (none_near lo hi (r.hi + 2) rs (omega (arith, h.1)) h.3).1,
      carried r rs h.1 h.3,
    ) (IsPermutation-refl _)
    | inr over ↦ rw (
      le-ltb (r.hi + 1) lo ge,
      le-ltb (hi + 1) r.lo over,
      near lo hi r low ge over,
      grown lo hi (min lo r.lo) (max hi r.hi) r.hi rs low ge (omega arith) (omega arith) (omega (arith, h.1)) h.3,
    ) (IsPermutation-refl _)
  ]
]
