-- The runs of ascending serials.
use Rattle.krl.proofs.Words.{AreRunsFrom, IsStrictlyIncreasing, List, Run, [], ap, arith, cases_lt, contains, eq-eqb}
use Rattle.krl.proofs.Words.{eqb, false, get_or, if◌then◌else◌, inl, inr, is_among, is_within, leb, length, nat_tests}
use Rattle.krl.proofs.Words.{refl, suc, ℕ, ◌&&◌, ◌+◌, ◌-◌, ◌<◌, ◌^◌, ◌||◌, ◌∙◌, ◌∷◌, ◌≡◌, ◌≤◌}
use Rattle.std.proofs.Common.{add-one}
use Rattle.krl.proofs.Booleans.{or_group}

-- goes through the serials with the current run: the next serial extends it, and any other begins a new run
abbrev pub gathered : Run → List ℕ → List Run
gathered r [] = r ∷ []
gathered r (n ∷ ns) =
    if eqb (n - r.hi) 1 then gathered (record { lo = r.lo; hi = n }) ns else r ∷ gathered (record { lo = n; hi = n }) ns

-- ascending 64-bit serials from `from` on
abbrev pub AscendFrom : ℕ → List ℕ → Type 0
AscendFrom from [] = Unit {0}
AscendFrom from (n ∷ ns) = (from ≤ n) × (n < 2 ^ 64) × AscendFrom (n + 1) ns

tail_increases : (n : ℕ) (ns : List ℕ) → IsStrictlyIncreasing (n ∷ ns) → IsStrictlyIncreasing ns
tail_increases n ns h k lt = let later : suc k + 1 < length (n ∷ ns) = omega arith in
    rw add-one (rw add-one at (h (suc k) later))

-- the same for a slice of strictly increasing serials
pub ascend : (n : ℕ) (ns : List ℕ) → IsStrictlyIncreasing (n ∷ ns) → ((k : ℕ) → k < length ns → get_or ns k 0 < 2 ^ 64)
    → AscendFrom (n + 1) ns
ascend n [] h fits = tt
ascend n (m ∷ ns) h fits = (
  let lt : n < m = h 0 (omega arith) in
      omega arith,
  fits 0 (omega arith),
  ascend m ns (tail_increases n (m ∷ ns) h) (λ k lt. fits (suc k) (omega arith)),
)

pub eqb-no : (a b : ℕ) → b < a → eqb a b ≡ false
eqb-no a b lt = grind (arith, nat_tests)

-- they are runs
pub gathered_runs : (from : ℕ) (r : Run) (ns : List ℕ) → from ≤ r.lo → r.lo ≤ r.hi → r.hi < 2 ^ 64
    → AscendFrom (r.hi + 1) ns → AreRunsFrom from (gathered r ns)
gathered_runs from r [] p q t h = (p, q, t, tt)
gathered_runs from r (n ∷ ns) p q t h =
    elim (cases_lt (r.hi + 1) n) [
      | inl apart ↦
          rw (eqb-no (n - r.hi) 1 (omega arith))
          (p, q, t, gathered_runs (r.hi + 2) (record { lo = n; hi = n }) ns (omega arith) (omega arith) h.1 h.2)
      | inr near ↦
          rw (eq-eqb (n - r.hi) 1 (omega arith))
          (gathered_runs from (record { lo = r.lo; hi = n }) ns p (omega arith) h.1 h.2)
    ]

longer : (n a b m : ℕ) → a ≤ b → m ≡ b + 1 → (leb a n && leb n m) ≡ ((leb a n && leb n b) || eqb n m)
longer n a b m le e = grind (arith, nat_tests)

-- a run that has only one serial
pub within_one : (n m : ℕ) → (leb m n && leb n m) ≡ eqb n m
within_one n m = grind (arith, nat_tests)

-- and their set is that of the run and the serials
pub contains_gathered : (r : Run) (ns : List ℕ) (n : ℕ) → r.lo ≤ r.hi → AscendFrom (r.hi + 1) ns
    → contains (gathered r ns) n ≡ (is_within n r || is_among ns n)
contains_gathered r [] n p h = refl
contains_gathered r (m ∷ ns) n p h =
    elim (cases_lt (r.hi + 1) m) [
      | inl apart ↦
          rw (eqb-no (m - r.hi) 1 (omega arith))
          (ap (λ b. is_within n r || b) (contains_gathered (record { lo = m; hi = m }) ns n (omega arith) h.2
          ∙ ap (λ b. b || is_among ns n) (within_one n m)))
      | inr near ↦
          rw (eq-eqb (m - r.hi) 1 (omega arith))
          (contains_gathered (record { lo = r.lo; hi = m }) ns n (omega arith) h.2
          ∙ ap (λ b. b || is_among ns n) (longer n r.lo r.hi m p (omega arith))
          ∙ or_group (is_within n r) (eqb n m) (is_among ns n))
    ]
