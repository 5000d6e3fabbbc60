-- The runs of a set's serials among the `count` serials from `from` on.
use Rattle.krl.proofs.Words.{AreRuns, AreRunsFrom, Bool, IsMemberOf, List, Run, [], and_from, ap, arith, cases_Bool}
use Rattle.krl.proofs.Words.{cases_lt, contains, eq-eqb, eqb, false, inl, inr, is_within, leb, nat_tests, ne_eqb, suc}
use Rattle.krl.proofs.Words.{sym, true, zero, ℕ, ◌&&◌, ◌+◌, ◌<◌, ◌^◌, ◌||◌, ◌∙◌, ◌∷◌, ◌≡◌, ◌≤◌}
use Rattle.std.proofs.lemmas.Bool.{cases_eq, and_right}
use Rattle.krl.specs.Sets.{is_counted, with_first, runs_in}
use Rattle.krl.proofs.Booleans.{or_group}
use Rattle.krl.proofs.Maximal.{weaken, runs_unique, run_of}
use Rattle.krl.proofs.Gathering.{eqb-no, within_one}

-- runs with one more serial below them are runs
with_first_runs : (n : ℕ) (rs : List Run) → n < 2 ^ 64 → AreRunsFrom (n + 1) rs → AreRunsFrom n (with_first n rs)
with_first_runs n [] fits h = (omega arith, omega arith, fits, tt)
with_first_runs n (r ∷ rs) fits h = elim (cases_lt (n + 1) r.lo) [
  | inl apart ↦ rw (eqb-no r.lo (n + 1) apart) (omega arith, omega arith, fits, (omega arith, h.1, h.2, h.3))
  | inr touches ↦ rw (eq-eqb r.lo (n + 1) (omega arith)) (omega arith, omega (arith, h.1), h.2, h.3)
]

longer : (a b c n : ℕ) → c ≡ a + 1 → c ≤ b → (leb a n && leb n b) ≡ (eqb n a || (leb c n && leb n b))
longer a b c n e le = grind (arith, nat_tests)

-- and their set has that one serial more
contains_with_first : (n m : ℕ) (rs : List Run) → AreRunsFrom (n + 1) rs
    → contains (with_first n rs) m ≡ (eqb m n || contains rs m)
contains_with_first n m [] h = ap (λ b. b || false) (within_one m n)
contains_with_first n m (r ∷ rs) h = elim (cases_lt (n + 1) r.lo) [
  | inl apart ↦ rw (eqb-no r.lo (n + 1) apart) (ap (λ b. b || (is_within m r || contains rs m)) (within_one m n))
  | inr touches ↦
      rw (eq-eqb r.lo (n + 1) (omega arith)) (ap (λ b. b || contains rs m) (longer n r.hi r.lo m (omega arith) h.1)
      ∙ or_group (eqb m n) (is_within m r) (contains rs m))
]

-- those of the `count` serials from `from` on that are in the set fit in 64 bits
abbrev pub Fit : (ℕ → Bool) → ℕ → ℕ → Type 0
Fit set from count = (n : ℕ) → from ≤ n → n < from + count → set n ≡ true → n < 2 ^ 64

pub runs_ascend : (set : ℕ → Bool) (from count : ℕ) → Fit set from count → AreRunsFrom from (runs_in set from count)
runs_ascend set from zero fit = tt
runs_ascend set from (suc count) fit =
    let later = runs_ascend set (from + 1) count (λ n p q e. fit n (omega arith) (omega arith) e) in
    elim (cases_Bool (set from)) [
      | inl there ↦
          rw there (with_first_runs from (runs_in set (from + 1) count)
          (fit from (omega arith) (omega arith) there) later)
      | inr absent ↦ rw absent (weaken from (from + 1) (runs_in set (from + 1) count) (omega arith) later)
    ]

none_counted : (from n : ℕ) → is_counted from 0 n ≡ false
none_counted from n = grind (arith, nat_tests)

pub are_counted : (from count n : ℕ) → from ≤ n → n < from + count → is_counted from count n ≡ true
are_counted from count n p q = grind (arith, nat_tests)

first_counted : (from count n : ℕ) → n ≡ from → is_counted from (suc count) n ≡ true
first_counted from count n e = are_counted from (suc count) n (omega arith) (omega arith)

later_counted : (from count n : ℕ) → (n ≡ from → ⊥) → is_counted (from + 1) count n ≡ is_counted from (suc count) n
later_counted from count n ne = grind (arith, nat_tests)

contains_counted : (set : ℕ → Bool) (from count n : ℕ) → Fit set from count
    → contains (runs_in set from count) n ≡ (is_counted from count n && set n)
contains_counted set from zero n fit = sym (ap (λ b. b && set n) (none_counted from n))
contains_counted set from (suc count) n fit =
    let rs : List Run = runs_in set (from + 1) count in
    let fits : Fit set (from + 1) count = λ m p q e. fit m (omega arith) (omega arith) e in
    let later : contains rs n ≡ (is_counted (from + 1) count n && set n) =
    contains_counted set (from + 1) count n fits in
    let on : (n ≡ from → ⊥) → contains rs n ≡ (is_counted from (suc count) n && set n) = λ ne. later
    ∙ ap (λ b. b && set n) (later_counted from count n ne) in
    elim (cases_Bool (set from)) [
      | inl there ↦
          rw there (contains_with_first from n rs (runs_ascend set (from + 1) count fits) ∙ elim (cases_eq n from) [
            | inl first ↦ ap (λ b. b || contains rs n) (eq-eqb n from first)
                ∙ sym (and_from (is_counted from (suc count) n) (set n) (first_counted from count n first)
                (ap set first ∙ there))
            | inr ne ↦ ap (λ b. b || contains rs n) (ne_eqb n from ne) ∙ on ne
          ])
      | inr absent ↦ rw absent (elim (cases_eq n from) [
        | inl first ↦ later ∙ and_right (is_counted (from + 1) count n) (set n) (ap set first ∙ absent)
            ∙ sym (and_right (is_counted from (suc count) n) (set n) (ap set first ∙ absent))
        | inr ne ↦ on ne
      ])
    ]

-- the serials of runs fit in 64 bits
one_fits : (from : ℕ) (rs : List Run) (r : Run) → AreRunsFrom from rs → IsMemberOf r rs → r.hi < 2 ^ 64
one_fits from [] r h c = absurd c
one_fits from (s ∷ rs) r h (inl same) = rw (sym (ap (λ (x : Run). x.hi) same)) h.2
one_fits from (s ∷ rs) r h (inr c) = one_fits (s.hi + 2) rs r h.3 c

all_fit : (set : ℕ → Bool) (from count : ℕ) (rs : List Run) → AreRuns rs
    → ((n : ℕ) → contains rs n ≡ (is_counted from count n && set n)) → Fit set from count
all_fit set from count rs h same n p q e =
    let s = run_of rs n (same n ∙ and_from (is_counted from count n) (set n) (are_counted from count n p q) e) in
    let hi : s.0.hi < 2 ^ 64 = one_fits 0 rs s.0 h s.1 in
    let le : n ≤ s.0.hi = s.3 in
    omega arith

-- `runs_in` gives a list of runs
pub runs_in_runs : (set : ℕ → Bool) (from count : ℕ) → from + count ≤ 2 ^ 64 → AreRuns (runs_in set from count)
runs_in_runs set from count le =
    weaken 0 from (runs_in set from count) (omega arith) (runs_ascend set from count (λ n p q e. omega arith))

pub contains_runs_in : (set : ℕ → Bool) (from count n : ℕ) → from + count ≤ 2 ^ 64
    → contains (runs_in set from count) n ≡ (is_counted from count n && set n)
contains_runs_in set from count n le = contains_counted set from count n (λ m p q e. omega arith)

-- and no others
pub runs_in_only : (set : ℕ → Bool) (from count : ℕ) (rs : List Run) → AreRuns rs
    → ((n : ℕ) → contains rs n ≡ (is_counted from count n && set n)) → rs ≡ runs_in set from count
runs_in_only set from count rs h same =
    let fit = all_fit set from count rs h same in
    runs_unique 0 from rs (runs_in set from count) h (runs_ascend set from count fit)
    (λ n. same n ∙ sym (contains_counted set from count n fit))
