-- The runs (maximal ranges) of a set ascend.
use Rattle.store.proofs.Words.{AllByRecursion, AreRunsFrom, Bool, IsAscending, Less, List, RiseFrom, Run, [], arith}
use Rattle.store.proofs.Words.{cases_Bool, cases_lt, eq-eqb, inl, inr, map, nat_cmp_is, ne_eqb, run_row, runs_in, suc}
use Rattle.store.proofs.Words.{sym, zero, ℕ, ◌+◌, ◌<◌, ◌^◌, ◌∷◌, ◌≡◌, ◌≤◌}
use Rattle.std.proofs.Common.{nat_cmp}
use Rattle.krl.specs.Sets.{with_first}

-- ---- the runs of a set

pub rise_lower : (a b : ℕ) (runs : List Run) → a ≤ b → RiseFrom b runs → RiseFrom a runs
rise_lower a b [] le h = tt
rise_lower a b (r ∷ runs) le h = (omega (arith, le, h.0), h.1, h.2)

first_rises : (n : ℕ) (runs : List Run) → RiseFrom (n + 1) runs → RiseFrom n (with_first n runs)
first_rises n [] h = (omega arith, omega arith, tt)
first_rises n (r ∷ runs) h = elim (cases_lt (n + 1) r.lo) [
  | inl apart ↦ rw (ne_eqb r.lo (n + 1) (λ e. omega (arith, apart, e)))
      (omega arith, omega arith, (omega (arith, apart), h.1, h.2))
  | inr touches ↦ rw (eq-eqb r.lo (n + 1) (omega (arith, touches, h.0))) (omega arith, omega (arith, h.0, h.1), h.2)
]

pub runs_rise : (set : ℕ → Bool) (from count : ℕ) → RiseFrom from (runs_in set from count)
runs_rise set from zero = tt
runs_rise set from (suc count) =
    let later = runs_rise set (from + 1) count in
    elim (cases_Bool (set from)) [
      | inl there ↦ rw there (first_rises from (runs_in set (from + 1) count) later)
      | inr absent ↦ rw absent (rise_lower from (from + 1) (runs_in set (from + 1) count) (omega arith) later)
    ]

-- ---- rows

above : (m from : ℕ) (runs : List Run) → m < from → RiseFrom from runs
    → AllByRecursion (λ r. nat_cmp m r.lo ≡ Less) (map run_row runs)
above m from [] lt h = tt
above m from (r ∷ runs) lt h =
    (sym (nat_cmp_is m r.lo Less (omega (arith, lt, h.0))), above m (r.hi + 2) runs (omega (arith, lt, h.0, h.1)) h.2)

pub rows_rise : (from : ℕ) (runs : List Run) → RiseFrom from runs
    → IsAscending (λ a b. nat_cmp a.lo b.lo ≡ Less) (map run_row runs)
rows_rise from [] h = tt
rows_rise from (r ∷ runs) h = (above r.lo (r.hi + 2) runs (omega (arith, h.1)) h.2, rows_rise (r.hi + 2) runs h.2)

-- ---- runs whose ends are small enough

pub are_runs_from : (from : ℕ) (runs : List Run) → RiseFrom from runs → AllByRecursion (λ r. r.hi < 2 ^ 63) runs
    → AreRunsFrom from runs
are_runs_from from [] h small = tt
are_runs_from from (r ∷ runs) h small =
    (h.0, h.1, omega (arith, small.0), are_runs_from (r.hi + 2) runs h.2 small.1)
