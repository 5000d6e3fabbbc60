-- Whether a single run contains an interval.
use Rattle.store.proofs.Words.{HasAll, IsLast, IsTrue, List, None, Option, Run, RunRow, Some, all_has, ap, arith}
use Rattle.store.proofs.Words.{cases_Bool, cases_lt, contains, false, inl, inr, is_within, map, map_back, max, nat_le}
use Rattle.store.proofs.Words.{nat_tests, reaches, refl, run_of, run_row, some_from, true, ℕ, ◌+◌, ◌<◌, ◌↔◌, ◌≡◌, ◌≤◌}
use Rattle.store_sql.proofs.LastRun.{Has, some_has, mapped_has}
use Rattle.store.proofs.RunsApart.{AreApart}

is_in : (n : ℕ) (r : Run) → r.lo ≤ n → n ≤ r.hi → is_within n r ≡ true
is_in n r p q = grind (arith, nat_tests)

in_it : (n : ℕ) (r : Run) → is_within n r ≡ true → (r.lo ≤ n) × (n ≤ r.hi)
in_it n r h = (grind (arith, nat_tests), grind (arith, nat_tests))

below : (a b : ℕ) → nat_le a b ≡ true → a ≤ b
below a b h = grind (arith, nat_tests)

not_below : (a b : ℕ) → nat_le a b ≡ false → b < a
not_below a b h = grind (arith, nat_tests)

has_run : (runs : List Run) (x : RunRow) → Has (map run_row runs) x → Has runs (run_of x)
has_run runs x here = rw (map_back run_row run_of (λ r. refl) runs) at (mapped_has run_of (map run_row runs) x here)

-- if a serial of the interval is in no run, the runs don't contain the interval
missed : (lo hi n : ℕ) (runs : List Run) → lo ≤ n → n ≤ hi
    → ((r : RunRow) → Has (map run_row runs) r → r.lo ≤ n → n ≤ r.hi → ⊥) → HasAll (contains runs) lo hi → ⊥
missed lo hi n runs low high none all =
    let some = some_has (is_within n) runs (all n low high) in
    let ends = in_it n some.0 some.2 in none (run_row some.0) (mapped_has run_row runs some.0 some.1) ends.0 ends.1

-- the runs contain the interval if and only if the last run that begins at or before its first serial does
pub all_in : (lo hi : ℕ) (runs : List Run) (o : Option RunRow) → lo ≤ hi → AreApart (map run_row runs)
    → IsLast lo (map run_row runs) o → (IsTrue (reaches o hi) ↔ HasAll (contains runs) lo hi)
all_in lo hi runs None order apart last = (
  λ never. absurd (let wrong : false ≡ true = never in cc),
  λ all. absurd (missed lo hi lo runs (omega arith) order
      (λ r here low high. let above : lo < r.lo = all_has (λ (q : RunRow). lo < q.lo) (map run_row runs) r last here in
      omega (arith, above, low)) all),
)
all_in lo hi runs (Some x) order apart last = (
  λ reached n low high. some_from (is_within n) runs (run_of x) (has_run runs x last.0)
      (is_in n (run_of x) (omega (arith, last.1, low)) (let far = below hi x.hi reached in omega (arith, far, high))),
  λ all. elim (cases_Bool (nat_le hi x.hi)) [
    | inl e ↦ e
    | inr e ↦
        let short = not_below hi x.hi e in
        absurd (missed lo hi (max lo (x.hi + 1)) runs (omega arith) (omega (arith, short, order)) (none short) all)
  ],
)
  where
    none : x.hi < hi → (r : RunRow) → Has (map run_row runs) r → r.lo ≤ max lo (x.hi + 1) → max lo (x.hi + 1) ≤ r.hi → ⊥
    none short r here low high =
        let one = apart r x here last.0 in
        let other = apart x r last.0 here in
        let least = all_has (λ (q : RunRow). q.lo ≤ lo → q.lo ≤ x.lo) (map run_row runs) r last.2 here in
        elim (cases_lt r.lo x.lo) [
          | inl lt ↦ let gap = one.1 lt in omega (arith, gap, high, last.1)
          | inr ge ↦ elim (cases_lt x.lo r.lo) [
            | inl lt ↦ let gap = other.1 lt in elim (cases_lt lo r.lo) [
              | inl above ↦ omega (arith, gap, above, low)
              | inr le ↦ let under = least le in omega (arith, under, lt)
            ]
            | inr le ↦ let same : r.lo ≡ x.lo = omega (arith, le, ge) in
                let ends : r.hi ≡ x.hi = ap (λ (q : RunRow). q.hi) (one.2 same) in omega (arith, ends, high)
          ]
        ]
