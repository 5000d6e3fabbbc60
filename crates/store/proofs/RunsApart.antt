-- Rows of runs (maximal ranges) of which no two overlap or touch.
use Rattle.store.proofs.Words.{AreRunsFrom, List, Run, RunRow, [], arith, inl, inr, map, refl, run_row, ℕ, ◌+◌, ◌<◌}
use Rattle.store.proofs.Words.{◌∷◌, ◌≡◌, ◌≤◌}
use Rattle.store_sql.proofs.LastRun.{Has}

-- each contains a serial, and no two different ones overlap or touch
abbrev pub AreApart : List RunRow → Type 0
AreApart rows = (r x : RunRow) → Has rows r → Has rows x
    → (r.lo ≤ r.hi) × (r.lo < x.lo → r.hi + 1 < x.lo) × (r.lo ≡ x.lo → r ≡ x)

after : (from : ℕ) (rs : List Run) → AreRunsFrom from rs → (x : RunRow) → Has (map run_row rs) x
    → (from ≤ x.lo) × (x.lo ≤ x.hi)
after from [] h x here = absurd here
after from (r ∷ rs) h x (inl e) = rw e (h.0, h.1)
after from (r ∷ rs) h x (inr there) =
    let later = after (r.hi + 2) rs h.3 x there in (omega (arith, later.0, h.0, h.1), later.1)

pub rows_apart : (from : ℕ) (rs : List Run) → AreRunsFrom from rs → AreApart (map run_row rs)
rows_apart from [] h r x here there = absurd here
rows_apart from (q ∷ rs) h r x (inl e) (inl f) = rw (e, f) (h.1, (λ lt. absurd (omega (arith, lt))), λ _. refl)
rows_apart from (q ∷ rs) h r x (inl e) (inr there) =
    let later = after (q.hi + 2) rs h.3 x there in
    rw e (h.1, (λ lt. omega (arith, later.0)), λ same. absurd (omega (arith, later.0, same, h.1)))
rows_apart from (q ∷ rs) h r x (inr here) (inl f) =
    let later = after (q.hi + 2) rs h.3 r here in
    rw f (later.1, (λ lt. absurd (omega (arith, later.0, lt, h.1))), λ same. absurd (omega (arith, later.0, same, h.1)))
rows_apart from (q ∷ rs) h r x (inr here) (inr there) = rows_apart (q.hi + 2) rs h.3 r x here there
