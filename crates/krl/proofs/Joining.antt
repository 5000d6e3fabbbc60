-- Runs with one more interval.
use Rattle.krl.proofs.Words.{AreRunsFrom, List, Run, [], ap, arith, cases_lt, contains, if◌then◌else◌, inl, inr}
use Rattle.krl.proofs.Words.{is_within, le-ltb, leb, max, min, nat_lt, nat_tests, or_order, refl, ℕ, ◌&&◌, ◌+◌, ◌<◌}
use Rattle.krl.proofs.Words.{◌^◌, ◌||◌, ◌∙◌, ◌∷◌, ◌≡◌, ◌≤◌}
use Rattle.krl.proofs.Booleans.{ltb-yes, or_group}
use Rattle.krl.proofs.Maximal.{weaken}

-- goes through the runs with the interval: those below it stay, those that it overlaps or touches join it, and then it
-- is put before those above
abbrev pub joined : ℕ → ℕ → List Run → List Run
joined lo hi [] = record { lo = lo; hi = hi } ∷ []
joined lo hi (r ∷ rs) =
    if nat_lt (r.hi + 1) lo then r ∷ joined lo hi rs
    else if nat_lt (hi + 1) r.lo then record { lo = lo; hi = hi } ∷ joined r.lo r.hi rs
    else joined (min lo r.lo) (max hi r.hi) rs

-- the result is a list of runs
pub joined_runs : (from lo hi : ℕ) (rs : List Run) → from ≤ lo → lo ≤ hi → hi < 2 ^ 64 → AreRunsFrom from rs
    → AreRunsFrom from (joined lo hi rs)
joined_runs from lo hi [] p q t h = (p, q, t, tt)
joined_runs from lo hi (r ∷ rs) p q t h =
    elim (cases_lt (r.hi + 1) lo) [
      | inl lt ↦ rw (ltb-yes lt) (h.0, h.1, h.2, joined_runs (r.hi + 2) lo hi rs (omega arith) q t h.3)
      | inr le ↦ rw (le-ltb _ _ le) (elim (cases_lt (hi + 1) r.lo) [
        | inl lt ↦
            rw (ltb-yes lt) (
              p,
              q,
              t,
              joined_runs (hi + 2) r.lo r.hi rs (omega arith) h.1 h.2
                  (weaken (hi + 2) (r.hi + 2) rs (omega arith) h.3),
            )
        | inr over ↦
            rw (le-ltb _ _ over)
            (joined_runs from (min lo r.lo) (max hi r.hi) rs (omega arith) (omega arith) (omega arith)
            (weaken from (r.hi + 2) rs (omega arith) h.3))
      ])
    ]

within_both : (n a b c d : ℕ) → a ≤ b → c ≤ d → a ≤ d + 1 → c ≤ b + 1
    → (leb (min a c) n && leb n (max b d)) ≡ ((leb a n && leb n b) || (leb c n && leb n d))
within_both n a b c d p q r s = grind (arith, nat_tests)

-- and its set is the union
pub contains_joined : (from lo hi n : ℕ) (rs : List Run) → lo ≤ hi → AreRunsFrom from rs
    → contains (joined lo hi rs) n ≡ (is_within n (record { lo = lo; hi = hi }) || contains rs n)
contains_joined from lo hi n [] p h = refl
contains_joined from lo hi n (r ∷ rs) p h =
    elim (cases_lt (r.hi + 1) lo) [
      | inl lt ↦
          rw (ltb-yes lt) (ap (λ b. is_within n r || b) (contains_joined (r.hi + 2) lo hi n rs p h.3)
          ∙ or_order (is_within n r) (is_within n (record { lo = lo; hi = hi })) (contains rs n))
      | inr le ↦ rw (le-ltb _ _ le) (elim (cases_lt (hi + 1) r.lo) [
        | inl lt ↦
            rw (ltb-yes lt)
            (ap (λ b. is_within n (record { lo = lo; hi = hi }) || b)
            (contains_joined (r.hi + 2) r.lo r.hi n rs h.1 h.3))
        | inr over ↦ rw (le-ltb _ _ over) (contains_joined (r.hi + 2) (min lo r.lo) (max hi r.hi) n rs (omega arith) h.3
            ∙ ap (λ b. b || contains rs n) (within_both n lo hi r.lo r.hi p h.1 (omega arith) (omega arith))
            ∙ or_group (is_within n (record { lo = lo; hi = hi })) (is_within n r) (contains rs n))
      ])
    ]
