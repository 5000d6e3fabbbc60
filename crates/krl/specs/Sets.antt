-- Sets of serials, and their runs.
use Rattle.std.specs.Prelude.{◌≡◌, ◌==◌, ℕ, zero, suc, ◌+◌, ◌<◌, ◌≤◌, ◌^◌, List, [], ◌∷◌, Bool, true, false, ◌&&◌}
use Rattle.std.specs.Prelude.{◌⊎◌, nat_lt, nat_le, Option, Some, None, drop, slice_index, min, max, ◌-◌, if◌then◌else◌}
use Rattle.std.specs.List.{list_any, list_all}
use Rattle.krl.specs.declared.run.Run.{Run}

-- whether the serial is in the run
abbrev pub is_within : ℕ → Run → Bool
is_within n r = nat_le r.lo n && nat_le n r.hi

-- the set that runs represent: whether the serial is in one of them
abbrev pub contains : List Run → ℕ → Bool
contains rs n = list_any (is_within n) rs

-- the set that a list of serials represents
abbrev pub is_among : List ℕ → ℕ → Bool
is_among ns n = list_any (λ s. n == s) ns

-- each serial from lo to hi is in the set
abbrev pub HasAll : (ℕ → Bool) → ℕ → ℕ → Type 0
HasAll set lo hi = (n : ℕ) → lo ≤ n → n ≤ hi → set n ≡ true

-- ascending runs of 64-bit serials, from `from` on, of which no two overlap or touch
abbrev pub AreRunsFrom : ℕ → List Run → Type 0
AreRunsFrom from [] = Unit {0}
AreRunsFrom from (r ∷ rs) = (from ≤ r.lo) × (r.lo ≤ r.hi) × (r.hi < 2 ^ 64) × AreRunsFrom (r.hi + 2) rs

-- ascending runs of 64-bit serials, of which no two overlap or touch
abbrev pub AreRuns : List Run → Type 0
AreRuns rs = AreRunsFrom 0 rs

-- a maximal interval of the set
pub record IsRunOf (set : ℕ → Bool) (r : Run) : Type 0 where
  pub some : r.lo ≤ r.hi
  pub inside : HasAll set r.lo r.hi
  pub below : (n : ℕ) → n + 1 ≡ r.lo → set n ≡ false
  pub above : set (r.hi + 1) ≡ false

-- it is in the list
abbrev pub IsMemberOf : {X : Type 0} → X → List X → Type 0
IsMemberOf r [] = ⊥
IsMemberOf r (s ∷ rs) = (s ≡ r) ⊎ IsMemberOf r rs

-- whether the serial is one of the `count` serials from `from` on
abbrev pub is_counted : ℕ → ℕ → ℕ → Bool
is_counted from count n = nat_le from n && nat_lt n (from + count)

-- the runs with one more serial, which is below all of them
abbrev pub with_first : ℕ → List Run → List Run
with_first n [] = record { lo = n; hi = n } ∷ []
with_first n (r ∷ rs) =
    if r.lo == n + 1 then record { lo = n; hi = r.hi } ∷ rs
    else record { lo = n; hi = n } ∷ r ∷ rs

-- the runs of those of the `count` serials from `from` on that are in the set
abbrev pub runs_in : (ℕ → Bool) → ℕ → ℕ → List Run
runs_in set from zero = []
runs_in set from (suc count) =
    if set from then with_first from (runs_in set (from + 1) count)
    else runs_in set (from + 1) count

-- whether the serial is below the bound, if there is one
abbrev pub is_below_bound : ℕ → Option ℕ → Bool
is_below_bound n None = true
is_below_bound n (Some bound) = nat_lt n bound

-- whether a serial reaches the number at the place k, and no number at a later place
abbrev pub is_last_reached : List ℕ → ℕ → ℕ → Bool
is_last_reached since k n = nat_le (slice_index since k) n && list_all (λ later. nat_lt n later) (drop (k + 1) since)

-- the part of a run that is at or above one serial and below the bound
abbrev pub cut_run : ℕ → Option ℕ → Run → Option Run
cut_run from None r = if nat_le (max r.lo from) r.hi then Some (record { lo = max r.lo from; hi = r.hi }) else None
cut_run from (Some bound) r =
    if nat_le bound (max r.lo from) then None
    else if nat_le (max r.lo from) (min r.hi (bound - 1))
    then Some (record { lo = max r.lo from; hi = min r.hi (bound - 1) })
    else None
