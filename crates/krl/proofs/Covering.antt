-- The run that covers an interval is the last of those that begin at or below it.
use Rattle.krl.proofs.Words.{AreRunsFrom, Bool, List, Run, [], arith, false, get_or, le-leb, leb, length, list_any}
use Rattle.krl.proofs.Words.{or-false, refl, suc, sym, true, zero, ℕ, ◌&&◌, ◌+◌, ◌-◌, ◌<◌, ◌||◌, ◌∷◌, ◌≡◌, ◌≤◌}
use Rattle.std.proofs.Common.{leb-true}
use Rattle.std.specs.List.Sorted.{IsPartitionPoint, IsPartitionedBy}
use Rattle.krl.proofs.Maximal.{covered_by}

-- each of the runs ends at or above the serial from which they ascend
pub ends_from : (from k : ℕ) (rs : List Run) (d : Run) → AreRunsFrom from rs → k < length rs → from ≤ (get_or rs k d).hi
ends_from from k [] d h lt = absurd (omega arith)
ends_from from zero (r ∷ rs) d h lt = let a : r.lo ≤ r.hi = h.1 in let b : from ≤ r.lo = h.0 in omega arith
ends_from from (suc k) (r ∷ rs) d h lt = let a : r.lo ≤ r.hi = h.1 in let b : from ≤ r.lo = h.0 in let c =
    ends_from (r.hi + 2) k rs d h.3 (omega arith) in omega arith

-- each begins at or above it
pub begins_from : (from k : ℕ) (rs : List Run) (d : Run) → AreRunsFrom from rs → k < length rs
    → from ≤ (get_or rs k d).lo
begins_from from k [] d h lt = absurd (omega arith)
begins_from from zero (r ∷ rs) d h lt = h.0
begins_from from (suc k) (r ∷ rs) d h lt = let a : r.lo ≤ r.hi = h.1 in let b : from ≤ r.lo = h.0 in let c =
    begins_from (r.hi + 2) k rs d h.3 (omega arith) in omega arith

-- they are in the order of their first serials
pub are_parted : (from serial : ℕ) (rs : List Run) → AreRunsFrom from rs → IsPartitionedBy (λ r. leb r.lo serial) rs
are_parted from serial [] h i j d le lt e = absurd (omega arith)
are_parted from serial (r ∷ rs) h zero zero d le lt e = e
are_parted from serial (r ∷ rs) h zero (suc j) d le lt e =
    let a : r.lo ≤ r.hi = h.1 in
    let b = begins_from (r.hi + 2) j rs d h.3 (omega arith) in
    let c = leb-true (get_or rs j d).lo serial e in
    le-leb r.lo serial (omega arith)
are_parted from serial (r ∷ rs) h (suc i) zero d le lt e = absurd (omega arith)
are_parted from serial (r ∷ rs) h (suc i) (suc j) d le lt e =
    are_parted (r.hi + 2) serial rs h.3 i j d (omega arith) (omega arith) e

-- none of the runs that begin above an interval's start covers it
pub none_covers : (lo hi : ℕ) (rs : List Run) → ((k : ℕ) (d : Run) → k < length rs → leb (get_or rs k d).lo lo ≡ false)
    → list_any (covered_by lo hi) rs ≡ false
none_covers lo hi [] above = refl
none_covers lo hi (r ∷ rs) above =
    let out : leb r.lo lo ≡ false = above 0 r (omega arith) in
    rw out (none_covers lo hi rs (λ k d lt. above (suc k) d (omega arith)))

-- if `i` is the last run that begins at or below the start, then it covers the interval, or no run does
pub last_covers : (from lo hi i : ℕ) (rs : List Run) (d : Run) → AreRunsFrom from rs → i < length rs
    → leb (get_or rs i d).lo lo ≡ true
    → ((k : ℕ) (d : Run) → i < k → k < length rs → leb (get_or rs k d).lo lo ≡ false)
    → list_any (covered_by lo hi) rs ≡ leb hi (get_or rs i d).hi
last_covers from lo hi i [] d h lt below above = absurd (omega arith)
last_covers from lo hi zero (r ∷ rs) d h lt below above =
    rw below (rw (none_covers lo hi rs (λ k e less. above (suc k) e (omega arith) (omega arith)))
    (or-false (leb hi r.hi)))
last_covers from lo hi (suc i) (r ∷ rs) d h lt below above =
    let rest = last_covers (r.hi + 2) lo hi i rs d h.3 (omega arith) below
    (λ k e less more. above (suc k) e (omega arith) (omega arith)) in
    let ends = ends_from (r.hi + 2) i rs d h.3 (omega arith) in
    rw rest (either (leb r.lo lo) (leb hi r.hi) (leb hi (get_or rs i d).hi)
    (λ there. le-leb hi (get_or rs i d).hi (let a = leb-true hi r.hi there in omega arith)))
  where
    either : (a b c : Bool) → (b ≡ true → c ≡ true) → ((a && b) || c) ≡ c
    either true true c imply = sym (imply refl)
    either true false c imply = refl
    either false b c imply = refl

-- if `count` runs, at least one, begin at or below the start, then the last of them covers the interval, or none does
pub some_covers : (lo hi count : ℕ) (rs : List Run) (d : Run) → AreRunsFrom 0 rs → count ≤ length rs
    → IsPartitionPoint (λ r. leb r.lo lo ≡ true) (λ r. leb r.lo lo ≡ false) rs count → 0 < count
    → leb hi (get_or rs (count - 1) d).hi ≡ list_any (covered_by lo hi) rs
some_covers lo hi count rs d h le point lt =
    sym (last_covers 0 lo hi (count - 1) rs d h (omega arith) (point.0 (count - 1) d (omega arith) (omega arith))
    (λ k e less more. point.1 k e (omega arith) more))
