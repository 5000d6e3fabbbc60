-- Reading written runs in order.
use Rattle.krl.proofs.Words.{AreRunsFrom, Bool, List, None, Option, Range, Run, Some, [], ap, append_assoc, arith, cond}
use Rattle.krl.proofs.Words.{eqb, false, flat_map, is_short, listed_text, ltb, nat_tests, part_text, range_text, refl}
use Rattle.krl.proofs.Words.{same_Some, serials_of, sym, true, u64_text, ℕ, ◌++◌, ◌+◌, ◌<◌, ◌^◌}
use Rattle.krl.proofs.Words.{◌∙◌, ◌∷◌, ◌≡◌, ◌≤◌, ne_eqb, eq-eqb, ◌≢◌}
use Rattle.wire.specs.Reading.{u64_at}
use Rattle.krl.specs.Fronts.{◌>>=◌, behind_at, long_at, lower, range_begin, run_at, run_between, short_at, short_from}
use Rattle.krl.proofs.FrontLaws.{behind_again, then, u64_again}
use Rattle.krl.proofs.Booleans.{clash, ltb-yes}

-- ---- the first serial of a list, and the first range

-- the first listed serial is at or above the serial from which the runs ascend
pub listed_low : (from n : ℕ) (rest : List ℕ) (rs : List Run) → AreRunsFrom from rs
    → u64_at (flat_map listed_text rs) ≡ Some (n, rest) → from ≤ n
listed_low from n rest [] h e = absurd cc
listed_low from n rest (r ∷ rs) h e = by_short (is_short r) (listed_low (r.hi + 2) n rest rs h.3) e
  where
    first : (t : List ℕ) → u64_at (u64_text r.lo ++ t) ≡ Some (n, rest) → from ≤ n
    first t e =
        let some : r.lo ≤ r.hi = h.1 in
        let small : r.hi < 2 ^ 64 = h.2 in
        let same = ap (λ (p : ℕ × List ℕ). p.0) (same_Some _ _ (sym (u64_again r.lo t (omega arith)) ∙ e)) in
        let low : from ≤ r.lo = h.0 in
        omega arith

    by_short : (b : Bool) → (u64_at (flat_map listed_text rs) ≡ Some (n, rest) → r.hi + 2 ≤ n)
        → u64_at (cond b (flat_map u64_text (serials_of r)) [] ++ flat_map listed_text rs) ≡ Some (n, rest) → from ≤ n
    by_short false more e =
        let above = more e in
        let some : r.lo ≤ r.hi = h.1 in
        let low : from ≤ r.lo = h.0 in
        omega arith
    by_short true more e = by_one (eqb r.lo r.hi) e
      where
        by_one : (b : Bool)
            → u64_at (flat_map u64_text (cond b (r.lo ∷ []) (r.lo ∷ r.hi ∷ [])) ++ flat_map listed_text rs)
            ≡ Some (n, rest) → from ≤ n
        by_one true e = first (flat_map listed_text rs) e
        by_one false e = first (u64_text r.hi ++ flat_map listed_text rs) e

-- the range of a run is read as the run
pub long_again : (r : Run) (rest : List ℕ) → is_short r ≡ false → r.lo < 2 ^ 64 → r.hi < 2 ^ 64
    → long_at (part_text (Range r) ++ rest) ≡ Some (r, rest)
unfolding long_at
long_again r rest long lo hi =
    then (behind_at range_begin (range_begin ++ (u64_text r.lo ++ (u64_text r.hi ++ rest))))
    (u64_text r.lo ++ (u64_text r.hi ++ rest)) _ _ (behind_again range_begin _)
    (then (u64_at (u64_text r.lo ++ (u64_text r.hi ++ rest))) (r.lo, u64_text r.hi ++ rest) _ _ (u64_again r.lo _ lo)
    (then (u64_at (u64_text r.hi ++ rest)) (r.hi, rest) _ _ (u64_again r.hi rest hi) (rw long refl)))

-- if there is no range, there is no long run
pub no_long : (after : List ℕ) → behind_at range_begin after ≡ None → long_at after ≡ None
unfolding long_at
no_long after none =
    ap (λ o. o >>=
    (λ begun. u64_at begun >>=
    (λ lo. u64_at lo.1 >>= (λ hi. cond (is_short (run_between lo.0 hi.0)) None (Some (run_between lo.0 hi.0, hi.1)))))) none

-- the first range begins at or above the serial from which the runs ascend
pub long_low : (from : ℕ) (q : Run) (rest after : List ℕ) (rs : List Run) → AreRunsFrom from rs
    → behind_at range_begin after ≡ None → long_at (flat_map range_text rs ++ after) ≡ Some (q, rest) → from ≤ q.lo
long_low from q rest after [] h none e = let both = sym (no_long after none) ∙ e in absurd cc
long_low from q rest after (r ∷ rs) h none e =
    by_short (is_short r) refl (long_low (r.hi + 2) q rest after rs h.3 none) e
  where
    by_short : (b : Bool) → is_short r ≡ b
        → (long_at (flat_map range_text rs ++ after) ≡ Some (q, rest) → r.hi + 2 ≤ q.lo)
        → long_at ((cond b [] (part_text (Range r)) ++ flat_map range_text rs) ++ after) ≡ Some (q, rest) → from ≤ q.lo
    by_short true short more e =
        let above = more e in
        let some : r.lo ≤ r.hi = h.1 in
        let low : from ≤ r.lo = h.0 in
        omega arith
    by_short false long more e =
        let some : r.lo ≤ r.hi = h.1 in
        let small : r.hi < 2 ^ 64 = h.2 in
        let is = long_again r (flat_map range_text rs ++ after) long (omega arith) small in
        let text = append_assoc (part_text (Range r)) (flat_map range_text rs) after in
        let same = ap (λ (p : Run × List ℕ). p.0.lo) (same_Some _ _ (sym is ∙ ap long_at (sym text) ∙ e)) in
        let low : from ≤ r.lo = h.0 in
        omega arith

-- ---- short runs

from_lo : (lo : ℕ) (rest : List ℕ) (o : Option (ℕ × List ℕ)) → (short_from lo rest o).0.lo ≡ lo
from_lo lo rest None = refl
from_lo lo rest (Some next) = by_next (eqb next.0 (lo + 1))
  where
    by_next : (b : Bool) → (cond {A = Run × List ℕ} b (run_between lo next.0, next.1) (run_between lo lo, rest)).0.lo ≡ lo
    by_next true = refl
    by_next false = refl

-- the first short run is one of the runs
pub short_low : (from : ℕ) (q : Run) (rest : List ℕ) (rs : List Run) → AreRunsFrom from rs
    → short_at (flat_map listed_text rs) ≡ Some (q, rest) → from ≤ q.lo
unfolding short_at
short_low from q rest rs h e = by_first (u64_at (flat_map listed_text rs)) refl e
  where
    by_first : (o : Option (ℕ × List ℕ)) → u64_at (flat_map listed_text rs) ≡ o
        → (o >>= (λ lo. Some (short_from lo.0 lo.1 (u64_at lo.1)))) ≡ Some (q, rest) → from ≤ q.lo
    by_first None is e = absurd cc
    by_first (Some n) is e =
        let low = listed_low from n.0 n.1 rs h is in
        let same = ap (λ (p : Run × List ℕ). p.0.lo) (same_Some _ _ e) in
        let lo = from_lo n.0 n.1 (u64_at n.1) in
        omega arith

-- a serial that isn't followed by its successor
one_again : (lo : ℕ) (rest : List ℕ) → lo < 2 ^ 64
    → ((n : ℕ) (t : List ℕ) → u64_at rest ≡ Some (n, t) → lo + 2 ≤ n)
    → short_at (u64_text lo ++ rest) ≡ Some (run_between lo lo, rest)
unfolding short_at
one_again lo rest small apart =
    then (u64_at (u64_text lo ++ rest)) (lo, rest) _ _ (u64_again lo rest small) (ap Some (by_next (u64_at rest) refl))
  where
    by_next : (o : Option (ℕ × List ℕ)) → u64_at rest ≡ o → short_from lo rest o ≡ (run_between lo lo, rest)
    by_next None is = refl
    by_next (Some next) is =
        let far = apart next.0 next.1 is in
        rw (ne_eqb next.0 (lo + 1) (λ e. omega arith)) refl

-- a serial and its successor
two_again : (lo hi : ℕ) (rest : List ℕ) → hi < 2 ^ 64 → hi ≡ lo + 1
    → short_at (u64_text lo ++ (u64_text hi ++ rest)) ≡ Some (run_between lo hi, rest)
unfolding short_at
two_again lo hi rest small next =
    then (u64_at (u64_text lo ++ (u64_text hi ++ rest))) (lo, u64_text hi ++ rest) _ _ (u64_again lo _ (omega arith))
    (ap (λ o. Some (short_from lo (u64_text hi ++ rest) o)) (u64_again hi rest small)
    ∙ rw (eq-eqb hi (lo + 1) next) refl)

-- the serials of a short run are read as the run
pub short_again : (from : ℕ) (r : Run) (rs : List Run) → AreRunsFrom from (r ∷ rs) → is_short r ≡ true
    → short_at (flat_map u64_text (serials_of r) ++ flat_map listed_text rs) ≡ Some (r, flat_map listed_text rs)
short_again from r rs h short = by_one (eqb r.lo r.hi) refl
  where
    few : is_short r ≡ true → r.hi < r.lo + 2
    few e = grind (arith, nat_tests)

    by_one : (b : Bool) → eqb r.lo r.hi ≡ b
        → short_at (flat_map u64_text (cond b (r.lo ∷ []) (r.lo ∷ r.hi ∷ [])) ++ flat_map listed_text rs)
        ≡ Some (r, flat_map listed_text rs)
    by_one true e =
        let small : r.hi < 2 ^ 64 = h.2 in
        let same : r.lo ≡ r.hi = grind (arith, nat_tests) in
        one_again r.lo (flat_map listed_text rs) (omega arith) (λ n t is. let low =
        listed_low (r.hi + 2) n t rs h.3 is in omega arith)
        ∙ ap (λ hi. Some (run_between r.lo hi, flat_map listed_text rs)) same
    by_one false e =
        let apart : r.lo ≢ r.hi = λ same. clash (eqb r.lo r.hi) (eq-eqb _ _ same) e in
        let some : r.lo ≤ r.hi = h.1 in
        let bound = few short in
        two_again r.lo r.hi (flat_map listed_text rs) h.2 (omega arith)

-- ---- runs

lower_short : (listed ranges : List ℕ) (s : Run × List ℕ) (o : Option (Run × List ℕ))
    → ((l : Run × List ℕ) → o ≡ Some l → s.0.lo < l.0.lo)
    → lower listed ranges (Some s) o ≡ Some (s.0, (s.1, ranges))
lower_short listed ranges s None below = refl
lower_short listed ranges s (Some l) below = rw (ltb-yes (below l refl)) refl

lower_long : (listed ranges : List ℕ) (o : Option (Run × List ℕ)) (l : Run × List ℕ)
    → ((s : Run × List ℕ) → o ≡ Some s → l.0.lo ≤ s.0.lo)
    → lower listed ranges o (Some l) ≡ Some (l.0, (listed, l.1))
lower_long listed ranges None l below = refl
lower_long listed ranges (Some s) l below =
    let le = below s refl in
    let no : ltb s.0.lo l.0.lo ≡ false = grind (arith, nat_tests) in
    rw no refl

-- the first of the runs is read, and the others remain
pub run_again : (from : ℕ) (r : Run) (rs : List Run) (after : List ℕ) → AreRunsFrom from (r ∷ rs)
    → behind_at range_begin after ≡ None
    → run_at (flat_map listed_text (r ∷ rs)) (flat_map range_text (r ∷ rs) ++ after)
    ≡ Some (r, (flat_map listed_text rs, flat_map range_text rs ++ after))
run_again from r rs after h none = by_short (is_short r) refl
  where
    listed : List ℕ
    listed = flat_map listed_text rs

    ranges : List ℕ
    ranges = flat_map range_text rs ++ after

    some : r.lo ≤ r.hi
    some = h.1

    by_short : (b : Bool) → is_short r ≡ b
        → run_at (cond b (flat_map u64_text (serials_of r)) [] ++ flat_map listed_text rs)
        ((cond b [] (part_text (Range r)) ++ flat_map range_text rs) ++ after)
        ≡ Some (r, (flat_map listed_text rs, flat_map range_text rs ++ after))
    by_short true short =
        ap (λ o. lower (flat_map u64_text (serials_of r) ++ flat_map listed_text rs) (flat_map range_text rs ++ after) o
        (long_at (flat_map range_text rs ++ after)))
        (short_again from r rs h short)
        ∙ lower_short _ _ (r, flat_map listed_text rs) (long_at (flat_map range_text rs ++ after))
        (λ l is. let low = long_low (r.hi + 2) l.0 l.1 after rs h.3 none is in let le : r.lo ≤ r.hi =
        h.1 in omega arith)
    by_short false long =
        let le : r.lo ≤ r.hi = h.1 in
        let small : r.hi < 2 ^ 64 = h.2 in
        ap (λ t. lower (flat_map listed_text rs) t (short_at (flat_map listed_text rs)) (long_at t))
        (append_assoc (part_text (Range r)) (flat_map range_text rs) after)
        ∙ ap (λ o. lower (flat_map listed_text rs) (part_text (Range r) ++ (flat_map range_text rs ++ after))
        (short_at (flat_map listed_text rs)) o)
        (long_again r (flat_map range_text rs ++ after) long (omega arith) small)
        ∙ lower_long _ _ (short_at (flat_map listed_text rs)) (r, flat_map range_text rs ++ after)
        (λ s is. let low = short_low (r.hi + 2) s.0 s.1 rs h.3 is in omega arith)

-- if no run remains, none is read
pub no_run : (after : List ℕ) → behind_at range_begin after ≡ None → run_at [] after ≡ None
unfolding short_at
no_run after none = ap (lower [] after None) (no_long after none)
