-- The rows of runs (maximal ranges of revoked serials) after a range is added.
use Rattle.store.proofs.Words.{AreRuns, Bool, Certificate, IsPermutation, IsPermutation-map, List, Run, RunRow}
use Rattle.store.proofs.Words.{SerialRange, State, [], and-false, ap, ap₂, arith, begins_between, contains_runs_in}
use Rattle.store.proofs.Words.{false, filter, filter-map, is_counted, is_last, is_range, is_within, joined, joined_high}
use Rattle.store.proofs.Words.{joined_low, last_at, length, length-append, map, max, min, nat_tests, next_serial, not}
use Rattle.store.proofs.Words.{refl, revoked_runs, run_row, runs_in, runs_in_runs, subst, sym, true, with_certificate}
use Rattle.store.proofs.Words.{with_range, ℕ, ◌&&◌, ◌++◌, ◌+◌, ◌<◌, ◌^◌, ◌∙◌, ◌∷◌, ◌≡◌, ◌≤◌}
use Rattle.std.proofs.Common.{◌||◌}
use Rattle.krl.proofs.Joining.{joined_runs, contains_joined}
use Rattle.krl.proofs.Counting.{runs_in_only}
use Rattle.store_sql.proofs.Edits.{filter_alike}
use Rattle.store.proofs.RunsApart.{AreApart, rows_apart}
use Rattle.store.proofs.Ends.{begin_within, spanning, touches, whole_is}
use Rattle.store.proofs.Spans.{is_near, is_far, span, spanned}

-- ---- the set

counted_in : (within counted revoked : Bool) → (within ≡ true → counted ≡ true)
    → (within || (counted && revoked)) ≡ (counted && (within || revoked))
counted_in true counted revoked h = let is : counted ≡ true = h refl in rw is refl
counted_in false counted revoked h = refl

within_counted : (n lo hi first count : ℕ) → first ≤ lo → hi < first + count
    → is_within n (record { lo = lo; hi = hi }) ≡ true → is_counted first count n ≡ true
within_counted n lo hi first count p q e = grind (arith, nat_tests)

-- the runs of the revoked serials, including the range
pub runs_after : (s : State) (r : SerialRange) → r.lo ≤ r.hi → s.opening.first ≤ r.lo → r.hi < next_serial s
    → next_serial s ≤ 2 ^ 64 → joined r.lo r.hi (revoked_runs s) ≡ revoked_runs (with_range s r)
runs_after s r le low high fits =
    let first = s.opening.first in
    let count = length s.certificates in
    let rs = revoked_runs s in
    let are : AreRuns rs = runs_in_runs s.revoked first count fits in
    runs_in_only (with_range s r).revoked first count (joined r.lo r.hi rs)
    (joined_runs 0 r.lo r.hi rs (omega arith) le (omega arith) are)
    (λ n. contains_joined 0 r.lo r.hi n rs le are
    ∙ ap (λ b. is_within n (record { lo = r.lo; hi = r.hi }) || b) (contains_runs_in s.revoked first count n fits)
    ∙ counted_in (is_within n (record { lo = r.lo; hi = r.hi })) (is_counted first count n) (s.revoked n)
    (within_counted n r.lo r.hi first count low high))

-- ---- the rows

spanning_rows : (lo hi : ℕ) (rs : List Run) → spanning lo hi (map run_row rs) ≡ run_row (span lo hi rs)
spanning_rows lo hi [] = refl
spanning_rows lo hi (r ∷ rs) = spanning_rows (min lo r.lo) (max hi r.hi) rs

in_order : (r : SerialRange) → is_range r ≡ true → (1 ≤ r.lo) × (r.lo ≤ r.hi)
in_order r is = (grind (arith, nat_tests), grind (arith, nat_tests))

abbrev whole_run : State → SerialRange → RunRow
whole_run s r = record {
  lo = joined_low r.lo (last_at r.lo (map run_row (revoked_runs s)));
  hi = joined_high r.hi (last_at (r.hi + 1) (map run_row (revoked_runs s)));
}

-- the range merged with the runs that touch or overlap it, and the other runs, are the runs of the state with the range
rows_spanned : (s : State) (r : SerialRange) → is_range r ≡ true → s.opening.first ≤ r.lo → r.hi < next_serial s
    → next_serial s ≤ 2 ^ 64
    → IsPermutation (spanning r.lo r.hi (filter (touches r.lo r.hi) (map run_row (revoked_runs s)))
    ∷ filter (λ q. not (touches r.lo r.hi q)) (map run_row (revoked_runs s)))
    (map run_row (revoked_runs (with_range s r)))
rows_spanned s r is low high fits =
    let order = in_order r is in
    let rs = revoked_runs s in
    let near : filter (touches r.lo r.hi) (map run_row rs) ≡ map run_row (filter (is_near r.lo r.hi) rs) =
    filter-map (touches r.lo r.hi) run_row rs in
    let far : filter (λ q. not (touches r.lo r.hi q)) (map run_row rs) ≡ map run_row (filter (is_far r.lo r.hi) rs) =
    filter-map (λ q. not (touches r.lo r.hi q)) run_row rs in
    rw (near, far, spanning_rows r.lo r.hi (filter (is_near r.lo r.hi) rs), sym (runs_after s r order.1 low high fits))
    (IsPermutation-map run_row (span r.lo r.hi (filter (is_near r.lo r.hi) rs) ∷ filter (is_far r.lo r.hi) rs)
    (joined r.lo r.hi rs)
    (spanned r.lo r.hi 0 rs order.0 order.1 (runs_in_runs s.revoked s.opening.first (length s.certificates) fits)))

-- the same, if the ends of the merged run come from the last runs that begin before the range's ends
pub rows_joined : (s : State) (r : SerialRange) → is_range r ≡ true → s.opening.first ≤ r.lo → r.hi < next_serial s
    → next_serial s ≤ 2 ^ 64
    → IsPermutation (whole_run s r ∷ filter (λ q. not (begins_between (whole_run s r) q)) (map run_row (revoked_runs s)))
    (map run_row (revoked_runs (with_range s r)))
rows_joined s r is low high fits =
    let order = in_order r is in
    let rows = map run_row (revoked_runs s) in
    let apart : AreApart rows =
    rows_apart 0 (revoked_runs s) (runs_in_runs s.revoked s.opening.first (length s.certificates) fits) in
    let first = is_last r.lo rows in
    let last = is_last (r.hi + 1) rows in
    let whole : spanning r.lo r.hi (filter (touches r.lo r.hi) rows) ≡ whole_run s r =
    whole_is r.lo r.hi rows apart order.1 (last_at r.lo rows) (last_at (r.hi + 1) rows) first last in
    let others : filter (λ q. not (touches r.lo r.hi q)) rows ≡ filter (λ q. not (begins_between (whole_run s r) q)) rows =
    filter_alike (λ q. not (touches r.lo r.hi q)) (λ q. not (begins_between (whole_run s r) q)) rows
    (λ q here. ap not
    (begin_within r.lo r.hi rows apart order.1 (last_at r.lo rows) (last_at (r.hi + 1) rows) first last q here)) in
    subst (λ (l : List RunRow). IsPermutation l (map run_row (revoked_runs (with_range s r))))
    (ap₂ (λ (x : RunRow) (xs : List RunRow). x ∷ xs) whole others) (rows_spanned s r is low high fits)

-- ---- one more certificate

counted_more : (first count n : ℕ) (revoked : Bool) → (revoked ≡ true → n < first + count)
    → (is_counted first count n && revoked) ≡ (is_counted first (count + 1) n && revoked)
counted_more first count n true h =
    let lt : n < first + count = h refl in
    let same : is_counted first count n ≡ is_counted first (count + 1) n = grind (arith, nat_tests) in
    rw same refl
counted_more first count n false h =
    and-false (is_counted first count n) ∙ sym (and-false (is_counted first (count + 1) n))

-- if only issued serials are revoked, issuing the next one changes no run
pub runs_still : (s : State) (c : Certificate) → ((n : ℕ) → s.revoked n ≡ true → n < next_serial s)
    → next_serial (with_certificate s c) ≤ 2 ^ 64 → revoked_runs s ≡ revoked_runs (with_certificate s c)
runs_still s c issued fits =
    let first = s.opening.first in
    let count = length s.certificates in
    let longer : length (s.certificates ++ c ∷ []) ≡ count + 1 = length-append s.certificates (c ∷ []) in
    let low : first + count ≤ 2 ^ 64 = omega (arith, fits, longer) in
    runs_in_only s.revoked first (count + 1) (revoked_runs s) (runs_in_runs s.revoked first count low)
    (λ n. contains_runs_in s.revoked first count n low ∙ counted_more first count n (s.revoked n) (issued n))
    ∙ ap (λ (k : ℕ). runs_in s.revoked first k) (sym longer)
