-- The runs (maximal ranges) of the revoked serials, as the rows show them.
use Rattle.store.proofs.Words.{Bool, Contents, Damaged, Device, Err, Fault, HasAll, IsLawful, IsOfHistory}
use Rattle.store.proofs.Words.{IsPermutation, IsSortedByKey, IsTrue, IsUnchanged, Kept, List, Means, NoMemory, Ok}
use Rattle.store.proofs.Words.{Option, Result, RiseFrom, Run, RunRow, ShowsFromRows, State, and-false, ap, arith}
use Rattle.store.proofs.Words.{contains, contains_runs_in, contents_of, false, inl, is_counted, is_last, last_at}
use Rattle.store.proofs.Words.{last_run, length, map, map_back, nat_cmp, nat_cmp_total, on_total, reaches, refl}
use Rattle.store.proofs.Words.{revoked_runs, run_of, run_row, runs_in_runs, runs_of, sorted_unique, sym, true, ℕ, ◌&&◌}
use Rattle.store.proofs.Words.{◌+◌, ◌<◌, ◌^◌, ◌↔◌, ◌∙◌, ◌≡◌, ◌≤◌}
use Rattle.sqlite.specs.State.{State as Connection}
use Rattle.values.proofs.SerialLemmas.{serials_within}
use Rattle.krl.proofs.Counting.{are_counted}
use Rattle.store.specs.RunRows.{AreRead, AreRevokedRuns}
use Rattle.store.proofs.Rising.{rise_lower, rows_rise, runs_rise}
use Rattle.store.proofs.Reaching.{all_in}
use Rattle.store.proofs.RunsApart.{rows_apart}

revoked_rise : (s : State) → RiseFrom 0 (revoked_runs s)
revoked_rise s =
    rise_lower 0 s.opening.first (revoked_runs s) (omega arith)
    (runs_rise s.revoked s.opening.first (length s.certificates))

found_runs : (s : State) (rows : List RunRow) → IsPermutation (map run_row (revoked_runs s)) rows
    → IsSortedByKey (λ r. r.lo) nat_cmp rows → runs_of rows ≡ revoked_runs s
found_runs s rows same sorted =
    ap runs_of (sorted_unique (λ (x y : RunRow). nat_cmp x.lo y.lo) (on_total (λ (r : RunRow). r.lo) nat_cmp_total)
    (map run_row (revoked_runs s)) rows (rows_rise 0 (revoked_runs s) (revoked_rise s)) same sorted)
    ∙ map_back run_row run_of (λ r. refl) (revoked_runs s)

-- every run
pub shows_every : (old new : Connection) (rows : List RunRow) (r : Result (List Run) Fault)
    → ((c : Contents) → Means old.now c → IsUnchanged old new × IsPermutation c.runs rows)
    → ((c : Contents) → Means old.now c → IsSortedByKey (λ r. r.lo) nat_cmp rows) → AreRead rows r
    → ShowsFromRows (λ s kept x. x ≡ revoked_runs s) old new r
shows_every old new rows (Ok x) finds sorted read = λ s kept lawful means.
    let f = finds (contents_of s kept) means in
    (read ∙ found_runs s rows f.1 (sorted (contents_of s kept) means), f.0)
shows_every old new rows (Err NoMemory) finds sorted read = λ s kept lawful means.
    (inl (finds (contents_of s kept) means).0, tt)
shows_every old new rows (Err Damaged) finds sorted read = λ s kept lawful means.
    let f = finds (contents_of s kept) means in
    absurd (read (rw (found_runs s rows f.1 (sorted (contents_of s kept) means)) (revoked_rise s)))
shows_every old new rows (Err Device) finds sorted read = absurd read

-- ---- the serials in the runs

counted : (first count n : ℕ) (b : Bool) → (b ≡ true → (first ≤ n) × (n < first + count))
    → (is_counted first count n && b) ≡ b
counted first count n true is = let p = is refl in rw (are_counted first count n p.0 p.1) refl
counted first count n false is = and-false (is_counted first count n)

-- the issued serials fit in 64 bits
are_few : (s : State) (kept : List Kept) → IsLawful s → IsOfHistory s kept
    → s.opening.first + length s.certificates ≤ 2 ^ 64
are_few s kept lawful history =
    omega (arith, (serials_within s.opening.first s.opening.last lawful.opening.serials).1, history.range)

-- exactly the revoked serials, if only issued ones are revoked
pub revoked_in : (s : State) (kept : List Kept) → IsLawful s → IsOfHistory s kept → (n : ℕ)
    → contains (revoked_runs s) n ≡ s.revoked n
revoked_in s kept lawful history n =
    contains_runs_in s.revoked s.opening.first (length s.certificates) n (are_few s kept lawful history)
    ∙ counted s.opening.first (length s.certificates) n (s.revoked n) (history.revoked n)

pub are_revoked_runs : (s : State) (kept : List Kept) (runs : List Run) → IsLawful s → runs ≡ revoked_runs s
    → AreRevokedRuns runs s kept
are_revoked_runs s kept runs lawful is = record {
  maximal = is;
  serials = λ history n. ap (λ (l : List Run). contains l n) is ∙ revoked_in s kept lawful history n;
}

-- ---- an interval of serials

-- the last run that begins at or before `lo` ends at or after `hi` if and only if all serials between them are revoked
pub all_reached : (s : State) (kept : List Kept) (lo hi : ℕ) (found : Option RunRow) → lo ≤ hi → IsLawful s
    → IsOfHistory s kept → found ≡ last_run lo (contents_of s kept)
    → (IsTrue (reaches found hi) ↔ HasAll s.revoked lo hi)
all_reached s kept lo hi found order lawful history is =
    let runs = revoked_runs s in
    let says = all_in lo hi runs (last_at lo (map run_row runs)) order
    (rows_apart 0 runs (runs_in_runs s.revoked s.opening.first (length s.certificates) (are_few s kept lawful history)))
    (is_last lo (map run_row runs)) in
    rw is (
      λ reached n low high. sym (revoked_in s kept lawful history n) ∙ says.0 reached n low high,
      λ all. says.1 (λ n low high. revoked_in s kept lawful history n ∙ all n low high),
    )
