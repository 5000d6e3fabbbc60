-- Runs (maximal ranges) of revoked serials, found and deleted by their starts.
use Rattle.std.specs.Prelude.{◌≡◌, ℕ, Bool, not, ◌&&◌, nat_le, if◌then◌else◌, List, [], ◌∷◌, filter, Option, Some, None}
use Rattle.std.specs.Prelude.{Result, Ok, Err}
use Rattle.sqlite.specs.State.{State, IsUnchanged}
use Rattle.store_sql.specs.declared.runs.RunRow.{RunRow}
use Rattle.store_sql.specs.Calls.{Fails}
use Rattle.store_sql.specs.Contents.{Contents, Means}

-- ---- the last run

-- the later of two runs, if both exist
abbrev pub later : RunRow → Option RunRow → Option RunRow
later r None = Some r
later r (Some x) = if nat_le r.lo x.lo then Some x else Some r

-- the last of the runs that begin at or before the serial
abbrev pub last_at : ℕ → List RunRow → Option RunRow
last_at n [] = None
last_at n (r ∷ rs) = if nat_le r.lo n then later r (last_at n rs) else last_at n rs

abbrev pub last_run : ℕ → Contents → Option RunRow
last_run n c = last_at n c.runs

-- the result is `of` the contents, which may be `None`, and nothing has changed; or the call fails
abbrev pub FindsIts : {X E : Type 0} → (Contents → Option X) → State → State → Result (Option X) E → Type 0
FindsIts of old new (Ok found) = (c : Contents) → Means old.now c → IsUnchanged old new × (found ≡ of c)
FindsIts of old new (Err e) = (c : Contents) → Means old.now c → Fails old new

-- ---- the runs between two ends

-- the run begins between the two ends, both included
abbrev pub begins_between : RunRow → RunRow → Bool
begins_between ends r = nat_le ends.lo r.lo && nat_le r.lo ends.hi

abbrev pub without_runs : RunRow → Contents → Contents
without_runs ends c = record c { runs = filter (λ r. not (begins_between ends r)) c.runs }
