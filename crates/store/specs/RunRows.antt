-- Runs (maximal ranges of revoked serials) from rows.
use Rattle.std.specs.Prelude.{◌≡◌, ℕ, ◌+◌, ◌≤◌, Bool, false, nat_le, List, [], ◌∷◌, map, Option, Some, None, Result, Ok}
use Rattle.std.specs.Prelude.{Err}
use Rattle.krl.specs.declared.run.Run.{Run}
use Rattle.krl.specs.Sets.{contains}
use Rattle.store_sql.specs.declared.runs.RunRow.{RunRow}
use Rattle.store_sql.specs.declared.table_fault.Fault.{Fault}
use Rattle.store_sql.specs.declared.table_fault.Fault.TheVariants.{Damaged, Device, NoMemory}
use Rattle.office.specs.declared.arrival.Kept.{Kept}
use Rattle.office.specs.State.{State}
use Rattle.store.specs.Rows.{revoked_runs}
use Rattle.store.specs.Histories.{IsOfHistory}

abbrev pub run_of : RunRow → Run
run_of row = record { lo = row.lo; hi = row.hi }

abbrev pub runs_of : List RunRow → List Run
runs_of rows = map run_of rows

-- runs that ascend from a serial on, of which no two overlap or touch
abbrev pub RiseFrom : ℕ → List Run → Type 0
RiseFrom from [] = Unit {0}
RiseFrom from (r ∷ runs) = (from ≤ r.lo) × (r.lo ≤ r.hi) × RiseFrom (r.hi + 2) runs

-- the runs of the rows; or memory is refused, or a row is reported as damaged, because they don't ascend
abbrev pub AreRead : List RunRow → Result (List Run) Fault → Type 0
AreRead rows (Ok runs) = runs ≡ runs_of rows
AreRead rows (Err NoMemory) = Unit {0}
AreRead rows (Err Damaged) = ¬ RiseFrom 0 (runs_of rows)
AreRead rows (Err Device) = ⊥

-- there is such a run, and it ends at or after the serial
abbrev pub reaches : Option RunRow → ℕ → Bool
reaches None hi = false
reaches (Some r) hi = nat_le hi r.hi

-- the maximal runs of the revoked serials, which contain exactly those
pub record AreRevokedRuns (runs : List Run) (s : State) (kept : List Kept) : Type 0 where
  pub maximal : runs ≡ revoked_runs s
  pub serials : IsOfHistory s kept → (n : ℕ) → contains runs n ≡ s.revoked n
