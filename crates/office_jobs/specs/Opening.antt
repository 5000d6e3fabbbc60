-- A database opened as an office, and what faults leave.
use Rattle.std.specs.Prelude.{◌≡◌, ◌⊎◌, ℕ, List, IsTrue, Option, Result, Ok, Err}
use Rattle.sqlite.specs.State.{State}
use Rattle.office.specs.declared.opening.Opening.{Opening}
use Rattle.office.specs.declared.arrival.Arrival.{Arrival}
use Rattle.office.specs.declared.store_fault.StoreFault.{StoreFault}
use Rattle.store_sql.specs.declared.offices.OfficeRow.{OfficeRow}
use Rattle.store_sql.specs.Contents.{HasOffices}
use Rattle.store.specs.Transactions.{FailuresStay, IsAsBefore}
use Rattle.store.specs.Migrating.{IsExcused}
use Rattle.store.specs.Meaning.{DiskFailed, KeepsTelling, Looks, Tells, opened_by}
use Rattle.office_jobs.specs.declared.job_fault.JobFault.{JobFault}
use Rattle.office_jobs.specs.declared.job_fault.JobFault.TheVariants.{NoMemory, Store}

-- The tables have the one row of an office of this schema. The connection is open, nothing has changed, and no failure
-- of the disk is forgotten.
pub record IsOpened (old new : State) : Type 0 where
  pub office : (rows : List OfficeRow) → HasOffices rows old.now → opened_by rows ≡ Ok tt
  pub is_open : IsTrue new.is_open
  pub before : IsAsBefore old new
  pub tells : KeepsTelling old new
  pub counts : FailuresStay old new

-- The office was not opened, with this fault, and nothing has changed: its row is the reason, or the database failed.
pub record IsUnopened (old new : State) (e : StoreFault) : Type 0 where
  pub refused : (rows : List OfficeRow) → HasOffices rows old.now → Looks rows (DiskFailed old new) (Err e)
  pub only : IsTrue old.is_open → (o : Opening) (l : List Arrival) → Tells old o l → IsExcused (DiskFailed old new) e
  pub before : IsAsBefore old new
  pub tells : KeepsTelling old new

-- This fault occurred before anything was printed. The tables represent what they represented, and if that is a
-- history, the fault is lack of memory, or `Device` since the disk failed.
pub record IsUnprinted (old new : State) (held holds : Option (List ℕ)) (e : StoreFault) : Type 0 where
  pub unprinted : holds ≡ held
  pub tells : KeepsTelling old new
  pub only : IsTrue old.is_open → (o : Opening) (l : List Arrival) → Tells old o l → IsExcused (DiskFailed old new) e

-- A result over an `office` table with these rows. Unless memory was refused, they are the one row of an office of this
-- schema, or they or a failure of the database are the fault.
abbrev pub IsOfRows : {A : Type 0} → List OfficeRow → (failed : Type 0) → Result A JobFault → Type 0
IsOfRows rows failed (Err NoMemory) = Unit {0}
IsOfRows rows failed (Err (Store e)) = (opened_by rows ≡ Ok tt) ⊎ Looks rows failed (Err e)
IsOfRows rows failed other = opened_by rows ≡ Ok tt

-- the same for each `office` table that is the first of the tables
abbrev pub HeedsRows : {A : Type 0} → (old new : State) → Result A JobFault → Type 0
HeedsRows old new r = (rows : List OfficeRow) → HasOffices rows old.now → IsOfRows rows (DiskFailed old new) r
