-- What a reading call shows of the tables of an office after a history.
use Rattle.std.specs.Prelude.{List, Result, Ok, Err}
use Rattle.sqlite_trees.specs.declared.store.Store.{Ghosts}
use Rattle.sqlite.specs.Held.{Held, state as state_of}
use Rattle.sqlite.specs.State.{State as Connection, HasCleanDisk, IsUnchanged, Survives}
use Rattle.store_sql.specs.Contents.{Means}
use Rattle.store_sql.specs.Calls.{Fails, Never, OnlyReads}
use Rattle.store_sql.specs.Faults.{HasCause}
use Rattle.store_sql.specs.declared.table_fault.Fault.{Fault}
use Rattle.office.specs.declared.opening.Opening.{Opening}
use Rattle.office.specs.declared.arrival.Arrival.{Arrival}
use Rattle.office.specs.declared.arrival.Kept.{Kept}
use Rattle.office.specs.State.{State}
use Rattle.office.specs.History.{first_accepted, kept_by, state}
use Rattle.store.specs.Rows.{office_contents}
use Rattle.store.specs.Meaning.{IsHistory}

-- For tables with the rows of an office after a history: `Shown` holds of its state, its stored requests and the
-- answer, and nothing has changed; or the call fails, for lack of memory or because the database failed.
abbrev pub ShowsOffice : {X : Type 0} → (State → List Kept → X → Type 0) → Connection → Connection → Result X Fault
    → Type 0
ShowsOffice Shown old new (Ok x) =
    (o : Opening) (l : List Arrival) → IsHistory o l → Means old.now (office_contents o l)
    → Shown (state o l) (kept_by (first_accepted o l)) x × IsUnchanged old new
ShowsOffice Shown old new (Err f) =
    (o : Opening) (l : List Arrival) → IsHistory o l → Means old.now (office_contents o l)
    → Fails old new × HasCause old new f

-- everything that a reading call does: its answer satisfies `Shown`, and nothing changes
pub record Reading {X : Type 0} (Shown : State → List Kept → X → Type 0) (old new : Connection) (r : Result X Fault)
    : Type 0 where
  pub shows : HasCleanDisk new → ShowsOffice Shown old new r
  pub reads : HasCleanDisk new → OnlyReads old new r
  pub survives : Survives old new Never

-- for a connection
abbrev pub ReadsOffice : {S X : Type 0} → Ghosts S → (State → List Kept → X → Type 0) → Held S → Held S → Result X Fault
    → Type 0
ReadsOffice g Shown old new r = Reading Shown (state_of g old) (state_of g new) r
