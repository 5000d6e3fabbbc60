-- The histories that tables represent.
use Rattle.std.specs.Prelude.{◌≡◌, ◌⊎◌, false, List, [], ◌∷◌, ◌++◌, length, ◌==◌, if◌then◌else◌, IsTrue, None, Result}
use Rattle.std.specs.Prelude.{Ok, Err}
use Rattle.std.specs.List.{AllByRecursion}
use Rattle.sqlite_disk.specs.Disk.{MoreFaults}
use Rattle.sqlite.specs.Tree.{Trees}
use Rattle.sqlite.specs.State.{State, HasCleanDisk, IsUnchanged}
use Rattle.office.specs.declared.opening.Opening.{Opening}
use Rattle.office.specs.declared.arrival.Arrival.{Arrival}
use Rattle.office.specs.declared.store_fault.StoreFault.{StoreFault}
use Rattle.office.specs.declared.store_fault.StoreFault.TheVariants.{Device, NoMemory, NotAnOffice, WrongSchema}
use Rattle.office.specs.Shows.{IsOffice}
use Rattle.store_sql.specs.declared.offices.OfficeRow.{OfficeRow}
use Rattle.store_sql.specs.Contents.{HasOffices, Kept}
use Rattle.store_sql.specs.declared.table_fault.Fault.{Fault}
use Rattle.store_sql.specs.declared.table_fault.Fault.TheVariants as table_fault
use Rattle.text.specs.declared.memory.NoMemory as text
use Rattle.store_sql.specs.Schema.{no_schema}
use Rattle.store_sql.specs.Calls.{Fails, IsBare}
use Rattle.store.specs.Rows.{office_contents}
use Rattle.store.specs.Transactions.{Rests, Has}

-- no transaction is open, and the database has no table
abbrev pub IsBlank : State → Type 0
IsBlank s = Rests (IsBare no_schema) s

-- an office's history: a valid initial configuration, and received requests with nonces of 32 bytes
pub record IsHistory (o : Opening) (l : List Arrival) : Type 0 where
  pub office : IsOffice o l
  pub nonces : AllByRecursion (λ a. length a.nonce ≡ 32) l

-- The trees hold the rows of the office with this configuration after this history, or after it and one more request,
-- with which it is still a history.
abbrev pub IsLeft : Opening → List Arrival → Trees → Type 0
IsLeft o l trees =
    Kept trees (office_contents o l)
    ⊎ ((a : Arrival) × IsHistory o (l ++ a ∷ []) × Kept trees (office_contents o (l ++ a ∷ [])))

-- The tables represent this history: no query has a limit on its steps, no transaction is open, and the tables hold the
-- rows of the office with this configuration after this history. If a failed disk has closed the connection, its tables
-- are unconstrained; but a crash leaves these rows, or those with one more request, whose commit failed.
pub record Tells (s : State) (o : Opening) (l : List Arrival) : Type 0 where
  pub history : IsHistory o l
  pub unlimited : s.step_limit ≡ None
  pub rows : IsTrue s.is_open → Rests (Has (office_contents o l)) s
  pub left : (trees : Trees) → s.may_leave trees → IsLeft o l trees

-- the tables still represent each history that they represented
abbrev pub KeepsTelling : State → State → Type 0
KeepsTelling old new = (o : Opening) (l : List Arrival) → Tells old o l → Tells new o l

-- the disk failed during the call, or an earlier failure has closed the connection
abbrev pub DiskFailed : State → State → Type 0
DiskFailed old new = MoreFaults old.faults new.faults ⊎ (old.is_open ≡ false)

-- if the disk was faithful and the tables represent a history: the disk failed, now or earlier
abbrev pub RegisterHasFailed : State → State → Type 0
RegisterHasFailed old new = HasCleanDisk new → (o : Opening) (l : List Arrival) → Tells old o l → DiskFailed old new

-- while the connection is open, a crash leaves the tables of the history that they represent, and nothing else
abbrev pub OutlastsCrashes : State → Type 0
OutlastsCrashes s = (o : Opening) (l : List Arrival) → Tells s o l → IsTrue s.is_open
    → (trees : Trees) → s.may_leave trees → Kept trees (office_contents o l)

-- The tables of an open register durably represent this history: they represent it, and still do after a crash.
pub record Stores (s : State) (o : Opening) (l : List Arrival) : Type 0 where
  pub tells : Tells s o l
  pub is_open : IsTrue s.is_open
  pub crash : (trees : Trees) → s.may_leave trees → Kept trees (office_contents o l)

-- if the tables represent a history and the connection is open, they durably represent it
abbrev pub StoresWhereOpen : State → Type 0
StoresWhereOpen s = (o : Opening) (l : List Arrival) → Tells s o l → IsTrue s.is_open → Stores s o l

-- a look that succeeds changed nothing; one that fails changed nothing either, unless a transaction was rolled back or
-- the connection was closed
abbrev pub LooksOn : State → State → Result (Unit {0}) StoreFault → Type 0
LooksOn old new (Ok x) = IsUnchanged old new
LooksOn old new (Err e) = IsTrue new.is_open → Fails old new

-- the answer of `open` to the rows of the `office` table: success if there is exactly one, of the current schema
abbrev pub opened_by : List OfficeRow → Result (Unit {0}) StoreFault
opened_by [] = Err NotAnOffice
opened_by (row ∷ []) = if row.schema == 2 then Ok tt else Err WrongSchema
opened_by (row ∷ other ∷ rows) = Err NotAnOffice

-- a look at an `office` table with these rows finds that answer, or memory is refused or the database failed
abbrev pub Looks : List OfficeRow → Type 0 → Result (Unit {0}) StoreFault → Type 0
Looks rows failed (Ok x) = opened_by rows ≡ Ok x
Looks rows failed (Err NoMemory) = Unit {0}
Looks rows failed (Err Device) = failed
Looks rows failed (Err e) = opened_by rows ≡ Err e

-- the same for each `office` table, with this failure of the database
abbrev pub LooksUnless : (State → State → Type 0) → State → State → Result (Unit {0}) StoreFault → Type 0
LooksUnless Failed old new r = (rows : List OfficeRow) → HasOffices rows old.now → Looks rows (Failed old new) r

-- the result of an allocation, as an answer of the tables
abbrev pub allocated : {X : Type 0} → Result X text.NoMemory → Result X Fault
allocated (Ok x) = Ok x
allocated (Err e) = Err table_fault.NoMemory
