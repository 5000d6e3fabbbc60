-- What is answered from a table of approved bodies (unsigned certificates) whose rows no guard may have written.
use Rattle.std.specs.Prelude.{◌≡◌, ◌≢◌, ◌<◌, ◌^◌, ◌==◌, ℕ, pos, List, [], ◌∷◌, filter, map, IsPermutation, Option, Some}
use Rattle.std.specs.Prelude.{None}
use Rattle.std.specs.Prelude.{Result, Ok, Err}
use Rattle.sqlite.specs.Effect.{Database}
use Rattle.sqlite.specs.Order.{Row}
use Rattle.sqlite.specs.State.{State}
use Rattle.sqlite.specs.declared.types.Value.{Value}
use Rattle.sqlite.specs.declared.types.Value.TheVariants.{Int}
use Rattle.store_sql.specs.Contents.{Lists}
use Rattle.store_sql.specs.Faults.{HasFailed}
use Rattle.store_sql.specs.declared.table_fault.Fault.{Fault}
use Rattle.store_sql.specs.declared.table_fault.Fault.TheVariants as fault
use Rattle.guard.specs.declared.register.RegisterFault.{RegisterFault}
use Rattle.guard.specs.declared.register.RegisterFault.TheVariants as register
use Rattle.guard_sql.specs.declared.approvals.ApprovalRow.{ApprovalRow}
use Rattle.guard_sql.specs.Cells.{approval_cells}
use Rattle.guard.specs.declared.approved.Approved.{Approved}
use Rattle.guard_sql.specs.Contents.{IsLeastFrom, approval_places}
use Rattle.guard_sql.specs.Rows.{approved_in}
use Rattle.guard_sql.specs.Schema.{whole}

-- a row of the table with a serial that isn't negative, whatever its other columns hold
pub record AnyRow : Type 0 where
  pub serial : ℕ
  pub moment : Value
  pub body : Value

abbrev pub any_cells : AnyRow → Row
any_cells a = Int (pos a.serial) ∷ a.moment ∷ a.body ∷ []

-- the database has exactly a guard's tables, and that of approved bodies holds these rows, whatever the other holds
pub record HasRows (rows : List AnyRow) (db : Database) : Type 0 where
  pub schema : db.schema ≡ whole
  pub holds : Lists any_cells approval_places (db.trees 1) rows

-- the rows under this serial
abbrev pub rows_under : ℕ → List AnyRow → List AnyRow
rows_under serial rows = filter (λ a. a.serial == serial) rows

-- one of the rows under the serial is this one
abbrev pub IsAmong : ApprovalRow → ℕ → List AnyRow → Type 0
IsAmong a serial rows =
    (others : List Row) × IsPermutation (map any_cells (rows_under serial rows)) (approval_cells a ∷ others)

-- the rows under the serial aren't rows that a guard writes
abbrev pub AreDamaged : ℕ → List AnyRow → Type 0
AreDamaged serial rows = (xs : List ApprovalRow) → map any_cells (rows_under serial rows) ≢ map approval_cells xs

-- Among these rows one under the serial is found, or none if there is none. Or they are damaged, or memory is refused,
-- or there was this failure.
abbrev pub SaysRow : List AnyRow → ℕ → (failed : Type 0) → Result (Option ApprovalRow) Fault → Type 0
SaysRow rows serial failed (Ok None) = rows_under serial rows ≡ []
SaysRow rows serial failed (Ok (Some a)) = IsAmong a serial rows
SaysRow rows serial failed (Err fault.Damaged) = AreDamaged serial rows
SaysRow rows serial failed (Err fault.Device) = failed
SaysRow rows serial failed (Err fault.NoMemory) = Unit {0}

-- the same for every database with a guard's tables
abbrev pub SaysRowUnless : ℕ → State → State → Result (Option ApprovalRow) Fault → Type 0
SaysRowUnless serial old new r = (rows : List AnyRow) → HasRows rows old.now → SaysRow rows serial (HasFailed old new) r

-- the same for the body alone
abbrev pub SaysBody : List AnyRow → ℕ → (failed : Type 0) → Result (Option (List ℕ)) RegisterFault → Type 0
SaysBody rows serial failed (Ok None) = rows_under serial rows ≡ []
SaysBody rows serial failed (Ok (Some body)) = (a : ApprovalRow) × (a.body ≡ body) × IsAmong a serial rows
SaysBody rows serial failed (Err register.Damaged) = AreDamaged serial rows
SaysBody rows serial failed (Err register.Device) = failed
SaysBody rows serial failed (Err register.NoMemory) = Unit {0}

-- the same for a serial that a column can hold
abbrev pub SaysBodyUnless : ℕ → State → State → Result (Option (List ℕ)) RegisterFault → Type 0
SaysBodyUnless serial old new r =
    serial < 2 ^ 63 → (rows : List AnyRow) → HasRows rows old.now → SaysBody rows serial (HasFailed old new) r

-- ---- the row with the least serial from a given one on

-- this row is the first from the serial on
abbrev pub IsFirst : List AnyRow → ℕ → AnyRow → Type 0
IsFirst rows from x = IsLeastFrom (λ (r : AnyRow). r.serial) from rows (Some x)

-- no row has this serial or a higher one
abbrev pub HasNoFirst : List AnyRow → ℕ → Type 0
HasNoFirst rows from = IsLeastFrom (λ (r : AnyRow). r.serial) from rows None

-- the first row is this one
abbrev pub IsFirstOf : ApprovalRow → List AnyRow → ℕ → Type 0
IsFirstOf a rows from = (x : AnyRow) × IsFirst rows from x × (any_cells x ≡ approval_cells a)

-- the first row isn't one that a guard writes
abbrev pub IsFirstDamaged : List AnyRow → ℕ → Type 0
IsFirstDamaged rows from =
    (x : AnyRow) × IsFirst rows from x × ((a : ApprovalRow) → any_cells x ≢ approval_cells a)

-- Among these rows the first from the serial on is found, or none if there is none. Or it is damaged, or memory is
-- refused, or there was this failure.
abbrev pub SaysFirst : List AnyRow → ℕ → (failed : Type 0) → Result (Option ApprovalRow) Fault → Type 0
SaysFirst rows from failed (Ok None) = HasNoFirst rows from
SaysFirst rows from failed (Ok (Some a)) = IsFirstOf a rows from
SaysFirst rows from failed (Err fault.Damaged) = IsFirstDamaged rows from
SaysFirst rows from failed (Err fault.Device) = failed
SaysFirst rows from failed (Err fault.NoMemory) = Unit {0}

-- the same for every database with a guard's tables
abbrev pub SaysFirstUnless : ℕ → State → State → Result (Option ApprovalRow) Fault → Type 0
SaysFirstUnless from old new r =
    (rows : List AnyRow) → HasRows rows old.now → SaysFirst rows from (HasFailed old new) r

-- the same for the approved body in the row
abbrev pub SaysApproved : List AnyRow → ℕ → (failed : Type 0) → Result (Option Approved) RegisterFault → Type 0
SaysApproved rows from failed (Ok None) = HasNoFirst rows from
SaysApproved rows from failed (Ok (Some a)) = (row : ApprovalRow) × (approved_in row ≡ a) × IsFirstOf row rows from
SaysApproved rows from failed (Err register.Damaged) = IsFirstDamaged rows from
SaysApproved rows from failed (Err register.Device) = failed
SaysApproved rows from failed (Err register.NoMemory) = Unit {0}

-- the same for a serial that a column can hold
abbrev pub SaysApprovedUnless : ℕ → State → State → Result (Option Approved) RegisterFault → Type 0
SaysApprovedUnless from old new r =
    from < 2 ^ 63 → (rows : List AnyRow) → HasRows rows old.now → SaysApproved rows from (HasFailed old new) r
