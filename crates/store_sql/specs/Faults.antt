-- Why a call on the tables fails.
use Rattle.std.specs.Prelude.{◌≡◌, ◌⊎◌, Bool, true, false, if◌then◌else◌, IsSome}
use Rattle.sqlite_disk.specs.Disk.{MoreFaults}
use Rattle.sqlite.specs.declared.error.Error.{Error}
use Rattle.sqlite.specs.declared.error.Error.TheVariants.{SqliteFailure}
use Rattle.sqlite.specs.declared.error.ErrorCode.TheVariants.{OutOfMemory}
use Rattle.sqlite.specs.State.{State}
use Rattle.store_sql.specs.declared.table_fault.Fault.{Fault}
use Rattle.store_sql.specs.declared.table_fault.Fault.TheVariants.{Device, Damaged, NoMemory}

abbrev pub is_out_of_memory : Error → Bool
is_out_of_memory (SqliteFailure OutOfMemory) = true
is_out_of_memory _ = false

-- the fault for an error of the database
abbrev pub fault_of : Error → Fault
fault_of e = if is_out_of_memory e then NoMemory else Device

-- the disk failed during the call, an earlier failure has closed the connection, or the connection has a limit on steps
abbrev pub HasFailed : State → State → Type 0
HasFailed old new = MoreFaults old.faults new.faults ⊎ ((old.is_open ≡ false) ⊎ IsSome old.step_limit)

-- the cause of each fault of a call on tables with contents: no row is damaged
abbrev pub HasCause : State → State → Fault → Type 0
HasCause old new NoMemory = Unit {0}
HasCause old new Device = HasFailed old new
HasCause old new Damaged = ⊥

-- a fault of reading: memory was refused, or this holds
abbrev pub Misread : Type 0 → Fault → Type 0
Misread P NoMemory = Unit {0}
Misread P Damaged = P
Misread P Device = ⊥

-- the faults of a statement that reads no rows, so none can be damaged
abbrev pub IsOfStatement : Fault → Type 0
IsOfStatement NoMemory = Unit {0}
IsOfStatement Device = Unit {0}
IsOfStatement Damaged = ⊥
