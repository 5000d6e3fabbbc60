-- A guard in the two files of a database: how it is made and opened, and what closing it leaves of them.
use Rattle.std.specs.Prelude.{◌≡◌, false, Result, Ok, Err}
use Rattle.sqlite_disk.specs.declared.Disk.{Ghosts}
use Rattle.sqlite_disk.specs.declared.Files.{Files}
use Rattle.sqlite_wal.specs.Recovery.{Image}
use Rattle.sqlite_wal.specs.Files.{outcomes}
use Rattle.sqlite_wal.specs.Reads.{AreClean}
use Rattle.sqlite_store.specs.declared.store.FileStore.{FileStore}
use Rattle.sqlite.specs.declared.error.Error.{Error}
use Rattle.sqlite.specs.declared.error.Error.TheVariants.{SqliteFailure}
use Rattle.sqlite.specs.declared.error.ErrorCode.TheVariants.{OutOfMemory}
use Rattle.sqlite.specs.Start.{FindsIn}
use Rattle.sqlite.specs.State.{State as Connection, HasCleanDisk}
use Rattle.sqlite.specs.Held.{Held, IsNew}
use Rattle.sqlite.specs.Files.{file_state, IsOpened}
use Rattle.guard.specs.declared.scope.Scope.{Scope}
use Rattle.guard.specs.State.{State}
use Rattle.guard_sql.specs.declared.store.GuardStore.{GuardStore}
use Rattle.guard_sql.specs.Keeping.{IsBlank, IsGuard}
use Rattle.guard_sql.specs.Look.{is_empty}
use Rattle.guard_sql.specs.Opening.{Finds, Founds, Misses, SaysUnless}
use Rattle.guard_sql.specs.declared.opening_fault.OpeningFault.{OpeningFault}
use Rattle.guard_sql.specs.declared.opening_fault.OpeningFault.TheVariants as opening
use Rattle.files.specs.declared.ending.EndFault.{EndFault}
use Rattle.files.specs.declared.ending.EndFault.TheVariants.{GivenUp, Uncopied}
use Rattle.guard_sql.specs.Images.{HoldsKept, HoldsOneOf}
use Rattle.guard_sql.specs.Runs.{EndsWell, HasWhatIsHeld, IsBlankIfNone}
use Rattle.station_jobs.specs.declared.station_fault.StationFault.{StationFault}
use Rattle.station_jobs.specs.declared.station_fault.StationFault.TheVariants.{Device, NoMemory}
use Rattle.station_jobs.specs.declared.station_fault.StationFault.TheVariants as station

-- ---- faults

-- the fault of a database that wasn't opened or closed
abbrev pub of_database : Error → StationFault
of_database (SqliteFailure OutOfMemory) = NoMemory
of_database other = Device

-- the result of ending a connection
abbrev pub of_ending : Result (Unit {0}) EndFault → Result (Unit {0}) StationFault
of_ending (Ok done) = Ok done
of_ending (Err (GivenUp error)) = Err (of_database error)
of_ending (Err (Uncopied error)) = Err (of_database error)

-- the fault of a guard that wasn't opened or made
abbrev pub of_opening : OpeningFault → StationFault
of_opening opening.AlreadyAGuard = station.AlreadyAGuard
of_opening opening.NotAGuard = station.NotAGuard
of_opening opening.WrongSchema = station.WrongSchema
of_opening opening.Damaged = station.Damaged
of_opening opening.Device = Device
of_opening opening.NoMemory = NoMemory

-- the faults of files that can't be looked for, made or opened
abbrev pub IsOfFiles : StationFault → Type 0
IsOfFiles Device = Unit {0}
IsOfFiles NoMemory = Unit {0}
IsOfFiles other = ⊥

-- the same faults, and that of a file that doesn't exist
abbrev pub IsOfSearch : StationFault → Type 0
IsOfSearch station.NotAGuard = Unit {0}
IsOfSearch e = IsOfFiles e

-- the log was copied, or copying it had not begun
abbrev pub IsWhole : Result (Unit {0}) EndFault → Type 0
IsWhole (Ok done) = Unit {0}
IsWhole (Err (GivenUp error)) = Unit {0}
IsWhole (Err (Uncopied error)) = ⊥

-- ---- what files hold

-- the database has a table or a view
abbrev pub IsFull : Connection → Type 0
IsFull c = is_empty c.now.schema ≡ false

-- what the fault implies of rows of a guard's tables, and of tables that hold a guard
abbrev pub SaysAndMisses : Connection → Connection → OpeningFault → Type 0
SaysAndMisses old new e = SaysUnless old new (Err e) × Misses old new e

module _ {D : Type 0} {g : Ghosts D} where
  -- The connection is new. If its disk has returned what was written, it has the database that the files held. So it
  -- has each guard that they held, and is blank if they held none.
  pub record OpensFiles (image : Image) (conn : Held (FileStore D g)) : Type 0 where
    pub new : IsNew conn
    pub opened : HasCleanDisk (file_state conn) → IsOpened conn
    pub found : HasCleanDisk (file_state conn) → FindsIn image (file_state conn)
    pub held : HasCleanDisk (file_state conn) → HasWhatIsHeld image (file_state conn)
    pub blank : HasCleanDisk (file_state conn) → IsBlankIfNone image (file_state conn)

  -- A connection to the files was opened like this, its tables weren't of the wrong sort, and this is the guard over
  -- it. If the disk has returned what was written, the guard has found what the connection had.
  pub record OpensGuard (image : Image) (Wrong : Connection → Type 0) (Found : Connection → Connection → Type 0)
      (guard : GuardStore (FileStore D g)) : Type 0 where
    pub conn : Held (FileStore D g)
    pub files : OpensFiles image conn
    pub right : Wrong (file_state conn) → ⊥
    pub honest : HasCleanDisk (file_state guard.conn) → HasCleanDisk (file_state conn)
    pub found : HasCleanDisk (file_state guard.conn) → Found (file_state conn) (file_state guard.conn)

  -- the guard in the tables is opened, if there are any
  abbrev pub FindsGuard : Image → GuardStore (FileStore D g) → Type 0
  FindsGuard image guard = OpensGuard image IsBlank (Finds guard.scope) guard

  -- a guard with this scope that has approved nothing yet is made in an empty database
  abbrev pub MakesGuard : Image → Scope → GuardStore (FileStore D g) → Type 0
  MakesGuard image scope guard = OpensGuard image IsFull (Founds scope) guard × (guard.scope ≡ scope)

  -- ---- files that were closed or abandoned: the result, and the files

  abbrev pub EndsGuard : GuardStore (FileStore D g) → Result (Unit {0}) StationFault
      → Result (Unit {0}) EndFault × Files D → Type 0
  EndsGuard guard done left = EndsWell guard.conn left.0 left.1 × (done ≡ of_ending left.0)

  -- the disk has returned what was written, and the log was copied, or copying it had not begun
  abbrev pub AreSettled : GuardStore (FileStore D g) → Result (Unit {0}) EndFault × Files D → Type 0
  AreSettled guard left = AreClean g left.1.log left.1.db × IsWhole left.0

  -- whatever a crash leaves of the files, they hold the guard with this state
  abbrev pub HaveGuard : GuardStore (FileStore D g) → State → Result (Unit {0}) EndFault × Files D → Type 0
  HaveGuard guard s left = (image : Image) → outcomes g left.1.log left.1.db image → HoldsKept image s

  -- the same with one of two states, of which the first is one that tables can keep
  abbrev pub HaveOne : GuardStore (FileStore D g) → (s t : State) → Result (Unit {0}) EndFault × Files D → Type 0
  HaveOne guard s t left = IsGuard s × ((image : Image) → outcomes g left.1.log left.1.db image → HoldsOneOf image s t)
