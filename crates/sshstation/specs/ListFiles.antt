-- A guard of lists in the two files of a database: how it is made and opened, and what closing it leaves of them.
use Rattle.std.specs.Prelude.{◌≡◌, false, Result, Err, None}
use Rattle.sqlite_disk.specs.declared.Disk.{Ghosts}
use Rattle.sqlite_disk.specs.declared.Files.{Files}
use Rattle.sqlite_wal.specs.Recovery.{Image}
use Rattle.sqlite_store.specs.declared.store.FileStore.{FileStore}
use Rattle.sqlite.specs.Start.{FindsIn}
use Rattle.sqlite.specs.State.{State as Connection, HasCleanDisk}
use Rattle.sqlite.specs.Held.{Held, IsNew}
use Rattle.sqlite.specs.Files.{file_state, IsOpened}
use Rattle.list_sql.specs.declared.store.ListStore.{ListStore}
use Rattle.list_sql.specs.Keeping.{IsBlank}
use Rattle.list_sql.specs.Look.{is_empty}
use Rattle.list_sql.specs.Opening.{Finds, Founds, Misses, SaysUnless}
use Rattle.list_sql.specs.declared.opening_fault.OpeningFault.{OpeningFault}
use Rattle.list_sql.specs.declared.opening_fault.OpeningFault.TheVariants as opening
use Rattle.files.specs.declared.ending.EndFault.{EndFault}
use Rattle.list_sql.specs.Runs.{EndsWell, HasWhatIsHeld, IsBlankIfNone}
use Rattle.station_jobs.specs.declared.station_fault.StationFault.{StationFault}
use Rattle.station_jobs.specs.declared.station_fault.StationFault.TheVariants as station
use Rattle.sshstation.specs.GuardFiles.{of_ending}

-- the fault of a guard of lists that wasn't opened or made
abbrev pub of_opening : OpeningFault → StationFault
of_opening opening.AlreadyAGuard = station.AlreadyAGuard
of_opening opening.NotAGuard = station.NotAGuard
of_opening opening.WrongSchema = station.WrongSchema
of_opening opening.Damaged = station.Damaged
of_opening opening.Device = station.Device
of_opening opening.NoMemory = station.NoMemory

-- what the fault implies of rows of the table, and of a table that holds a guard of lists
abbrev pub SaysAndMisses : Connection → Connection → OpeningFault → Type 0
SaysAndMisses old new e = SaysUnless old new (Err e) × Misses old new e

-- the database has a table or a view
abbrev pub IsFull : Connection → Type 0
IsFull c = is_empty c.now.schema ≡ false

module _ {D : Type 0} {g : Ghosts D} where
  -- The connection is new. If its disk has returned what was written, it has the database that the files held. So it
  -- has each guard of lists that they held, and no table if they held none.
  pub record OpensLists (image : Image) (conn : Held (FileStore D g)) : Type 0 where
    pub new : IsNew conn
    pub opened : HasCleanDisk (file_state conn) → IsOpened conn
    pub found : HasCleanDisk (file_state conn) → FindsIn image (file_state conn)
    pub held : HasCleanDisk (file_state conn) → HasWhatIsHeld image (file_state conn)
    pub blank : HasCleanDisk (file_state conn) → IsBlankIfNone image (file_state conn)

  -- Such a connection to the files was opened, `Wrong` doesn't hold for it, and this is the guard of lists over it. If
  -- the disk has returned what was written, `Found` holds.
  pub record OpensList (image : Image) (Wrong : Connection → Type 0) (Found : Connection → Connection → Type 0)
      (guard : ListStore (FileStore D g)) : Type 0 where
    pub conn : Held (FileStore D g)
    pub files : OpensLists image conn
    pub right : Wrong (file_state conn) → ⊥
    pub honest : HasCleanDisk (file_state guard.conn) → HasCleanDisk (file_state conn)
    pub found : HasCleanDisk (file_state guard.conn) → Found (file_state conn) (file_state guard.conn)

  -- the guard of lists in the table is opened
  abbrev pub FindsList : Image → ListStore (FileStore D g) → Type 0
  FindsList image guard = OpensList image IsBlank (Finds guard.last) guard

  -- a guard of lists that has approved nothing yet is made in an empty database
  abbrev pub MakesList : Image → ListStore (FileStore D g) → Type 0
  MakesList image guard = OpensList image IsFull Founds guard × (guard.last ≡ None)

  -- the end of the guard's connection, with the fault that is returned for it
  abbrev pub EndsList : ListStore (FileStore D g) → Result (Unit {0}) StationFault
      → Result (Unit {0}) EndFault × Files D → Type 0
  EndsList guard done left = EndsWell guard.conn left.0 left.1 × (done ≡ of_ending left.0)
