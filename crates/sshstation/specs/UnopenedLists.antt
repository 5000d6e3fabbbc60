-- The files of a list guard that wasn't opened or made: they weren't opened, or they are left as they are.
use Rattle.std.specs.Prelude.{◌≡◌, ◌⊎◌, IsTrue, Result, Ok, Err}
use Rattle.sqlite_disk.specs.declared.Disk.{Ghosts}
use Rattle.sqlite_disk.specs.declared.Files.{Files}
use Rattle.sqlite_wal.specs.Recovery.{Image}
use Rattle.sqlite_wal.specs.Files.{outcomes}
use Rattle.sqlite_wal.specs.Reads.{AreClean}
use Rattle.sqlite_store.specs.declared.store.FileStore.{FileStore}
use Rattle.sqlite.specs.State.{State as Connection, HasCleanDisk}
use Rattle.sqlite.specs.Held.{Held}
use Rattle.sqlite.specs.Files.{file_state}
use Rattle.list_guard.specs.State.{opened}
use Rattle.list_sql.specs.declared.opening_fault.OpeningFault.{OpeningFault}
use Rattle.list_sql.specs.declared.store.ListStore.{ListStore}
use Rattle.list_sql.specs.Look.{IsRefused, is_empty}
use Rattle.list_sql.specs.Opening.{FoundsNone}
use Rattle.list_sql.specs.Images.{HoldsKept}
use Rattle.station_jobs.specs.declared.station_fault.StationFault.{StationFault}
use Rattle.sshstation.specs.declared.database_files.DatabaseFiles.{DatabaseFiles}
use Rattle.sshstation.specs.declared.database_files.DatabaseFiles.TheVariants.{Connected}
use Rattle.sshstation.specs.DatabaseFiles.{AreLeftAs}
use Rattle.sshstation.specs.GuardFiles.{IsOfFiles, IsOfSearch}
use Rattle.sshstation.specs.ListFiles.{OpensLists, SaysAndMisses, of_opening}
use Rattle.sshstation.specs.Unopened.{HoldsSame, LeavesDatabase, OpensNoFiles}

-- A connection to files that held `image` was opened, but no list guard over it, for this fault, and these files are
-- left. If the disk has returned what was written, the fault has its cause in the connection, as it was opened and as
-- it was left. And whatever a crash makes of the files, what they hold satisfies `Holds`.
pub record OpensNone {D : Type 0} (g : Ghosts D) (image : Image)
    (Caused : Connection → Connection → OpeningFault → Type 0) (Holds : Connection → Image → Type 0)
    (e : StationFault) (left : Files D) : Type 0 where
  pub conn : Held (FileStore D g)
  pub last : Held (FileStore D g)
  pub files : OpensLists image conn
  pub fault : OpeningFault
  pub is : e ≡ of_opening fault
  pub leaves : LeavesDatabase last left
  pub honest : HasCleanDisk (file_state last) → HasCleanDisk (file_state conn)
  pub caused : HasCleanDisk (file_state last) → Caused (file_state conn) (file_state last) fault
  pub holds : AreClean g left.log left.db → (now : Image) → outcomes g left.log left.db now
      → ∥ Holds (file_state conn) now ∥₁

-- no list guard was found, and the files hold the same database
abbrev pub FindsNone : {D : Type 0} → Ghosts D → Image → StationFault → Files D → Type 0
FindsNone g image e left = OpensNone g image SaysAndMisses (λ conn now. HoldsSame image now) e left

-- the database was empty, and the files hold a new list guard
abbrev pub HoldsNew : Connection → Image → Type 0
HoldsNew conn now = IsTrue (is_empty conn.now.schema) × HoldsKept now opened

-- why no list guard is made: the database isn't empty, or the call failed
abbrev pub RefusesOrFails : Connection → Connection → OpeningFault → Type 0
RefusesOrFails old new e = IsRefused old.now.schema e × FoundsNone old new e

-- no list guard was made, and the files hold the same database, or in place of an empty one perhaps the new list guard
abbrev pub MakesNone : {D : Type 0} → Ghosts D → Image → StationFault → Files D → Type 0
MakesNone g image e left =
    OpensNone g image RefusesOrFails (λ conn now. HoldsSame image now ⊎ HoldsNew conn now) e left

module _ {D : Type 0} {g : Ghosts D} where
  -- ---- the result over a connection: the list guard, or the fault and the files

  abbrev pub OpensOrLeaves : Image → Result (ListStore (FileStore D g)) (StationFault × Files D) → Type 0
  OpensOrLeaves image (Ok guard) = Unit {0}
  OpensOrLeaves image (Err e) = FindsNone g image e.0 e.1

  abbrev pub MakesOrLeaves : Image → Result (ListStore (FileStore D g)) (StationFault × Files D) → Type 0
  MakesOrLeaves image (Ok guard) = Unit {0}
  MakesOrLeaves image (Err e) = MakesNone g image e.0 e.1

  -- ---- A list guard that was opened or made; or why it wasn't. The last arguments are the files before and after.

  abbrev pub OpensLeaving : {S : Type 0} → Image → Result (ListStore (FileStore D g)) StationFault
      → (old new : DatabaseFiles S D) → Type 0
  OpensLeaving image (Ok guard) old new = new ≡ Connected
  OpensLeaving image (Err e) old new =
      OpensNoFiles g image IsOfSearch e old new
      ⊎ AreLeftAs new (λ left. (left.0 ≡ Ok tt) × FindsNone g image e left.1)

  abbrev pub MakesLeaving : {S : Type 0} → Image → Result (ListStore (FileStore D g)) StationFault
      → (old new : DatabaseFiles S D) → Type 0
  MakesLeaving image (Ok guard) old new = new ≡ Connected
  MakesLeaving image (Err e) old new =
      OpensNoFiles g image IsOfFiles e old new
      ⊎ AreLeftAs new (λ left. (left.0 ≡ Ok tt) × MakesNone g image e left.1)
