-- The files of a guard that wasn't opened or made: they weren't opened, or they are left as they are.
use Rattle.std.specs.Prelude.{◌≡◌, ◌⊎◌, IsTrue, Result, Ok, Err}
use Rattle.sqlite_disk.specs.declared.Disk.{Ghosts}
use Rattle.sqlite_disk.specs.declared.Files.{Files}
use Rattle.sqlite_wal.specs.Recovery.{Image}
use Rattle.sqlite_wal.specs.Files.{outcomes}
use Rattle.sqlite_wal.specs.Reads.{AreClean}
use Rattle.sqlite_trees.specs.Tree.{Trees}
use Rattle.sqlite_store.specs.declared.store.FileStore.{FileStore}
use Rattle.sqlite.specs.State.{State as Connection, HasCleanDisk}
use Rattle.sqlite.specs.Held.{Held}
use Rattle.sqlite.specs.Files.{AreFoundIn, HoldsDatabase, file_state}
use Rattle.guard.specs.declared.scope.Scope.{Scope}
use Rattle.guard.specs.State.{opened}
use Rattle.guard_sql.specs.declared.opening_fault.OpeningFault.{OpeningFault}
use Rattle.guard_sql.specs.declared.store.GuardStore.{GuardStore}
use Rattle.guard_sql.specs.Look.{IsRefused, is_empty}
use Rattle.guard_sql.specs.Opening.{FoundsNone}
use Rattle.files.specs.declared.open_fault.OpenFault.{OpenFault}
use Rattle.files.specs.Opening.{FailsToOpen}
use Rattle.guard_sql.specs.Images.{HoldsKept}
use Rattle.station_jobs.specs.declared.station_fault.StationFault.{StationFault}
use Rattle.station_jobs.specs.declared.station_fault.StationFault.TheVariants.{Device}
use Rattle.sshstation.specs.declared.database_files.DatabaseFiles.{DatabaseFiles}
use Rattle.sshstation.specs.declared.database_files.DatabaseFiles.TheVariants.{Connected, Failed, Unopened}
use Rattle.sshstation.specs.DatabaseFiles.{AreLeftAs}
use Rattle.sshstation.specs.GuardFiles.{IsOfFiles, IsOfSearch, OpensFiles, SaysAndMisses, of_database, of_opening}

-- ---- any database

-- a crash leaves the last commit of an open connection
abbrev pub Settles : {D : Type 0} → Ghosts D → Type 0
Settles {D} g =
    (c : Held (FileStore D g)) (trees : Trees) → IsTrue (file_state c).is_open → (file_state c).may_leave trees
    → trees ≡ (file_state c).committed.trees

module _ {D : Type 0} {g : Ghosts D} where
  -- the files hold a database that a crash could leave of the connection
  abbrev pub IsLeft : Held (FileStore D g) → Image → Type 0
  IsLeft conn image = (trees : Trees) × HoldsDatabase image trees × (file_state conn).may_leave trees

  -- If the disk has returned what was written, whatever a crash makes of the files of an abandoned connection is that.
  abbrev pub LeavesDatabase : Held (FileStore D g) → Files D → Type 0
  LeavesDatabase conn files =
      AreClean g files.log files.db
      → HasCleanDisk (file_state conn)
      × ((image : Image) → outcomes g files.log files.db image → ∥ IsLeft conn image ∥₁)

-- what an open finds in such files: the database that they hold or, if they hold none, one without a row
pub record IsFoundIn (image : Image) (trees : Trees) : Type 0 where
  pub holds : (db : Trees) → HoldsDatabase image db → trees ≡ db
  pub reads : AreFoundIn image trees

-- files that held `image` hold the same database now, whatever it is
abbrev pub HoldsSame : (image now : Image) → Type 0
HoldsSame image now = (trees : Trees) × HoldsDatabase now trees × IsFoundIn image trees

-- ---- files that weren't opened

-- an open has failed with this error, and left the files as its fault says
abbrev pub IsFailure : {D : Type 0} → Ghosts D → Image → StationFault → OpenFault D → Type 0
IsFailure g image e fault = (e ≡ of_database fault.error) × FailsToOpen g image fault

-- An open of unopened files has failed, with this fault. Files that were opened before, or whose open has failed, stay
-- as they are, and the fault is `Device`.
abbrev pub FailsToConnect : {D S : Type 0} → Ghosts D → Image → StationFault → (old new : DatabaseFiles S D) → Type 0
FailsToConnect {D} g image e (Unopened value) new =
    (fault : OpenFault D) × (new ≡ Failed fault) × IsFailure g image e fault
FailsToConnect g image e other new = (e ≡ Device) × (new ≡ other)

-- No files were opened here. They couldn't be looked for or made, the fault is one of these, and they are as they were
-- before. Or connecting to them has failed.
abbrev pub OpensNoFiles : {D S : Type 0} → Ghosts D → Image → (Fault : StationFault → Type 0) → StationFault
    → (old new : DatabaseFiles S D) → Type 0
OpensNoFiles g image Fault e old new = (Fault e × (new ≡ old)) ⊎ FailsToConnect g image e old new

module _ {D S : Type 0} {g : Ghosts D} where
  -- the files were opened, or they weren't
  abbrev pub ConnectsOrNot : Image → Result (Held (FileStore D g)) StationFault → (old new : DatabaseFiles S D) → Type 0
  ConnectsOrNot image (Ok conn) old new = new ≡ Connected
  ConnectsOrNot image (Err e) old new = FailsToConnect g image e old new

-- ---- a guard

-- A connection to files that held `image` was opened, but no guard over it, for this fault, and these files are left.
-- If the disk has returned what was written, the fault has its cause in the connection, as it was opened and as it was
-- left. And whatever a crash makes of the files, what they hold satisfies `Holds`.
pub record OpensNone {D : Type 0} (g : Ghosts D) (image : Image)
    (Caused : Connection → Connection → OpeningFault → Type 0) (Holds : Connection → Image → Type 0)
    (e : StationFault) (left : Files D) : Type 0 where
  pub conn : Held (FileStore D g)
  pub last : Held (FileStore D g)
  pub files : OpensFiles image conn
  pub fault : OpeningFault
  pub is : e ≡ of_opening fault
  pub leaves : LeavesDatabase last left
  pub honest : HasCleanDisk (file_state last) → HasCleanDisk (file_state conn)
  pub caused : HasCleanDisk (file_state last) → Caused (file_state conn) (file_state last) fault
  pub holds : AreClean g left.log left.db → (now : Image) → outcomes g left.log left.db now
      → ∥ Holds (file_state conn) now ∥₁

-- no guard was found, and the files hold the same database
abbrev pub FindsNone : {D : Type 0} → Ghosts D → Image → StationFault → Files D → Type 0
FindsNone g image e left = OpensNone g image SaysAndMisses (λ conn now. HoldsSame image now) e left

-- the database was empty, and the files hold a new guard with this scope
abbrev pub HoldsNew : Scope → Connection → Image → Type 0
HoldsNew scope conn now = IsTrue (is_empty conn.now.schema) × HoldsKept now (opened scope)

-- why no guard is made: the database isn't empty, or the call failed
abbrev pub RefusesOrFails : Connection → Connection → OpeningFault → Type 0
RefusesOrFails old new e = IsRefused old.now.schema e × FoundsNone old new e

-- no guard was made, and the files hold the same database, or in place of an empty one perhaps the new guard
abbrev pub MakesNone : {D : Type 0} → Ghosts D → Image → Scope → StationFault → Files D → Type 0
MakesNone g image scope e left =
    OpensNone g image RefusesOrFails (λ conn now. HoldsSame image now ⊎ HoldsNew scope conn now) e left

module _ {D : Type 0} {g : Ghosts D} where
  -- ---- the result over a connection: the guard, or the fault and the files

  abbrev pub OpensOrLeaves : Image → Result (GuardStore (FileStore D g)) (StationFault × Files D) → Type 0
  OpensOrLeaves image (Ok guard) = Unit {0}
  OpensOrLeaves image (Err e) = FindsNone g image e.0 e.1

  abbrev pub MakesOrLeaves : Image → Scope → Result (GuardStore (FileStore D g)) (StationFault × Files D) → Type 0
  MakesOrLeaves image scope (Ok guard) = Unit {0}
  MakesOrLeaves image scope (Err e) = MakesNone g image scope e.0 e.1

  -- ---- A guard that was opened or made; or why it wasn't: its files weren't opened, or what their tables hold, and
  -- then the connection was abandoned. The last arguments are the files before and after.

  abbrev pub OpensLeaving : {S : Type 0} → Image → Result (GuardStore (FileStore D g)) StationFault
      → (old new : DatabaseFiles S D) → Type 0
  OpensLeaving image (Ok guard) old new = new ≡ Connected
  OpensLeaving image (Err e) old new =
      OpensNoFiles g image IsOfSearch e old new
      ⊎ AreLeftAs new (λ left. (left.0 ≡ Ok tt) × FindsNone g image e left.1)

  abbrev pub MakesLeaving : {S : Type 0} → Image → Scope → Result (GuardStore (FileStore D g)) StationFault
      → (old new : DatabaseFiles S D) → Type 0
  MakesLeaving image scope (Ok guard) old new = new ≡ Connected
  MakesLeaving image scope (Err e) old new =
      OpensNoFiles g image IsOfFiles e old new
      ⊎ AreLeftAs new (λ left. (left.0 ≡ Ok tt) × MakesNone g image scope e left.1)
