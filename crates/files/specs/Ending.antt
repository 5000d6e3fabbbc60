-- How a connection to files ends.
use Rattle.std.specs.Prelude.{◌≡◌, ◌≤◌, ◌⊎◌, ℕ, false, IsTrue, Option, Some, None, Result, Ok, Err}
use Rattle.sqlite_disk.specs.declared.Disk.{Ghosts}
use Rattle.sqlite_disk.specs.declared.Files.{Files}
use Rattle.sqlite_disk.specs.Disk.{MoreFaults}
use Rattle.sqlite_wal.specs.Reads.{AreClean}
use Rattle.sqlite_store.specs.declared.store.FileStore.{FileStore}
use Rattle.sqlite_store.specs.FileStore as store
use Rattle.sqlite_trees.specs.Tree.{Trees}
use Rattle.sqlite_trees.specs.View.{IsClean}
use Rattle.sqlite.specs.declared.error.Error.{Error}
use Rattle.sqlite.specs.declared.error.Error.TheVariants.{SqliteFailure}
use Rattle.sqlite.specs.declared.error.ErrorCode.TheVariants.{OutOfMemory}
use Rattle.sqlite.specs.State.{HasCleanDisk, State}
use Rattle.sqlite.specs.Held.{AreDatabases, Held}
use Rattle.sqlite.specs.Files.{file_state, FailsToClose, IsClosed}
use Rattle.sqlite.specs.Closing.{IsCopied}
use Rattle.files.specs.declared.ending.EndFault.{EndFault}
use Rattle.files.specs.declared.ending.EndFault.TheVariants.{GivenUp, Uncopied}

-- If the disk has failed this many times by the end, the error has its cause: memory was refused, the connection was
-- already shut, or the disk has failed since.
abbrev pub Excuses : State → (faults : ℕ) → Error → Type 0
Excuses old faults e = (e ≡ SqliteFailure OutOfMemory) ⊎ ((old.is_open ≡ false) ⊎ MoreFaults old.faults faults)

-- The connection was abandoned, shut or not. Its disk has been faithful. A crash leaves databases, and none that it
-- could not leave before.
pub record IsGivenUp {D : Type 0} {g : Ghosts D} (conn : Held (FileStore D g)) (it : FileStore D g) : Type 0 where
  pub clean : HasCleanDisk (file_state conn)
  pub numbered : IsTrue (store.view it).is_numbered
  pub sound : AreDatabases (store.recovers it)
  pub fewer : (trees : Trees) → store.recovers it trees → (file_state conn).may_leave trees

-- these are the files of the store that an abandoned connection left
pub record IsGivenUpTo {D : Type 0} {g : Ghosts D} (conn : Held (FileStore D g)) (files : Files D) : Type 0 where
  pub it : FileStore D g
  pub are_its : store.files it ≡ (files.log, files.db)
  pub up : IsGivenUp conn it
  pub counts : (file_state conn).faults ≤ store.faults it

-- the same, and the connection was abandoned for this error
pub record AreGivenUp {D : Type 0} {g : Ghosts D} (conn : Held (FileStore D g)) (error : Error) (files : Files D)
    : Type 0 where
  pub given : IsGivenUpTo conn files
  pub cause : Excuses (file_state conn) (store.faults given.it) error

-- These are the files of a store that was closed, and an error of the close has its cause. A crash has no outcome that
-- it didn't have before.
pub record IsClosedTo {D : Type 0} {g : Ghosts D} (conn : Held (FileStore D g)) (error : Option Error)
    (files : Files D) : Type 0 where
  pub it : FileStore D g
  pub are_its : store.files it ≡ (files.log, files.db)
  pub quiet : IsClosed conn it
  pub cause : (e : Error) → error ≡ Some e → IsClean (store.view it) → FailsToClose conn it e

-- the result of closing an open connection, and the files that it left
abbrev pub IsEndOfClose : {D : Type 0} {g : Ghosts D} → Held (FileStore D g) → Result (Unit {0}) EndFault → Files D
    → Type 0
IsEndOfClose {D} {g} conn (Ok done) files =
    IsClosedTo conn None files × (AreClean g files.log files.db → IsCopied conn files)
IsEndOfClose {D} {g} conn (Err (Uncopied error)) files = IsClosedTo conn (Some error) files
IsEndOfClose {D} {g} conn (Err (GivenUp error)) files = ⊥

-- These are the files of a store that was closed. If their disk has been faithful, the connection was open until then, a
-- crash has no outcome that it didn't have before the close, and an error of the close has its cause.
pub record AreClosed {D : Type 0} {g : Ghosts D} (conn : Held (FileStore D g)) (error : Option Error)
    (files : Files D) : Type 0 where
  pub it : FileStore D g
  pub are_its : store.files it ≡ (files.log, files.db)
  pub was_open : IsClean (store.view it) → IsTrue (file_state conn).is_open
  pub quiet : IsClean (store.view it) → IsClosed conn it
  pub cause : (e : Error) → error ≡ Some e → IsClean (store.view it) → FailsToClose conn it e

-- The last commit is in the database file alone, or the connection was abandoned, or its log wasn't copied. Each case
-- assumes that the disk has been faithful.
abbrev pub AreEnded : {D : Type 0} {g : Ghosts D} → Held (FileStore D g) → Result (Unit {0}) EndFault → Files D
    → Type 0
AreEnded {D} {g} conn (Ok done) files =
    AreClosed conn None files × (AreClean g files.log files.db → IsCopied conn files)
AreEnded {D} {g} conn (Err (GivenUp error)) files = AreClean g files.log files.db → AreGivenUp conn error files
AreEnded {D} {g} conn (Err (Uncopied error)) files = AreClosed conn (Some error) files
