-- An open of a database's two files that failed, and what it left of them.
use Rattle.std.specs.Prelude.{◌≡◌, ◌⊎◌, false, MatchOption, Result, Ok, Err}
use Rattle.sqlite_disk.specs.declared.Disk.{Ghosts}
use Rattle.sqlite_disk.specs.declared.Files.{Files}
use Rattle.sqlite_wal.specs.Recovery.{Image}
use Rattle.sqlite_wal.specs.Files.{outcomes}
use Rattle.sqlite_store.specs.declared.store.FileStore.{FileStore}
use Rattle.sqlite_store.specs.FileStore.{view}
use Rattle.sqlite.specs.declared.error.Error.{Error}
use Rattle.sqlite.specs.declared.error.Error.TheVariants.{SqliteFailure}
use Rattle.sqlite.specs.declared.error.ErrorCode.TheVariants.{CannotOpen, DatabaseBusy, OutOfMemory}
use Rattle.sqlite.specs.declared.file.Leftover.{Leftover}
use Rattle.sqlite.specs.Closing.{files_left}
use Rattle.sqlite.specs.Files.{FailsToOpenFiles, IsBlankAs, IsCleanLeft, LeavesFiles, image_of}
use Rattle.sqlite.specs.Held.{Held}
use Rattle.files.specs.declared.open_fault.OpenFault.{OpenFault}

-- the error of an open that never had the files: their path can't be opened, memory was refused, or they are in use
abbrev pub IsOfNoFiles : Error → Type 0
IsOfNoFiles e =
    (e ≡ SqliteFailure CannotOpen) ⊎ ((e ≡ SqliteFailure OutOfMemory) ⊎ (e ≡ SqliteFailure DatabaseBusy))

-- An open had these files, and failed with this error. As it opened them they held `image`, and a crash left nothing
-- else. If the disk has returned what was written, the error has its cause in these files or in their disk, as the
-- toolchain's open promises (`FailsToOpenFiles`), and what is left of them is what it leaves (`LeavesFiles`): the files
-- as they were, or others with the same pages. Only if they held no database, there may be an empty one now.
pub record AreLeft {D : Type 0} (g : Ghosts D) (image : Image) (error : Error) (files : Files D) : Type 0 where
  pub opened : Files D
  pub rest : Leftover D g
  pub held : image_of g opened ≡ image
  pub only : (left : Image) → outcomes g opened.log opened.db left → left ≡ image
  pub same : files_left rest ≡ (files.log, files.db)
  pub cause : IsCleanLeft rest → FailsToOpenFiles opened rest error
  pub leaves : IsCleanLeft rest → LeavesFiles opened rest

-- why the files weren't opened, and what is left of them, if the open had them
abbrev pub FailsToOpen : {D : Type 0} → Ghosts D → Image → OpenFault D → Type 0
FailsToOpen g image fault = MatchOption fault.files (IsOfNoFiles fault.error) (AreLeft g image fault.error)

module _ {D : Type 0} {g : Ghosts D} where
  -- Files that held no database yet have one without checksums in its pages.
  abbrev pub HasNoChecksums : Image → Held (FileStore D g) → Type 0
  HasNoChecksums image conn = IsBlankAs false image → (view conn.store).has_sums ≡ false

  abbrev pub OpensOrFails : Image → Result (Held (FileStore D g)) (OpenFault D) → Type 0
  OpensOrFails image (Ok conn) = Unit {0}
  OpensOrFails image (Err fault) = FailsToOpen g image fault
