-- The files of a database that a job may open: before it, when they are opened, and what becomes of them.
use Rattle.std.specs.Prelude.{◌≡◌, IsTrue, Result, Ok, Err}
use Rattle.sqlite_disk.specs.declared.Disk.{Ghosts}
use Rattle.sqlite_disk.specs.declared.Files.{Files}
use Rattle.sqlite_wal.specs.Recovery.{Image}
use Rattle.sqlite_wal.specs.Files.{outcomes}
use Rattle.sqlite_wal.specs.Reads.{AreClean}
use Rattle.sqlite_store.specs.declared.store.FileStore.{FileStore}
use Rattle.sqlite.specs.declared.error.Error.{Error}
use Rattle.sqlite.specs.declared.error.Error.TheVariants.{SqliteFailure}
use Rattle.sqlite.specs.declared.error.ErrorCode.TheVariants.{CannotOpen}
use Rattle.sqlite.specs.Opening.{is_open_error}
use Rattle.sqlite.specs.Start.{FindsIn}
use Rattle.sqlite.specs.State.{HasCleanDisk}
use Rattle.sqlite.specs.Held.{Held, IsNew}
use Rattle.sqlite.specs.Files.{file_state, IsOpened}
use Rattle.files.specs.declared.ending.EndFault.{EndFault}
use Rattle.files.specs.declared.open_fault.OpenFault.{OpenFault}
use Rattle.restart.specs.Ending.{EndsRuns}
use Rattle.files.specs.Ending.{AreEnded}
use Rattle.files.specs.Opening.{FailsToOpen, HasNoChecksums}
use Rattle.restart.specs.Runs.{IsBlankIfNone, TellsFormer, TellsWhatIsHeld}
use Rattle.sshoffice.specs.declared.database_files.DatabaseFiles.{DatabaseFiles}
use Rattle.sshoffice.specs.declared.database_files.DatabaseFiles.TheVariants.{Connected, Failed, Left, Unopened}

-- the files of an ended connection are left in this way
abbrev pub AreLeftAs : {S D : Type 0} → (Files D → Type 0) → DatabaseFiles S D → Type 0
AreLeftAs Way (Left files) = Way files
AreLeftAs Way other = ⊥

module _ {D : Type 0} {g : Ghosts D} where
  -- The connection is new. If its disk has returned what was written, it has the database that the files held. So it
  -- represents each history whose office they held, also in schema 1, and is blank if they held none. Nor does a file
  -- that is made have checksums in its pages.
  pub record OpensFiles (image : Image) (conn : Held (FileStore D g)) : Type 0 where
    pub new : IsNew conn
    pub opened : HasCleanDisk (file_state conn) → IsOpened conn
    pub found : HasCleanDisk (file_state conn) → FindsIn image (file_state conn)
    pub told : HasCleanDisk (file_state conn) → TellsWhatIsHeld image (file_state conn)
    pub former : HasCleanDisk (file_state conn) → TellsFormer image (file_state conn)
    pub blank : HasCleanDisk (file_state conn) → IsBlankIfNone image (file_state conn)
    pub plain : HasCleanDisk (file_state conn) → HasNoChecksums image conn

  -- the outcome of opening files that weren't opened before: such a connection, or why there is none, with what is left
  -- of the files
  abbrev pub OpensOrNot : {S : Type 0} → Image → Result (Held (FileStore D g)) Error → (after : DatabaseFiles S D)
      → Type 0
  OpensOrNot image (Ok conn) after = OpensFiles image conn × (after ≡ Connected)
  OpensOrNot image (Err error) after =
      (fault : OpenFault D) × (after ≡ Failed fault) × (error ≡ fault.error) × IsTrue (is_open_error error)
      × FailsToOpen g image fault

  -- Files are opened once. A second open fails, and changes nothing.
  abbrev pub OpensOnce : {S : Type 0} → Image → (before : DatabaseFiles S D) → Result (Held (FileStore D g)) Error
      → (after : DatabaseFiles S D) → Type 0
  OpensOnce image (Unopened start) found after = OpensOrNot image found after
  OpensOnce image before found after = (found ≡ Err (SqliteFailure CannotOpen)) × (after ≡ before)

  -- The last commit is in the database file alone, or the connection was given up, or its log wasn't copied. The work
  -- over the connection was a run of the program, whatever a crash makes of the files.
  pub record ClosesFiles (conn : Held (FileStore D g)) (closed : Result (Unit {0}) EndFault) (files : Files D)
      : Type 0 where
    pub ended : AreEnded conn closed files
    pub runs : EndsRuns conn closed files

  -- the disk of this connection has returned what was written to its files
  abbrev pub AreCleanOf : Held (FileStore D g) → Files D → Type 0
  AreCleanOf conn files = AreClean g files.log files.db

  -- a crash may turn its files into these
  abbrev pub MayBecome : Held (FileStore D g) → Files D → Image → Type 0
  MayBecome conn files image = outcomes g files.log files.db image

-- What became of files that weren't opened before, by the end of a job. Nobody opened them: an open uses up the value
-- that represents what they hold, and this is still that value. Or an open of them failed, and left them like this. Or
-- they were opened, and their connection has ended.
abbrev pub AreGivenBack : {S D : Type 0} → Ghosts D → Image → (start : S) → DatabaseFiles S D → Type 0
AreGivenBack g image start (Unopened value) = value ≡ start
AreGivenBack g image start (Failed fault) = FailsToOpen g image fault
AreGivenBack g image start Connected = ⊥
AreGivenBack g image start (Left files) = Unit {0}
