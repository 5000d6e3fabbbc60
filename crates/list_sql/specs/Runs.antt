-- One run of a program that keeps a list guard: opening its two files, and ending the connection.
use Rattle.std.specs.Prelude.{Some, Result, Ok, Err}
use Rattle.sqlite_disk.specs.declared.Disk.{Ghosts}
use Rattle.sqlite_disk.specs.declared.Files.{Files}
use Rattle.sqlite_wal.specs.Recovery.{Image}
use Rattle.sqlite_wal.specs.Files.{outcomes}
use Rattle.sqlite_wal.specs.Reads.{AreClean}
use Rattle.sqlite_store.specs.declared.store.FileStore.{FileStore}
use Rattle.sqlite.specs.Start.{FindsIn}
use Rattle.sqlite.specs.State.{State as Connection, HasCleanDisk, IsLive, Opens}
use Rattle.sqlite.specs.Held.{Held}
use Rattle.sqlite.specs.Files.{file_state}
use Rattle.sqlite.specs.Closing.{IsCopied}
use Rattle.list_guard.specs.State.{State}
use Rattle.list_sql.specs.Contents.{Kept}
use Rattle.list_sql.specs.Keeping.{HasList, IsBlank, Keeps, Leaves}
use Rattle.list_sql.specs.Rows.{list_contents}
use Rattle.files.specs.declared.ending.EndFault.{EndFault}
use Rattle.files.specs.declared.ending.EndFault.TheVariants.{GivenUp, Uncopied}
use Rattle.files.specs.Ending.{AreClosed, AreGivenUp}
use Rattle.files.specs.Images.{HoldsNone}
use Rattle.list_sql.specs.Images.{HoldsList, HoldsOneOf}
use Rattle.list_sql.specs.Lives.{GoesOn, IsRun, Said}

-- ---- the open

-- a new connection has each list guard whose rows its trees hold
abbrev pub FoundIsHad : Connection → Type 0
FoundIsHad c = Opens c → IsLive c → (s : State) → Kept c.committed.trees (list_contents s) → HasList s c

-- a connection is new, and has the database that these files held
abbrev pub IsNewOn : Image → Connection → Type 0
IsNewOn image c = Opens c × IsLive c × FindsIn image c

-- a connection has each list guard that the files held
abbrev pub HasWhatIsHeld : Image → Connection → Type 0
HasWhatIsHeld image c = (s : State) → HoldsList image s → HasList s c

-- a connection has no table if the files held no list guard
abbrev pub IsBlankIfNone : Image → Connection → Type 0
IsBlankIfNone image c = HoldsNone image → IsBlank c

-- so it is for whatever files a new connection has the database of
abbrev pub HeldIsHad : Connection → Type 0
HeldIsHad c = (image : Image) → IsNewOn image c → HasWhatIsHeld image c

abbrev pub NoneIsBlank : Connection → Type 0
NoneIsBlank c = (image : Image) → IsNewOn image c → IsBlankIfNone image c

-- ---- the end

-- whatever a crash makes of the files, they hold the list guard that was kept
abbrev pub LeavesWhatIsKept : {D : Type 0} → Ghosts D → Connection → Files D → Type 0
LeavesWhatIsKept g c files =
    (s : State) → Keeps c s → (image : Image) → outcomes g files.log files.db image → HoldsList image s

-- whatever a crash leaves, the files hold one of the two list guards that a crash could leave before
abbrev pub LeavesOneOf : Connection → (Image → Type 0) → Type 0
LeavesOneOf c may_leave =
    (s t : State) → Leaves c s t → (image : Image) → may_leave image → HoldsOneOf image s t

-- How a connection ended, if its disk has been faithful. It was closed, and the last commit is in the database file
-- alone, so whatever a crash makes of the files, they hold the list guard that was kept. Or it was abandoned, for an
-- error that has its cause, and they hold one of the two list guards that a crash could leave before. If its log
-- couldn't be copied, a crash leaves nothing that it couldn't leave before, and the error has its cause.
abbrev pub EndsWell : {D : Type 0} {g : Ghosts D} → Held (FileStore D g) → Result (Unit {0}) EndFault → Files D
    → Type 0
EndsWell {D} {g} conn (Ok done) files =
    AreClean g files.log files.db → IsCopied conn files × LeavesWhatIsKept g (file_state conn) files
EndsWell {D} {g} conn (Err (GivenUp error)) files =
    AreClean g files.log files.db
    → HasCleanDisk (file_state conn) × LeavesOneOf (file_state conn) (outcomes g files.log files.db)
    × AreGivenUp conn error files
EndsWell {D} {g} conn (Err (Uncopied error)) files = AreClosed conn (Some error) files

-- ---- the whole run

-- whatever a crash makes of what is left, this was a run of a program that keeps a list guard
abbrev pub AreRuns : Image → Said → (Image → Type 0) → Type 0
AreRuns image said may_leave = (left : Image) → may_leave left
    → IsRun (record { found = image; said = said; left = left })

-- It was such a run, and a further one after any runs that left the files as it found them.
pub record RunsOn (image : Image) (said : Said) (may_leave : Image → Type 0) : Type 0 where
  pub runs : AreRuns image said may_leave
  pub goes_on : (left : Image) → may_leave left → GoesOn (record { found = image; said = said; left = left })
