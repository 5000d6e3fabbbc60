-- One run of a program that keeps a guard, from the two files that it finds to those that it leaves.
use Rattle.std.specs.Prelude.{IsTrue, Some, Result, Ok, Err}
use Rattle.sqlite_disk.specs.declared.Disk.{Ghosts}
use Rattle.sqlite_disk.specs.declared.Files.{Files}
use Rattle.sqlite_wal.specs.Recovery.{Image}
use Rattle.sqlite_wal.specs.Files.{outcomes}
use Rattle.sqlite_wal.specs.Reads.{AreClean}
use Rattle.sqlite_store.specs.declared.store.FileStore.{FileStore}
use Rattle.sqlite.specs.Start.{FindsIn}
use Rattle.sqlite.specs.State.{State as Connection, HasCleanDisk, IsLive, Opens}
use Rattle.sqlite.specs.Held.{Held}
use Rattle.sqlite.specs.Files.{file_state}
use Rattle.sqlite.specs.Closing.{IsCopied}
use Rattle.guard.specs.History.{IsStill}
use Rattle.guard.specs.State.{State}
use Rattle.guard_sql.specs.Contents.{Kept}
use Rattle.guard_sql.specs.Keeping.{HasGuard, IsBlank, IsGuard, Keeps, Leaves}
use Rattle.guard_sql.specs.Rows.{guard_contents}
use Rattle.files.specs.declared.ending.EndFault.{EndFault}
use Rattle.files.specs.declared.ending.EndFault.TheVariants.{GivenUp, Uncopied}
use Rattle.files.specs.Ending.{AreClosed, AreGivenUp}
use Rattle.files.specs.Images.{HoldsNone}
use Rattle.guard_sql.specs.Images.{Holds, HoldsGuard, HoldsOneOf, Standing}
use Rattle.guard_sql.specs.Lives.{GoesOn, IsRun, Said, SomeRun}
use Rattle.guard_sql.specs.Steps.{Step}

-- ---- the open

-- a connection that was just opened has each guard whose rows its trees hold
abbrev pub FoundIsHad : Connection → Type 0
FoundIsHad c = Opens c → IsLive c → (s : State) → Kept c.committed.trees (guard_contents s) → HasGuard s c

-- a connection was just opened, and has the database that these files held
abbrev pub IsNewOn : Image → Connection → Type 0
IsNewOn image c = Opens c × IsLive c × FindsIn image c

-- the connection has each guard that the files held
abbrev pub HasWhatIsHeld : Image → Connection → Type 0
HasWhatIsHeld image c = (s : State) → HoldsGuard image s → HasGuard s c

-- the connection is blank if the files held no row
abbrev pub IsBlankIfNone : Image → Connection → Type 0
IsBlankIfNone image c = HoldsNone image → IsBlank c

-- so it is for whatever files a connection that was just opened has the database of
abbrev pub HeldIsHad : Connection → Type 0
HeldIsHad c = (image : Image) → IsNewOn image c → HasWhatIsHeld image c

abbrev pub NoneIsBlank : Connection → Type 0
NoneIsBlank c = (image : Image) → IsNewOn image c → IsBlankIfNone image c

-- ---- the end

-- whatever a crash makes of the files, they hold the guard that was kept
abbrev pub LeavesWhatIsKept : {D : Type 0} → Ghosts D → Connection → Files D → Type 0
LeavesWhatIsKept g c files =
    (s : State) → Keeps c s → (image : Image) → outcomes g files.log files.db image → HoldsGuard image s

-- so they do if their disk has been faithful
abbrev pub ClosesWell : {D : Type 0} {g : Ghosts D} → Held (FileStore D g) → Files D → Type 0
ClosesWell {D} {g} conn files = AreClean g files.log files.db → LeavesWhatIsKept g (file_state conn) files

-- whatever a crash leaves, the files hold one of the two guards that a crash left
abbrev pub LeavesOneOf : Connection → (Image → Type 0) → Type 0
LeavesOneOf c may_leave =
    (s t : State) → Leaves c s t → (image : Image) → may_leave image → HoldsOneOf image s t

-- How the connection ended, if its disk has been faithful: it was closed, and the last commit is in the database file
-- alone, so whatever a crash makes of the files, they hold the guard that was kept. Or it was abandoned, for an error
-- that has its cause, and they hold one of the two guards that a crash left. If its log couldn't be copied, a crash
-- leaves nothing that it couldn't leave before, and the error has its cause.
abbrev pub EndsWell : {D : Type 0} {g : Ghosts D} → Held (FileStore D g) → Result (Unit {0}) EndFault → Files D
    → Type 0
EndsWell {D} {g} conn (Ok done) files =
    AreClean g files.log files.db → IsCopied conn files × LeavesWhatIsKept g (file_state conn) files
EndsWell {D} {g} conn (Err (GivenUp error)) files =
    AreClean g files.log files.db
    → HasCleanDisk (file_state conn) × LeavesOneOf (file_state conn) (outcomes g files.log files.db)
    × AreGivenUp conn error files
EndsWell {D} {g} conn (Err (Uncopied error)) files = AreClosed conn (Some error) files

-- ---- the whole run

-- If the files held a guard, everything that may be left holds a guard that still has each approved body.
abbrev pub KeepsGuard : Image → (Image → Type 0) → Type 0
KeepsGuard image may_leave =
    (s : State) → IsGuard s → HoldsGuard image s
    → (t : State) × IsGuard t × IsStill s t × ((after : Image) → may_leave after → HoldsGuard after t)

-- What was done between the open and the close: a disk that is clean at the end was clean, and a connection that is
-- still open keeps each guard that it had, perhaps with more bodies.
abbrev pub Extends : {D : Type 0} {g : Ghosts D} → (opened last : Held (FileStore D g)) → Type 0
Extends opened last =
    HasCleanDisk (file_state last) → HasCleanDisk (file_state opened)
    × (IsTrue (file_state last).is_open → (s : State) → IsGuard s → HasGuard s (file_state opened)
    → (t : State) × IsStill s t × Keeps (file_state last) t)

-- a run that opened the files, did only that and closed well keeps the guard
abbrev pub RunKeepsGuard : {D : Type 0} (g : Ghosts D) → Files D → Type 0
RunKeepsGuard {D} g files =
    (image : Image) (opened last : Held (FileStore D g))
    → (HasCleanDisk (file_state opened) → HasWhatIsHeld image (file_state opened)) → Extends opened last
    → IsCopied last files → KeepsGuard image (outcomes g files.log files.db)

-- From these files on, whichever guard they hold, this is a run of a program that keeps a guard, with steps of this
-- sort, whatever a crash makes of the files that are left.
abbrev pub AreRuns : Image → (May : Step → Type 0) → Said → (Image → Type 0) → Type 0
AreRuns image May said may_leave =
    (left : Image) → may_leave left → (before : Standing) → Holds image before
    → SomeRun image May said left (IsRun before)

-- Whatever a crash makes of the files that are left, it is a run of the program, and extends each lifetime that left
-- the files that it found.
pub record RunsOn (image : Image) (May : Step → Type 0) (said : Said) (may_leave : Image → Type 0) : Type 0 where
  pub runs : AreRuns image May said may_leave
  pub goes_on : (left : Image) → may_leave left → GoesOn image May said left

-- ---- the next run

-- If the files that the next run finds are among those that the last one may have left, its connection has the guard
-- that all of these hold.
abbrev pub HasAfter : (Image → Type 0) → Image → Connection → Type 0
HasAfter may_leave image c =
    may_leave image → (s : State) → ((after : Image) → may_leave after → HoldsGuard after s) → HasGuard s c

-- so it is for each connection that was just opened
abbrev pub LeftIsHad : (Image → Type 0) → Connection → Type 0
LeftIsHad may_leave c = (image : Image) → IsNewOn image c → HasAfter may_leave image c
