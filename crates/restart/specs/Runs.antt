-- One run of the program, from the two files that it finds to those that it leaves.
use Rattle.std.specs.Prelude.{◌≡◌, ◌⊎◌, List, [], ◌++◌, IsTrue, Option, None, Some}
use Rattle.sqlite_disk.specs.declared.Disk.{Ghosts}
use Rattle.sqlite_disk.specs.declared.Files.{Files}
use Rattle.sqlite_wal.specs.Recovery.{Image}
use Rattle.sqlite_wal.specs.Files.{outcomes}
use Rattle.sqlite_wal.specs.Reads.{AreClean}
use Rattle.sqlite_trees.specs.Tree.{Trees}
use Rattle.sqlite_trees.specs.declared.store.Store as tables
use Rattle.sqlite_store.specs.declared.store.FileStore.{FileStore}
use Rattle.sqlite_store.specs.FileStore as store
use Rattle.sqlite.specs.Start.{FindsIn}
use Rattle.sqlite.specs.State.{State, HasCleanDisk, IsLive, Opens}
use Rattle.sqlite.specs.Held.{Held, state}
use Rattle.sqlite.specs.Files.{file_state, over_files, IsOpened}
use Rattle.sqlite.specs.Closing.{IsCopied}
use Rattle.office.specs.declared.opening.Opening.{Opening}
use Rattle.office.specs.declared.arrival.Arrival.{Arrival}
use Rattle.store_sql.specs.Contents.{Kept}
use Rattle.store.specs.Rows.{office_contents}
use Rattle.store.specs.Transactions.{IsAsBefore}
use Rattle.store.specs.Former.{TellsBefore}
use Rattle.store.specs.Meaning.{IsBlank, IsHistory, Stores, Tells}
use Rattle.web.specs.Runs.{AllDue}
use Rattle.files.specs.Ending.{IsGivenUp}
use Rattle.files.specs.Images.{HoldsNone}
use Rattle.restart.specs.Images.{HoldsAtLeast, HoldsFormer, HoldsOffice}
use Rattle.restart.specs.Lives.{Asked, End, GivesNone, GoesOn, IsRun}
use Rattle.restart.specs.Lives.End.{closed, cut}

-- ---- the open

-- a newly opened connection represents each history whose rows its trees hold
abbrev pub FoundIsTold : State → Type 0
FoundIsTold s =
    Opens s → IsLive s → s.step_limit ≡ None
    → (o : Opening) (l : List Arrival) → IsHistory o l → Kept s.committed.trees (office_contents o l) → Tells s o l

-- a connection was newly opened, and has the database that these files held
abbrev pub IsNewOn : Image → State → Type 0
IsNewOn image s = Opens s × IsLive s × (s.step_limit ≡ None) × FindsIn image s

-- it represents each history whose office the files held
abbrev pub TellsWhatIsHeld : Image → State → Type 0
TellsWhatIsHeld image s = (o : Opening) (l : List Arrival) → HoldsOffice image o l → Tells s o l

-- it represents in schema 1 each history whose office the files held in schema 1
abbrev pub TellsFormer : Image → State → Type 0
TellsFormer image s = (o : Opening) (l : List Arrival) → HoldsFormer image o l → TellsBefore s o l

-- it is blank if the files held no office
abbrev pub IsBlankIfNone : Image → State → Type 0
IsBlankIfNone image s = HoldsNone image → IsBlank s

-- so it is for whatever files a newly opened connection has the database of
abbrev pub HeldIsTold : State → Type 0
HeldIsTold s = (image : Image) → IsNewOn image s → TellsWhatIsHeld image s

abbrev pub FormerIsTold : State → Type 0
FormerIsTold s = (image : Image) → IsNewOn image s → TellsFormer image s

abbrev pub NoneIsBlank : State → Type 0
NoneIsBlank s = (image : Image) → IsNewOn image s → IsBlankIfNone image s

-- all of this, for a connection to files whose disk has been faithful
pub record IsFound {D : Type 0} {g : Ghosts D} (image : Image) (conn : Held (FileStore D g)) : Type 0 where
  pub opened : IsOpened conn
  pub told : TellsWhatIsHeld image (file_state conn)
  pub blank : IsBlankIfNone image (file_state conn)

-- ---- the end

-- whatever a crash makes of the files, they hold the office of the history that was represented
abbrev pub LeavesWhatIsTold : {D : Type 0} → Ghosts D → State → Files D → Type 0
LeavesWhatIsTold g s files =
    (o : Opening) (l : List Arrival) → Tells s o l → (image : Image) → outcomes g files.log files.db image
    → HoldsOffice image o l

-- the same, if their disk has been faithful
abbrev pub ClosesWell : {D : Type 0} {g : Ghosts D} → Held (FileStore D g) → Files D → Type 0
ClosesWell {D} {g} conn files = AreClean g files.log files.db → LeavesWhatIsTold g (file_state conn) files

-- whatever a crash leaves, the files hold the office of the history that was represented, or it after one more request
abbrev pub LeavesAtLeast : State → (Image → Type 0) → Type 0
LeavesAtLeast s may_leave =
    (o : Opening) (l : List Arrival) → Tells s o l → (image : Image) → may_leave image → HoldsAtLeast image o l

-- ---- the whole run

-- If the files held an office, all files that may be left hold that office, and no received request is lost.
abbrev pub KeepsOffice : Image → (Image → Type 0) → Type 0
KeepsOffice image may_leave =
    (o : Opening) (l : List Arrival) → HoldsOffice image o l
    → (more : List Arrival) × ((after : Image) → may_leave after → HoldsOffice after o (l ++ more))

-- each history that was represented still is, with any number of requests added
abbrev pub AddsArrivals : State → State → Type 0
AddsArrivals old new =
    (o : Opening) (l : List Arrival) → Tells old o l → (more : List Arrival) × Tells new o (l ++ more)

-- Everything done between the open and the close: a disk that is faithful at the end was so at the open, and then a
-- connection that is still open represents each history that was represented, with any number of requests added.
abbrev pub Extends : {D : Type 0} {g : Ghosts D} → (opened last : Held (FileStore D g)) → Type 0
Extends opened last =
    HasCleanDisk (file_state last) → HasCleanDisk (file_state opened)
    × (IsTrue (file_state last).is_open → AddsArrivals (file_state opened) (file_state last))

-- a run that opened the files, did this and closed them cleanly keeps the office
abbrev pub RunKeepsOffice : {D : Type 0} (g : Ghosts D) → Files D → Type 0
RunKeepsOffice {D} g files =
    (image : Image) (opened last : Held (FileStore D g))
    → (HasCleanDisk (file_state opened) → TellsWhatIsHeld image (file_state opened)) → Extends opened last
    → IsCopied last files → KeepsOffice image (outcomes g files.log files.db)

-- ---- the specification of a run

-- the office that had to be created is durably represented, and no request has been received since
abbrev pub IsFounded : Option Opening → State → Type 0
IsFounded founds s = (o : Opening) × (founds ≡ Some o) × Stores s o []

-- trees with all rows of the office that had to be created
abbrev pub AreFounded : Option Opening → Trees → Type 0
AreFounded founds trees =
    (o : Opening) × (founds ≡ Some o) × IsHistory o [] × Kept trees (office_contents o [])

-- The database is as it was, unless a failed disk has shut the connection. A crash leaves what it could leave before,
-- or the whole office that had to be created.
pub record IsUnfounded (founds : Option Opening) (opened last : State) : Type 0 where
  pub before : IsAsBefore opened last
  pub crash : (trees : Trees) → last.may_leave trees → opened.may_leave trees ⊎ AreFounded founds trees

-- Everything done over the connection: an office that it represented is represented with the requests of the exchanges,
-- each of which was given the specified response, or a fault. Over a database without tables no response was given, and
-- the office that had to be created was created or not.
pub record Does (asked : Asked) (opened last : State) : Type 0 where
  pub office : (o : Opening) (l : List Arrival) → Tells opened o l → (after : List Arrival)
      × AllDue o l asked.exchanges asked.given after × Tells last o after
  pub none : IsBlank opened → GivesNone asked
      × (IsFounded asked.founds last ⊎ IsUnfounded asked.founds opened last)

-- if the disk has been faithful, it was so before, and this was done
abbrev pub DoesOver : {S : Type 0} → tables.Ghosts S → Asked → (opened last : Held S) → Type 0
DoesOver g asked opened last =
    HasCleanDisk (state g last) → HasCleanDisk (state g opened) × Does asked (state g opened) (state g last)

-- on these files, this was a run of the program that ended so, whatever a crash makes of the files left
abbrev pub AreRuns : Image → Asked → End → (Image → Type 0) → Type 0
AreRuns image asked end may_leave = (left : Image) → may_leave left
    → IsRun (record { found = image; asked = asked; end = end; left = left })

-- A run's input and output, of which this holds, and how it ended. Whatever a crash makes of the files left, it is a
-- run of the program, and extends each lifetime that has left the files that it found.
pub record RunsOn (Gave : Asked → Type 0) (image : Image) (end : End) (may_leave : Image → Type 0) : Type 0 where
  pub asked : Asked
  pub gave : Gave asked
  pub runs : AreRuns image asked end may_leave
  pub goes_on : (left : Image) → may_leave left
      → GoesOn (record { found = image; asked = asked; end = end; left = left })

-- a run that found these files, did this and closed them cleanly
abbrev pub ClosedRuns : {D : Type 0} (g : Ghosts D) → Files D → Type 0
ClosedRuns {D} g files =
    (image : Image) (asked : Asked) (opened last : Held (FileStore D g))
    → (HasCleanDisk (file_state opened) → IsFound image opened) → DoesOver over_files asked opened last
    → IsCopied last files
    → AreRuns image asked closed (outcomes g files.log files.db)

-- a run that found these files, did this, and whose connection was abandoned
abbrev pub CutRuns : {D : Type 0} (g : Ghosts D) → FileStore D g → Type 0
CutRuns {D} g it =
    (image : Image) (asked : Asked) (opened last : Held (FileStore D g))
    → (HasCleanDisk (file_state opened) → IsFound image opened) → DoesOver over_files asked opened last
    → IsGivenUp last it
    → AreRuns image asked cut (store.state it).may_leave

-- ---- the next run

-- If the files that the next run finds are among those that the last one may have left, it represents the history that
-- all of these hold.
abbrev pub TellsAfter : (Image → Type 0) → Image → State → Type 0
TellsAfter may_leave image s =
    may_leave image → (o : Opening) (l : List Arrival) → ((after : Image) → may_leave after → HoldsOffice after o l)
    → Tells s o l

-- so it is for each newly opened connection
abbrev pub LeftIsTold : (Image → Type 0) → State → Type 0
LeftIsTold may_leave s = (image : Image) → IsNewOn image s → TellsAfter may_leave image s
