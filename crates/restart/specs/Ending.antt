-- How a run ended, by the result of ending its connection to files.
use Rattle.std.specs.Prelude.{◌≡◌, Result, Ok, Err}
use Rattle.sqlite_disk.specs.declared.Disk.{Ghosts}
use Rattle.sqlite_disk.specs.declared.Files.{Files}
use Rattle.sqlite_wal.specs.Recovery.{Image}
use Rattle.sqlite_wal.specs.Files.{outcomes}
use Rattle.sqlite_wal.specs.Reads.{AreClean}
use Rattle.sqlite_store.specs.declared.store.FileStore.{FileStore}
use Rattle.sqlite.specs.State.{HasCleanDisk}
use Rattle.sqlite.specs.Held.{Held}
use Rattle.sqlite.specs.Files.{file_state, over_files}
use Rattle.files.specs.declared.ending.EndFault.{EndFault}
use Rattle.files.specs.declared.ending.EndFault.TheVariants.{GivenUp, Uncopied}
use Rattle.restart.specs.Lives.{Asked, End}
use Rattle.restart.specs.Lives.End.{closed, cut}
use Rattle.restart.specs.Runs.{AreRuns, DoesOver, IsFound}

-- how a run with this result ended; an uncopied log is neither end
abbrev pub IsEnd : Result (Unit {0}) EndFault → End → Type 0
IsEnd (Ok done) end = end ≡ closed
IsEnd (Err (GivenUp error)) end = end ≡ cut
IsEnd (Err (Uncopied error)) end = ⊥

-- If the run ended so and its disk has been faithful, the disk was faithful before the end, too. And a run over this
-- connection that found files and did what it was asked is a run of the program that ended so.
abbrev pub EndsRuns : {D : Type 0} {g : Ghosts D} → Held (FileStore D g) → Result (Unit {0}) EndFault → Files D
    → Type 0
EndsRuns {D} {g} last result files =
    AreClean g files.log files.db → (end : End) → IsEnd result end
    → HasCleanDisk (file_state last)
    × ((image : Image) (asked : Asked) (opened : Held (FileStore D g))
    → (HasCleanDisk (file_state opened) → IsFound image opened) → DoesOver over_files asked opened last
    → AreRuns image asked end (outcomes g files.log files.db))
