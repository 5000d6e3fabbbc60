-- How a run of the program ended.
use Rattle.std.proofs.Common.{sym, subst, Result, Ok, Err}
use Rattle.sqlite_disk.specs.declared.Disk.{Ghosts}
use Rattle.sqlite_disk.specs.declared.Files.{Files}
use Rattle.sqlite_wal.specs.Files.{outcomes}
use Rattle.sqlite_wal.specs.Reads.{AreClean}
use Rattle.sqlite_wal.proofs.LogLemmas.{SeenMayStay}
use Rattle.sqlite_pool.proofs.StateLemmas.{may_leave_is}
use Rattle.sqlite_store.specs.declared.store.FileStore.{FileStore}
use Rattle.sqlite.specs.Held.{Held}
use Rattle.files.specs.declared.ending.EndFault.{EndFault}
use Rattle.files.specs.declared.ending.EndFault.TheVariants.{GivenUp, Uncopied}
use Rattle.files.specs.Ending.{AreEnded}
use Rattle.restart.specs.Lives.{End}
use Rattle.restart.specs.Runs.{AreRuns}
use Rattle.restart.specs.Ending.{EndsRuns}
use Rattle.restart.proofs.Ended.{closed_runs, cut_runs}

-- a run that ended in one of these ways is a run of the program
pub ends_runs : {D : Type 0} {g : Ghosts D} → SeenMayStay g → (last : Held (FileStore D g)) (r : Result Unit EndFault)
    (files : Files D) → AreEnded last r files → EndsRuns last r files
ends_runs {D} {g} stays last (Ok done) files ended clean end is =
    let copied = ended.1 clean in (
      copied.was_clean,
      λ image asked opened found did.
          subst (λ (e : End). AreRuns image asked e (outcomes g files.log files.db)) (sym is)
          (closed_runs files image asked opened last found did copied),
    )
ends_runs {D} {g} stays last (Err (GivenUp error)) files ended clean end is =
    let it = (ended clean).given in (
      it.up.clean,
      λ image asked opened found did.
          subst (λ (e : End). AreRuns image asked e (outcomes g files.log files.db)) (sym is)
          (λ left may. cut_runs stays it.it image asked opened last found did it.up left
          (may_leave_is it.it.pool left (subst (λ (p : D × D). AreClean g p.0 p.1) (sym it.are_its) clean)
          (subst (λ (p : D × D). outcomes g p.0 p.1 left) (sym it.are_its) may))),
    )
ends_runs stays last (Err (Uncopied error)) files ended clean end is = absurd is
