-- A database that was opened is ready for a job.
use Rattle.sqlite_disk.specs.declared.Disk.{Ghosts}
use Rattle.sqlite_store.specs.declared.store.FileStore.{FileStore}
use Rattle.sqlite.specs.Held.{Held, IsNew}
use Rattle.sqlite.specs.State.{HasCleanDisk}
use Rattle.sqlite.specs.Files.{file_state, over_files, IsOpened}
use Rattle.office_jobs.specs.Whole.{IsReady}

pub ready : {D : Type 0} {g : Ghosts D} (conn : Held (FileStore D g)) → IsNew conn
    → (HasCleanDisk (file_state conn) → IsOpened conn) → IsReady over_files conn
ready conn new opened = record {
  outside = new.autocommit;
  unlimited = new.unlimited;
  rests = λ clean. let opens = (opened clean).0 in (opens.is_open, (opens.autocommit, opens.clean));
}
