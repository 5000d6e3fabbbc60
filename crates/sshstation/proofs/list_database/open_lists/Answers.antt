use Rattle.sqlite_wal.specs.Files.{image_at}
use Rattle.sqlite.specs.State.{HasCleanDisk}
use Rattle.sqlite.specs.Files.{file_state}
use Rattle.list_sql.specs.Runs.{IsNewOn}
use Rattle.sshstation.proofs.list_database.open_lists.Goals as goal

pub returns-in-Ok-clause-ok : goal.returns-in-Ok-clause-ok
returns-in-Ok-clause-ok g c =
    let image = image_at g.S.Start in
    let new : HasCleanDisk (file_state c.in-Ok.found) → IsNewOn image (file_state c.in-Ok.found) = λ clean.
    let opened = c.in-Ok.ensures.opened clean in
    (opened.0, opened.1, c.in-Ok.ensures.found clean) in
    record {
      new = c.in-Ok.ensures.new;
      opened = c.in-Ok.ensures.opened;
      found = c.in-Ok.ensures.found;
      held = λ clean. c.what_is_found_is_had.ensures.held image (new clean);
      blank = λ clean. c.what_is_found_is_had.ensures.blank image (new clean);
    }
