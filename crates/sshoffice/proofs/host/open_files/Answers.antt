use Rattle.sqlite_wal.specs.Files.{image_at}
use Rattle.sqlite.specs.State.{HasCleanDisk}
use Rattle.sqlite.specs.Files.{file_state}
use Rattle.restart.specs.Runs.{IsNewOn}
use Rattle.sshoffice.proofs.host.open_files.Goals as goal

pub returns-in-Ok-clause-ok : goal.returns-in-Ok-clause-ok
returns-in-Ok-clause-ok g c =
    let image = image_at g.S.Start in
    let new : HasCleanDisk (file_state c.in-Ok.conn) → IsNewOn image (file_state c.in-Ok.conn) = λ clean.
    let opened = c.in-Ok.ensures.opened clean in
    (opened.0, opened.1, c.in-Ok.ensures.new.unlimited, c.in-Ok.ensures.found clean) in
    record {
      new = c.in-Ok.ensures.new;
      opened = c.in-Ok.ensures.opened;
      found = c.in-Ok.ensures.found;
      told = λ clean. c.what_is_found_is_told.ensures.held image (new clean);
      former = λ clean. c.what_is_found_is_told.ensures.former image (new clean);
      blank = λ clean. c.what_is_found_is_told.ensures.blank image (new clean);
      plain = c.in-Ok.ensures.plain;
    }
