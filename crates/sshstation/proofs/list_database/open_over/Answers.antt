use Rattle.std.proofs.Common.{◌∙◌, ap}
use Rattle.std.specs.List.{list_any}
use Rattle.sqlite_wal.specs.Files.{image_at}
use Rattle.sqlite.specs.Schema.{Schema}
use Rattle.list_sql.specs.Look.{is_list_table, none_is_list}
use Rattle.sshstation.proofs.Kept.{is_no_fault}
use Rattle.sshstation.proofs.UnopenedLists.{holds_again}
use Rattle.sshstation.proofs.list_database.open_over.Goals as goal

pub open-requires-clause-outside : goal.open-requires-clause-outside
open-requires-clause-outside g c = c.requires.new.autocommit

pub open-requires-clause-unlimited : goal.open-requires-clause-unlimited
open-requires-clause-unlimited g c = c.requires.new.unlimited

pub returns-in-Ok-clause-found : goal.returns-in-Ok-clause-found
returns-in-Ok-clause-found g c = record {
  conn = c.args.conn;
  files = c.requires;
  right = λ blank.
      let seen = ap (λ (s : Schema). list_any is_list_table s.tables) blank.now.0 ∙ none_is_list in
      is_no_fault _ _ (c.in-Ok.ensures.none seen);
  honest = c.in-Ok.ensures.honest;
  found = c.in-Ok.ensures.opened;
}

pub returns-in-Err-clause-left : goal.returns-in-Err-clause-left
returns-in-Err-clause-left g c = record {
  conn = c.args.conn;
  last = c.in-Err.found;
  files = c.requires;
  fault = c.in-Err.fault;
  is = c.unopened_fault.ensures;
  leaves = c.abandoned-files.ensures.leaves;
  honest = c.in-Err.ensures.honest_back;
  caused = λ clean. (c.in-Err.ensures.refused clean, c.in-Err.ensures.missed clean);
  holds = holds_again c.abandoned-files.ensures.settles (image_at g.S.Start) c.args.conn c.in-Err.found c.requires
      c.abandoned-files.result c.abandoned-files.ensures.leaves c.in-Err.ensures.crash_back;
}
