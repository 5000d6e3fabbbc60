use Rattle.std.proofs.Common.{ap, arith}
use Rattle.std.specs.List.{list_any}
use Rattle.sqlite_wal.specs.Files.{image_at}
use Rattle.list_sql.specs.Look.{is_list_name}
use Rattle.sshstation.proofs.Kept.{is_no_fault}
use Rattle.sshstation.proofs.Unopened.{by_test, conn_of, tables_of}
use Rattle.sshstation.proofs.UnopenedLists.{holds_or_begins}
use Rattle.sshstation.proofs.list_database.make_over.Goals as goal

pub init-requires-clause-outside : goal.init-requires-clause-outside
init-requires-clause-outside g c = c.requires.new.autocommit

pub init-requires-clause-unlimited : goal.init-requires-clause-unlimited
init-requires-clause-unlimited g c = c.requires.new.unlimited

pub returns-in-Ok-clause-made : goal.returns-in-Ok-clause-made
returns-in-Ok-clause-made g c = (
  record {
    conn = c.args.conn;
    files = c.requires;
    right = λ full.
        by_test (list_any is_list_name (tables_of c.args.conn))
        (λ named. is_no_fault _ _ (c.in-Ok.ensures.already named))
        (λ unnamed. is_no_fault _ _ (c.in-Ok.ensures.foreign unnamed full));
    honest = λ clean. omega (arith, c.in-Ok.ensures.crash.clean, clean);
    found = c.in-Ok.ensures.made;
  },
  c.in-Ok.ensures.last,
)

pub returns-in-Err-clause-left : goal.returns-in-Err-clause-left
returns-in-Err-clause-left g c = record {
  conn = c.args.conn;
  last = c.in-Err.conn;
  files = c.requires;
  fault = c.in-Err.fault;
  is = c.unopened_fault.ensures;
  leaves = c.abandoned-files.ensures.leaves;
  honest = λ clean. omega (arith, c.in-Err.ensures.crash_back.clean, clean);
  caused = λ clean. (c.in-Err.ensures.cause, c.in-Err.ensures.none clean);
  holds = holds_or_begins c.abandoned-files.ensures.settles (image_at g.S.Start) c.args.conn c.in-Err.conn c.requires
      c.in-Err.ensures.crash_back (λ full.
      by_test (list_any is_list_name (tables_of c.args.conn))
      (λ named. ap (conn_of c.args.conn) (c.in-Err.ensures.already named))
      (λ unnamed. ap (conn_of c.args.conn) (c.in-Err.ensures.foreign unnamed full)))
      c.abandoned-files.result c.abandoned-files.ensures.leaves;
}
