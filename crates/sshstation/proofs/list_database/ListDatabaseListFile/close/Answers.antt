use Rattle.std.proofs.Common.{subst}
use Rattle.list_sql.specs.Runs.{EndsWell}
use Rattle.sshstation.proofs.list_database.ListDatabaseListFile.close.Goals as goal

pub returns : goal.returns
returns g c = (
  subst (λ conn. EndsWell conn c.end_path-ended.result.0 c.end_path-ended.result.1) c.into_connection-conn.ensures
      c.end_path-ended.ensures,
  c.of_ending-done.ensures,
)
