use Rattle.store_sql.proofs.Selects.{found_sorted}
use Rattle.store_sql.proofs.RunTable.{every}
use Rattle.store_sql.proofs.runs.every_run.Goals as goal

pub returns : goal.returns
returns g c =
    let q = c.query_all.ensures in
    found_sorted every c.query_all.result q.ok q.err q.survives c.found.result c.found.ensures
