use Rattle.store_sql.proofs.Selects.{found_sorted}
use Rattle.store_sql.proofs.KeyTables.{every_revoked}
use Rattle.store_sql.proofs.revoked.every_revoked.Goals as goal

pub returns : goal.returns
returns g c =
    let q = c.query_all.ensures in
    found_sorted every_revoked c.query_all.result q.ok q.err q.survives c.found.result c.found.ensures
