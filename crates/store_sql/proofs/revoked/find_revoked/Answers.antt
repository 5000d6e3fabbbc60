use Rattle.store_sql.proofs.CallLemmas.{found_one}
use Rattle.store_sql.proofs.KeyTables.{find_revoked}
use Rattle.store_sql.proofs.revoked.find_revoked.Goals as goal

pub returns : goal.returns
returns g c =
    let q = c.query_all.ensures in
    found_one (find_revoked c.args.key_id.now) c.query_all.result q.ok q.err q.survives c.found_first.result
    c.found_first.ensures
