use Rattle.store_sql.proofs.CallLemmas.{found_one}
use Rattle.store_sql.proofs.KeyTables.{find_request}
use Rattle.store_sql.proofs.requests.find_request.Goals as goal

pub returns : goal.returns
returns g c =
    let q = c.query_all.ensures in
    found_one (find_request c.args.caller.now c.args.key.now) c.query_all.result q.ok q.err q.survives
    c.found_first.result c.found_first.ensures
