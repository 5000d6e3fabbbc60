use Rattle.store_sql.proofs.KeyTables.{request_fails, put_request}
use Rattle.store_sql.proofs.CallLemmas.{wrote}
use Rattle.store_sql.proofs.requests.insert_request.Goals as goal

pub returns : goal.returns
returns g c =
    let ran = rw c.values.ensures at c.execute.ensures in
    wrote (put_request c.args.request.now) (request_fails c.args.request.now) c.execute.result c.done.result
    ran.runs ran.survives c.done.ensures.is
