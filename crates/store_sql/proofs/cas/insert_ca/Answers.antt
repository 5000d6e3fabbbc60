use Rattle.store_sql.proofs.CaTable.{ca_fails, put}
use Rattle.store_sql.proofs.CallLemmas.{wrote}
use Rattle.store_sql.proofs.cas.insert_ca.Goals as goal

pub returns : goal.returns
returns g c =
    let ran = rw c.values.ensures.is at c.execute.ensures in
    wrote (put c.args.ca.now) (ca_fails c.args.ca.now c.values.ensures.low) c.execute.result c.done.result
    ran.runs ran.survives c.done.ensures.is
