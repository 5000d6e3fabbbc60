use Rattle.store_sql.proofs.OfficeTable.{counters_fail, count}
use Rattle.store_sql.proofs.CallLemmas.{wrote}
use Rattle.store_sql.proofs.offices.update_office.Goals as goal

pub returns : goal.returns
returns g c =
    let ran = rw c.values.ensures at c.execute.ensures in
    wrote (count c.args.counters.now) (counters_fail c.args.counters.now) c.execute.result c.done.result
    ran.runs ran.survives c.done.ensures.is
