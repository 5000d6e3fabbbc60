use Rattle.store_sql.proofs.OfficeTable.{number_fails, number}
use Rattle.store_sql.proofs.CallLemmas.{wrote}
use Rattle.store_sql.proofs.offices.update_schema.Goals as goal

pub returns : goal.returns
returns g c =
    let ran = rw c.value.ensures.is at c.execute.ensures in
    wrote (number c.args.schema) (number_fails c.args.schema) c.execute.result c.done.result ran.runs
    ran.survives c.done.ensures.is
