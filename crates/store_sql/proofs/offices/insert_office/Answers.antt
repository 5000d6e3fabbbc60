use Rattle.store_sql.proofs.OfficeTable.{office_fails, put}
use Rattle.store_sql.proofs.CallLemmas.{wrote}
use Rattle.store_sql.proofs.offices.insert_office.Goals as goal

pub returns : goal.returns
returns g c =
    let ran = rw c.values.ensures.is at c.execute.ensures in
    wrote (put c.args.office.now) (office_fails c.args.office.now c.values.ensures.low) c.execute.result
    c.done.result ran.runs ran.survives c.done.ensures.is
