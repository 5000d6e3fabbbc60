use Rattle.rows.proofs.CallLemmas.{wrote}
use Rattle.list_sql.proofs.ListTable.{list_fails, put}
use Rattle.list_sql.proofs.lists.insert_list.Goals as goal

pub returns : goal.returns
returns g c =
    let ran = rw c.values.ensures.is at c.execute.ensures in
    wrote (put c.args.list.now) (list_fails c.args.list.now c.values.ensures.low) c.execute.result c.done.result ran.runs
    ran.survives c.done.ensures.is
