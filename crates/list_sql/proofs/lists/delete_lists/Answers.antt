use Rattle.rows.proofs.CallLemmas.{wrote}
use Rattle.list_sql.proofs.ListTable.{delete, delete_fails}
use Rattle.list_sql.proofs.lists.delete_lists.Goals as goal

pub returns : goal.returns
returns g c =
    let ran = c.execute.ensures in
    wrote delete delete_fails c.execute.result c.done.result ran.runs ran.survives c.done.ensures.is
