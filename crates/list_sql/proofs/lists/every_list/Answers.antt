use Rattle.list_sql.specs.Contents.{HasRows}
use Rattle.rows.proofs.CallLemmas.{found_in}
use Rattle.list_sql.proofs.ListTable.{every, known}
use Rattle.list_sql.proofs.lists.every_list.Goals as goal

pub returns : goal.returns
returns g c =
    let q = c.query_all.ensures in
    found_in every HasRows known c.query_all.result q.ok q.err q.survives c.found.result c.found.ensures
