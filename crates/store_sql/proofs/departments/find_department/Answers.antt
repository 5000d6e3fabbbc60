use Rattle.store_sql.proofs.CallLemmas.{found_one}
use Rattle.store_sql.proofs.DepartmentUpsert.{find}
use Rattle.store_sql.proofs.departments.find_department.Goals as goal

pub returns : goal.returns
returns g c =
    let q = c.query_all.ensures in
    found_one (find c.args.name.now) c.query_all.result q.ok q.err q.survives c.found_first.result
    c.found_first.ensures
