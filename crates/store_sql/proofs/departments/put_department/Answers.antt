use Rattle.store_sql.proofs.DepartmentReasons.{department_fails}
use Rattle.store_sql.proofs.CallLemmas.{wrote}
use Rattle.store_sql.proofs.DepartmentUpsert.{put}
use Rattle.store_sql.proofs.departments.put_department.Goals as goal

pub returns : goal.returns
returns g c =
    let ran = rw c.values.ensures at c.execute.ensures in
    wrote (put c.args.department.now) (department_fails c.args.department.now) c.execute.result c.done.result
    ran.runs ran.survives c.done.ensures.is
