use Rattle.guard_sql.proofs.ApprovalTable.{find}
use Rattle.rows.proofs.CallLemmas.{found_one}
use Rattle.guard_sql.proofs.Damaged.{says}
use Rattle.guard_sql.proofs.approvals.find_approval.Goals as goal
use Rattle.guard_sql.specs.Contents.{guard_tables}

pub returns-clause-reads : goal.returns-clause-reads
returns-clause-reads g c =
    let q = rw c.value_of.ensures.is at c.query_all.ensures in
    found_one guard_tables (find c.args.serial) c.query_all.result q.ok q.err q.survives c.found_first.result
    c.found_first.ensures

pub returns-clause-says : goal.returns-clause-says
returns-clause-says g c =
    let q = rw c.value_of.ensures.is at c.query_all.ensures in
    says c.args.serial _ _ c.query_all.result q.ok q.err c.found_first.result c.found_first.ensures
