use Rattle.guard_sql.specs.declared.approvals.ApprovalRow.{ApprovalRow}
use Rattle.guard_sql.specs.Contents.{IsFirstFrom, guard_tables}
use Rattle.guard_sql.proofs.ApprovalTable.{from}
use Rattle.rows.proofs.CallLemmas.{found_such}
use Rattle.guard_sql.proofs.Damaged.{says_first}
use Rattle.guard_sql.proofs.FirstFrom.{it_is}
use Rattle.guard_sql.proofs.approvals.first_approval_from.Goals as goal

pub returns-clause-reads : goal.returns-clause-reads
returns-clause-reads g c =
    let q = rw c.value_of.ensures.is at c.query_all.ensures in
    found_such guard_tables (from c.args.serial) c.query_all.result q.ok q.err q.survives
    (λ d. IsFirstFrom c.args.serial d.approved)
    (λ d trees h found is. it_is (λ (a : ApprovalRow). a.serial) c.args.serial d.approved found is)
    c.found_first.result c.found_first.ensures

pub returns-clause-says : goal.returns-clause-says
returns-clause-says g c =
    let q = rw c.value_of.ensures.is at c.query_all.ensures in
    says_first c.args.serial _ _ c.query_all.result q.ok q.err c.found_first.result c.found_first.ensures
