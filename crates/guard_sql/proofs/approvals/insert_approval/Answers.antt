use Rattle.guard_sql.proofs.ApprovalTable.{approval_fails, put}
use Rattle.guard_sql.specs.Rows.{approval_row}
use Rattle.rows.proofs.CallLemmas.{wrote}
use Rattle.guard_sql.proofs.approvals.insert_approval.Goals as goal

pub returns : goal.returns
returns g c =
    let ran = rw c.values_of.ensures at c.execute.ensures in
    wrote (put (approval_row c.args.row.now)) (approval_fails (approval_row c.args.row.now) c.requires.0)
    c.execute.result c.done.result ran.runs ran.survives c.done.ensures.is
