use Rattle.rows.proofs.Wholes.{begun, not_begun}
use Rattle.guard_sql.proofs.keeping.keep_approvals.Goals as goal

pub insert_approvals-kept-requires-clause-opens : goal.insert_approvals-kept-requires-clause-opens
insert_approvals-kept-requires-clause-opens g c clean = (c.in-Ok.ensures.begins clean).1.is_open

pub returns-in-Ok : goal.returns-in-Ok
returns-in-Ok g c = begun c.in-Ok.ensures.begins c.begin.ensures.survives c.insert_approvals-kept.ensures
    c.conclude.ensures.concludes c.conclude.ensures.cause c.conclude.ensures.survives

pub returns-in-Err : goal.returns-in-Err
returns-in-Err g c = not_begun c.in-Err.ensures.begins c.in-Err.ensures.fault c.begin.ensures.survives
