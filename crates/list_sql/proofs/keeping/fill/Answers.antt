use Rattle.rows.proofs.Wholes.{begun, not_begun}
use Rattle.list_sql.proofs.keeping.fill.Goals as goal

pub returns-in-Ok : goal.returns-in-Ok
returns-in-Ok g c = begun c.in-Ok.ensures.begins c.begin.ensures.survives c.replace-filled.ensures
    c.conclude.ensures.concludes c.conclude.ensures.cause c.conclude.ensures.survives

pub returns-in-Err : goal.returns-in-Err
returns-in-Err g c = not_begun c.in-Err.ensures.begins c.in-Err.ensures.fault c.begin.ensures.survives
