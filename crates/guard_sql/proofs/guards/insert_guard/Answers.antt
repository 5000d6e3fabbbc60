use Rattle.rows.proofs.CallLemmas.{wrote}
use Rattle.guard_sql.proofs.GuardTable.{guard_fails, put}
use Rattle.guard_sql.proofs.guards.insert_guard.Goals as goal

pub returns : goal.returns
returns g c =
    let ran = rw c.values.ensures.is at c.execute.ensures in
    wrote (put c.args.guard.now) (guard_fails c.args.guard.now c.values.ensures.low) c.execute.result c.done.result
    ran.runs ran.survives c.done.ensures.is
