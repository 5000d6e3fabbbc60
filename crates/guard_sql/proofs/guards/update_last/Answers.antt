use Rattle.rows.proofs.CallLemmas.{wrote}
use Rattle.guard_sql.proofs.GuardTable.{end, last_fails}
use Rattle.guard_sql.proofs.guards.update_last.Goals as goal

pub returns : goal.returns
returns g c =
    let ran = rw c.value_of.ensures.is at c.execute.ensures in
    wrote (end c.args.last) (last_fails c.args.last) c.execute.result c.done.result ran.runs ran.survives
    c.done.ensures.is
