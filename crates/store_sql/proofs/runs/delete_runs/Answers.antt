use Rattle.store_sql.proofs.RunReasons.{deletion_fails}
use Rattle.store_sql.proofs.CallLemmas.{wrote}
use Rattle.store_sql.proofs.RunTable.{delete}
use Rattle.store_sql.proofs.runs.delete_runs.Goals as goal

pub returns : goal.returns
returns g c =
    let ran = rw c.values.ensures.is at c.execute.ensures in
    wrote (delete c.args.ends.now) (deletion_fails c.args.ends.now) c.execute.result c.done.result ran.runs
    ran.survives c.done.ensures.is
