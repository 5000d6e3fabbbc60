use Rattle.store_sql.proofs.RunReasons.{run_fails}
use Rattle.store_sql.proofs.CallLemmas.{wrote}
use Rattle.store_sql.proofs.RunTable.{put}
use Rattle.store_sql.proofs.runs.insert_run.Goals as goal

pub returns : goal.returns
returns g c =
    let ran = rw c.values.ensures.is at c.execute.ensures in
    wrote (put c.args.run.now) (run_fails c.args.run.now c.values.ensures.low) c.execute.result c.done.result
    ran.runs ran.survives c.done.ensures.is
