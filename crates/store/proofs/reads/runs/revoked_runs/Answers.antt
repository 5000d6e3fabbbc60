use Rattle.store.proofs.RunsShown.{are_revoked_runs, shows_every}
use Rattle.store.proofs.Showing.{shows_weaker}
use Rattle.store.proofs.Sorting.{rows_asked, rows_failed}
use Rattle.store.proofs.reads.runs.revoked_runs.Goals as goal

pub returns : goal.returns
returns g c =
    let q = c.in_ok-rows.ensures in
    rows_asked q.survives q.reads (λ clean. shows_weaker _ _ _ _ c.read_runs.result are_revoked_runs
    (shows_every _ _ c.in_ok-rows.rows.items c.read_runs.result (q.finds clean) (q.sorted clean)
    (rw c.as_slice.ensures.value at c.read_runs.ensures)))

pub returns-in_err-rows : goal.returns-in_err-rows
returns-in_err-rows g c =
    let e = c.in_err-rows.ensures in
    rows_failed e.survives e.reads e.fault c.from_residual.ensures.1
