use Rattle.guard_sql.specs.Contents.{HasGuards}
use Rattle.rows.proofs.CallLemmas.{found_in}
use Rattle.guard_sql.proofs.GuardTable.{every, known}
use Rattle.guard_sql.proofs.guards.every_guard.Goals as goal

pub returns : goal.returns
returns g c =
    let q = c.query_all.ensures in
    found_in every HasGuards known c.query_all.result q.ok q.err q.survives c.found.result c.found.ensures
