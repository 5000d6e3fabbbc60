use Rattle.store_sql.proofs.Words.{last_run, state}
use Rattle.store_sql.proofs.CallLemmas.{found_one}
use Rattle.store_sql.proofs.LastRun.{its_one}
use Rattle.store_sql.proofs.RunTable.{last}
use Rattle.store_sql.proofs.runs.last_run.Goals as goal

pub returns : goal.returns
returns g c =
    let old = state g.S.Store c.args.conn.now in
    let new = state g.S.Store c.query_all.new.self in
    let q = rw c.value.ensures.is at c.query_all.ensures in
    let f = found_one (last c.args.serial) c.query_all.result q.ok q.err q.survives c.found_first.result
    c.found_first.ensures in
    record {
      finds = λ clean. its_one (last_run c.args.serial) old new c.found_first.result (f.finds clean);
      reads = f.reads;
      fault = f.fault;
      survives = f.survives;
    }
