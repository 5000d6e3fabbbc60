use Rattle.store_sql.proofs.Words.{state}
use Rattle.store_sql.proofs.Selects.{found_sorted}
use Rattle.store_sql.proofs.OfficeTable.{every, offices_fail, offices_found}
use Rattle.store_sql.proofs.offices.every_office.Goals as goal

pub returns : goal.returns
returns g c =
    let old = state g.S.Store c.args.conn.now in
    let new = state g.S.Store c.query_all.new.self in
    let q = c.query_all.ensures in
    let r = c.found.result in
    let f = found_sorted every c.query_all.result q.ok q.err q.survives r c.found.ensures in
    record {
      finds = λ clean. offices_found old new c.query_all.result (q.ok clean) (q.err clean) r c.found.ensures;
      sorted = f.sorted;
      reads = f.reads;
      fault = λ clean. offices_fail old new c.query_all.result (q.ok clean) (q.err clean) r c.found.ensures;
      survives = f.survives;
    }
