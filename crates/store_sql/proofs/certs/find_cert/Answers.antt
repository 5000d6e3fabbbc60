use Rattle.store_sql.proofs.CallLemmas.{found_one}
use Rattle.store_sql.proofs.CertTable.{find}
use Rattle.store_sql.proofs.certs.find_cert.Goals as goal

pub returns : goal.returns
returns g c =
    let q = rw c.value.ensures.is at c.query_all.ensures in
    found_one (find c.args.serial) c.query_all.result q.ok q.err q.survives c.found_first.result
    c.found_first.ensures
