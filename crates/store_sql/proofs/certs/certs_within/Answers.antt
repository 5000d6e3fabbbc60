use Rattle.store_sql.proofs.Selects.{found_sorted}
use Rattle.store_sql.proofs.CertTable.{within}
use Rattle.store_sql.proofs.certs.certs_within.Goals as goal

pub returns : goal.returns
returns g c =
    let q = rw (c.value.ensures.is, c.value-2.ensures.is) at c.query_all.ensures in
    found_sorted (within c.args.lo c.args.hi) c.query_all.result q.ok q.err q.survives c.found.result
    c.found.ensures
