use Rattle.store_sql.proofs.CertTable.{cert_fails, put}
use Rattle.store_sql.proofs.CallLemmas.{wrote}
use Rattle.store_sql.proofs.certs.insert_cert.Goals as goal

pub returns : goal.returns
returns g c =
    let ran = rw c.values.ensures.is at c.execute.ensures in
    wrote (put c.args.cert.now) (cert_fails c.args.cert.now c.values.ensures.low) c.execute.result
    c.done.result ran.runs ran.survives c.done.ensures.is
