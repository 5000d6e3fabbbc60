use Rattle.store_sql.proofs.CertTable.{signature_fails, sign}
use Rattle.store_sql.proofs.CallLemmas.{wrote}
use Rattle.store_sql.proofs.certs.update_signature.Goals as goal

pub returns : goal.returns
returns g c =
    let ran = rw c.value.ensures.is at c.execute.ensures in
    wrote (sign c.args.serial c.args.signature.now)
    (signature_fails c.args.serial c.args.signature.now c.value.ensures.low) c.execute.result c.done.result ran.runs
    ran.survives c.done.ensures.is
