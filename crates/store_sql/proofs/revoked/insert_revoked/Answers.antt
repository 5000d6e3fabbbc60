use Rattle.store_sql.proofs.KeyTables.{key_id_fails, put_revoked}
use Rattle.store_sql.proofs.CallLemmas.{wrote}
use Rattle.store_sql.proofs.revoked.insert_revoked.Goals as goal

pub returns : goal.returns
returns g c =
    let ran = c.execute.ensures in
    wrote (put_revoked c.args.key_id.now) (key_id_fails c.args.key_id.now) c.execute.result c.done.result
    ran.runs ran.survives c.done.ensures.is
