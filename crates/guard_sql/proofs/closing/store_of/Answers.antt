use Rattle.guard_sql.proofs.Left.{leaves_one_of}
use Rattle.guard_sql.proofs.closing.store_of.Goals as goal

pub returns : goal.returns
returns g c clean =
    let it = c.into_store.ensures in
    leaves_one_of c.args.conn c.into_store.result (it.numbered clean) (it.sound clean) it.quiet.outcomes
