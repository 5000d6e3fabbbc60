use Rattle.store_sql.proofs.Words.{state}
use Rattle.store_sql.proofs.Growth.{adds_ca}
use Rattle.store_sql.proofs.creation.create_ca.Goals as goal

pub returns-clause-adds : goal.returns-clause-adds
returns-clause-adds g c clean =
    adds_ca (state g.S.Store c.args.conn.now) (state g.S.Store c.create.new.conn) c.create.result
    (c.create.ensures.creates clean)
