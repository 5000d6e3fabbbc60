use Rattle.store_sql.proofs.Words.{state}
use Rattle.store_sql.proofs.Statements.{survives_as}
use Rattle.store_sql.proofs.Ends.{rolls, rollback_never}
use Rattle.store_sql.proofs.transaction.rollback.Goals as goal

pub returns : goal.returns
returns g c =
    let old = state g.S.Store c.args.conn.now in
    let new = state g.S.Store c.execute.new.self in
    record {
      undone = λ clean inside. rolls old new c.execute.result inside (c.execute.ensures.runs clean);
      survives = survives_as old new _ _ (rollback_never old) c.execute.ensures.survives;
    }
