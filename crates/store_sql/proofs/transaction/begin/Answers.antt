use Rattle.store_sql.proofs.Words.{Begins, HasCause, state}
use Rattle.store_sql.proofs.Statements.{survives_as}
use Rattle.store_sql.proofs.FoundLemmas.{done_as, fault_done}
use Rattle.store_sql.proofs.Ends.{begins, begin_faults, begin_never}
use Rattle.store_sql.proofs.transaction.begin.Goals as goal

pub returns : goal.returns
returns g c =
    let old = state g.S.Store c.args.conn.now in
    let new = state g.S.Store c.execute.new.self in
    let answer = c.execute.result in
    record {
      begins = λ clean. done_as (Begins old new) (Begins old new) (λ n x h. h) (λ e h. h) answer c.done.result
          c.done.ensures.is (begins old new answer (c.execute.ensures.runs clean));
      fault = λ clean outside. fault_done (HasCause old new) answer c.done.result c.done.ensures.is
          (begin_faults old new answer outside (c.execute.ensures.runs clean));
      survives = survives_as old new _ _ (begin_never old) c.execute.ensures.survives;
    }
