use Rattle.store_sql.proofs.Words.{Creates, Executes, HasCause, [], before, created_table, state, subst}
use Rattle.store_sql.proofs.Makes.{create_faults, makeable, create_stays, creates, creates_left, makes}
use Rattle.store_sql.proofs.FoundLemmas.{done_as, fault_done}
use Rattle.store_sql.proofs.Statements.{survives_as}
use Rattle.store_sql.proofs.creation.create.Goals as goal

pub returns : goal.returns
returns g c =
    let name = c.args.name in
    let old = state g.S.Store c.args.conn.now in
    let new = state g.S.Store c.execute.new.self in
    let ran = subst (λ sql. Executes sql [] old new c.execute.result) c.create.ensures.text in
    record {
      creates = λ clean. done_as (Creates (before name) (created_table name) old new) (Creates (before name) (created_table name) old new)
          (λ n x h. h) (λ e h. h) c.execute.result c.done.result c.done.ensures.is
          (creates (makes name) old new c.execute.result (ran (c.execute.ensures.runs clean)));
      fault = λ clean has. fault_done (HasCause old new) c.execute.result c.done.result c.done.ensures.is
          (create_faults (makeable name) old new has c.execute.result (ran (c.execute.ensures.runs clean)));
      undamaged = c.done.ensures.undamaged;
      stays = λ clean. create_stays (makes name) old new c.execute.result c.done.result c.done.ensures.is
          (ran (c.execute.ensures.runs clean));
      survives = survives_as old new _ _ (creates_left (makes name) old)
          (rw c.create.ensures.text at c.execute.ensures.survives);
    }
