use Rattle.store_sql.proofs.Words.{Commits, HasCause, state}
use Rattle.store_sql.proofs.Statements.{survives_as}
use Rattle.store_sql.proofs.FoundLemmas.{done_as, fault_done}
use Rattle.store_sql.proofs.Ends.{commits, commit_faults, commit_leaves}
use Rattle.store_sql.proofs.transaction.commit.Goals as goal

pub returns : goal.returns
returns g c =
    let old = state g.S.Store c.args.conn.now in
    let new = state g.S.Store c.execute.new.self in
    let answer = c.execute.result in
    record {
      commits = λ clean. done_as (Commits old new) (Commits old new) (λ n x h. h) (λ e h. h) answer c.done.result
          c.done.ensures.is (commits old new answer (c.execute.ensures.runs clean));
      fault = λ clean inside. fault_done (HasCause old new) answer c.done.result c.done.ensures.is
          (commit_faults old new answer inside (c.execute.ensures.runs clean));
      survives = survives_as old new _ _ (commit_leaves old) c.execute.ensures.survives;
    }
