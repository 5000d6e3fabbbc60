use Rattle.office_jobs.proofs.Words.{LAST_SERIAL, Opening, Tells, [], memory_is_clean, opening_of, over_memory, state}
use Rattle.office_jobs.proofs.Words.{subst}
use Rattle.office_jobs.proofs.trial.trial_office.Goals as goal

pub returns-in-Ok : goal.returns-in-Ok
returns-in-Ok c =
    let told : Tells (state over_memory c.in_ok-store.store.conn) (opening_of 1 LAST_SERIAL) [] =
    subst (λ (o : Opening). Tells (state over_memory c.in_ok-store.store.conn) o []) c.in_ok-opening.ensures.ok c.in_ok-store.ensures in
    c.in-Ok.ensures (memory_is_clean c.put_department.new.store.conn) (opening_of 1 LAST_SERIAL) [] told
