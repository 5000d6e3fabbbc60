use Rattle.office_jobs.proofs.Words.{memory_is_clean, over_memory, state}
use Rattle.office_jobs.proofs.Blank.{blank}
use Rattle.office_jobs.proofs.trial.office_in_memory.Goals as goal

pub returns-in-Ok-init : goal.returns-in-Ok-init
returns-in-Ok-init c =
    c.in-Ok-init.ensures.made (memory_is_clean c.in-Ok-init.store.conn) (blank (state over_memory c.in-Ok.conn) c.in-Ok.ensures.empty)
