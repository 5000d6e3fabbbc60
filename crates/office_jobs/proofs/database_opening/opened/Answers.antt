use Rattle.std.proofs.Common.{Ok, Err, ap, refl}
use Rattle.office_jobs.proofs.database_opening.opened.Goals as goal

pub returns-in-Ok-clause-opens : goal.returns-in-Ok-clause-opens
returns-in-Ok-clause-opens g c = record { got = Ok c.in-Ok.conn; is_opened = c.in-Ok.ensures; came = refl }

pub returns-in-Err-clause-opens : goal.returns-in-Err-clause-opens
returns-in-Err-clause-opens g c = record {
  got = Err c.in-Err.error;
  is_opened = c.in-Err.ensures;
  came = ap Err c.database_fault.ensures.value;
}
