use Rattle.std.proofs.Common.{Ok, Err, refl}
use Rattle.office_jobs.proofs.database_opening.open_new.Goals as goal

pub returns-in-Ok-clause-opens : goal.returns-in-Ok-clause-opens
returns-in-Ok-clause-opens g c = record {
  first = Ok tt;
  ready = c.make_database.new.self;
  is_ready = (c.make_database.result, c.make_database.ensures, c.in-Ok.ensures.value);
  opened = c.opened.ensures.opens;
}

pub returns-in-Err-clause-opens : goal.returns-in-Err-clause-opens
returns-in-Err-clause-opens g c = record {
  first = Err c.in-Err.fault;
  ready = c.make_database.new.self;
  is_ready = (c.make_database.result, c.make_database.ensures, c.in-Err.ensures.value);
  opened = (refl, refl);
}
