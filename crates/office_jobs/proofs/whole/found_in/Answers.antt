use Rattle.std.proofs.Common.{Ok, Err, refl}
use Rattle.office_jobs.proofs.Counted.{of_no_opening, uncounted}
use Rattle.office_jobs.proofs.whole.found_in.Goals as goal

pub returns-in-Ok-clause-founds : goal.returns-in-Ok-clause-founds
returns-in-Ok-clause-founds g c = record { opening = Ok c.in-Ok.opening; begins = c.in-Ok.ensures.begins; made = c.do_in.ensures.does }

pub returns-in-Err-clause-founds : goal.returns-in-Err-clause-founds
returns-in-Err-clause-founds g c = record {
  opening = Err c.in-Err.fault;
  begins = c.in-Err.ensures.begins;
  made = (refl, (refl, refl));
}

pub returns-in-Err-clause-failed : goal.returns-in-Err-clause-failed
returns-in-Err-clause-failed g c =
    uncounted (Unit {0}) _ c.in-Err.fault (of_no_opening _ _ c.in-Err.fault c.in-Err.ensures.begins)
