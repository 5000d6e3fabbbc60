use Rattle.office_jobs.proofs.Counted.{of_no_key, uncounted}
use Rattle.office_jobs.proofs.checking.check_in.Goals as goal

pub returns-in-Err-clause-failed : goal.returns-in-Err-clause-failed
returns-in-Err-clause-failed g c = uncounted (Unit {0}) _ c.in-Err.fault (of_no_key _ c.in-Err.fault c.in-Err.ensures.fault)
