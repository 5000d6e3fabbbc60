use Rattle.office_jobs.proofs.Counted.{of_a_file, uncounted}
use Rattle.office_jobs.proofs.command.apply_at.Goals as goal

pub returns-in-Err-clause-failed : goal.returns-in-Err-clause-failed
returns-in-Err-clause-failed g c = uncounted (Unit {0}) _ c.in-Err.fault (of_a_file c.in-Err.fault c.in-Err.ensures.only)
