use Rattle.sqlite.specs.Held.{state}
use Rattle.office_jobs.proofs.Additions.{done, served}
use Rattle.office_jobs.proofs.adding.jobs_add_arrivals.Goals as goal

pub returns-clause-jobs : goal.returns-clause-jobs
returns-clause-jobs g c old was = done (state g.S.Store old) (state g.S.Store c.args.conn.now) was

pub returns-clause-servers : goal.returns-clause-servers
returns-clause-servers g c old was = served (state g.S.Store old) (state g.S.Store c.args.conn.now) was
