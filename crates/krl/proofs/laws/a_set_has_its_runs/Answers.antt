use Rattle.krl.proofs.Counting.{runs_in_runs, contains_runs_in, runs_in_only}
use Rattle.krl.proofs.laws.a_set_has_its_runs.Goals as goal

pub returns-clause-runs : goal.returns-clause-runs
returns-clause-runs c = runs_in_runs

pub returns-clause-contains : goal.returns-clause-contains
returns-clause-contains c = contains_runs_in

pub returns-clause-only : goal.returns-clause-only
returns-clause-only c = runs_in_only
