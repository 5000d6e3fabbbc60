use Rattle.krl.proofs.Maximal.{each_is_run, each_run_is_there}
use Rattle.krl.proofs.laws.runs_are_maximal.Goals as goal

pub returns-clause-each : goal.returns-clause-each
returns-clause-each c = each_is_run 0

pub returns-clause-all : goal.returns-clause-all
returns-clause-all c = each_run_is_there 0
