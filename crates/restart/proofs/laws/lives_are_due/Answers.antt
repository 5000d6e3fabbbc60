use Rattle.restart.proofs.Lives.{lives_are_due, runs_due, runs_go_on}
use Rattle.restart.proofs.laws.lives_are_due.Goals as goal

pub returns-clause-due : goal.returns-clause-due
returns-clause-due g = lives_are_due

pub returns-clause-held : goal.returns-clause-held
returns-clause-held g = runs_due

pub returns-clause-goes_on : goal.returns-clause-goes_on
returns-clause-goes_on g = runs_go_on
