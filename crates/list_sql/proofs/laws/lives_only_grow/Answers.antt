use Rattle.list_sql.proofs.Lives.{lives_grow, runs_go_on}
use Rattle.list_sql.proofs.laws.lives_only_grow.Goals as goal

pub returns-clause-grow : goal.returns-clause-grow
returns-clause-grow c = lives_grow

pub returns-clause-goes_on : goal.returns-clause-goes_on
returns-clause-goes_on c = runs_go_on
