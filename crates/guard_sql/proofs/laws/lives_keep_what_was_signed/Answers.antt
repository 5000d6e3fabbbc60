use Rattle.guard_sql.proofs.Lives.{lives_keep, runs_go_on}
use Rattle.guard_sql.proofs.laws.lives_keep_what_was_signed.Goals as goal

pub returns-clause-keep : goal.returns-clause-keep
returns-clause-keep c = lives_keep

pub returns-clause-goes_on : goal.returns-clause-goes_on
returns-clause-goes_on c = runs_go_on
