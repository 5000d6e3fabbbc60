use Rattle.values.proofs.OwnNames.{name_last, name_further}
use Rattle.values.proofs.laws.key_ids_have_names.Goals as goal

pub returns-clause-last : goal.returns-clause-last
returns-clause-last c = name_last c.args.department.now c.args.name.now

pub returns-clause-further : goal.returns-clause-further
returns-clause-further c = name_further c.args.department.now c.args.name.now c.args.rest.now
