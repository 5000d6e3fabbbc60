use Rattle.values.proofs.OwnNames.{for_names_from, meets_name_found, meets_name_from}
use Rattle.values.proofs.laws.rules_are_met_by_names.Goals as goal

pub returns-clause-met : goal.returns-clause-met
returns-clause-met c = (
  meets_name_found c.args.name.now c.args.principal.now c.args.suffix.now,
  meets_name_from c.args.name.now c.args.principal.now c.args.suffix.now,
)

pub returns-clause-kind : goal.returns-clause-kind
returns-clause-kind c = for_names_from c.args.suffix.now
