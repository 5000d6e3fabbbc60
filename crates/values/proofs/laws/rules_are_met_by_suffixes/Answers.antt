use Rattle.values.proofs.OwnNames.{meets_plain_found, meets_plain_from}
use Rattle.values.proofs.laws.rules_are_met_by_suffixes.Goals as goal

pub returns : goal.returns
returns c = λ other. (
  meets_plain_found c.args.name.now c.args.principal.now c.args.rule.now other,
  meets_plain_from c.args.name.now c.args.principal.now c.args.rule.now other,
)
