use Rattle.values.proofs.OwnNames.{meant_found, meant_from}
use Rattle.values.proofs.laws.callers_are_meant_by_names.Goals as goal

pub returns : goal.returns
returns c = (
  meant_found c.args.name.now c.args.caller.now c.args.prefix.now,
  meant_from c.args.name.now c.args.caller.now c.args.prefix.now,
)
