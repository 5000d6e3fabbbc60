use Rattle.office.proofs.Registers.{preserves_none}
use Rattle.waiting.proofs.asking.revocations_by.Goals as goal

pub returns-in-Some-clause-preserves : goal.returns-in-Some-clause-preserves
returns-in-Some-clause-preserves g c = preserves_none g.met.R.Registry.unasked c.args.register.now
