use Rattle.guard.proofs.Histories.{once}
use Rattle.guard.proofs.laws.a_serial_has_one_body.Goals as goal

pub returns : goal.returns
returns c = once
