use Rattle.guard.proofs.PolicyReadings.{policy_read}
use Rattle.guard.proofs.laws.a_policy_is_read_as_its_departments.Goals as goal

pub returns : goal.returns
returns c = policy_read
