use Rattle.values.proofs.NetworkLaws.{networks_found, networks_from}
use Rattle.values.proofs.laws.networks_are_spelled_one_way.Goals as goal

pub returns : goal.returns
returns c = (networks_found _, networks_from _)
