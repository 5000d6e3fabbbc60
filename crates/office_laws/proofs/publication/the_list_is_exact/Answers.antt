use Rattle.office_laws.proofs.Lists.{list_is_exact}
use Rattle.office_laws.proofs.publication.the_list_is_exact.Goals as goal

pub returns : goal.returns
returns c = list_is_exact
