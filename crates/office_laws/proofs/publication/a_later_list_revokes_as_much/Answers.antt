use Rattle.office_laws.proofs.Later.{later_revokes}
use Rattle.office_laws.proofs.publication.a_later_list_revokes_as_much.Goals as goal

pub returns : goal.returns
returns c = later_revokes
