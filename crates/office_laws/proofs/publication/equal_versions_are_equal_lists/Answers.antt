use Rattle.office_laws.proofs.Versions.{versions_tell}
use Rattle.office_laws.proofs.publication.equal_versions_are_equal_lists.Goals as goal

pub returns : goal.returns
returns c = versions_tell
