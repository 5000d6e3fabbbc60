use Rattle.list_laws.proofs.Accounted.{version_is_paid, growth_is_paid}
use Rattle.list_laws.proofs.versions.lists_account_for_their_versions.Goals as goal

pub returns-clause-whole : goal.returns-clause-whole
returns-clause-whole c = version_is_paid

pub returns-clause-growth : goal.returns-clause-growth
returns-clause-growth c = growth_is_paid
