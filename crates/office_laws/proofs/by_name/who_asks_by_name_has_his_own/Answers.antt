use Rattle.office_laws.proofs.Own.{issue_own, renewal_own}
use Rattle.office_laws.proofs.by_name.who_asks_by_name_has_his_own.Goals as goal

pub returns-clause-issue : goal.returns-clause-issue
returns-clause-issue c = issue_own

pub returns-clause-renewal : goal.returns-clause-renewal
returns-clause-renewal c = renewal_own
