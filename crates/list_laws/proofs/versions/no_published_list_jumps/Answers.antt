use Rattle.list_laws.proofs.Jumping.{never_jumps, never_jumps_on}
use Rattle.list_laws.proofs.versions.no_published_list_jumps.Goals as goal

pub returns-clause-question : goal.returns-clause-question
returns-clause-question c = never_jumps

pub returns-clause-calls : goal.returns-clause-calls
returns-clause-calls c = never_jumps_on
