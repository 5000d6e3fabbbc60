use Rattle.std.proofs.Common.{[]}
use Rattle.trial.specs.TrialOffice.{trial_opening}
use Rattle.trial.proofs.trial_office.trial_office.Goals as goal

pub returns-in-Ok : goal.returns-in-Ok
returns-in-Ok c = c.in-Ok.ensures tt trial_opening [] c.in_ok-office.ensures
