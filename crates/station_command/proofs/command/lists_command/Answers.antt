use Rattle.std.specs.Prelude.{codes}
use Rattle.station_command.specs.Arguments.{flag}
use Rattle.station_command.proofs.command.lists_command.Goals as goal

pub returns : goal.returns
returns c = c.with_option.ensures _ (flag (codes "init")) c.job_command-command.ensures c.flag.ensures
