use Rattle.std.specs.Prelude.{codes}
use Rattle.station_command.specs.Arguments.{flag, several}
use Rattle.station_command.proofs.command.list_command.Goals as goal

pub returns : goal.returns
returns c =
    let more = c.with_option-command.ensures _ (several (codes "ca")) c.job_command-command.ensures c.several.ensures in
    c.with_option.ensures _ (flag (codes "begin")) more c.flag.ensures
