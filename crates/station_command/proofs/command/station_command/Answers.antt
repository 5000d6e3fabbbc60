use Rattle.std.specs.Prelude.{codes}
use Rattle.command_line.specs.Command.{on_database}
use Rattle.station_command.specs.Command.{body_command, init_command, judge_command, list_command, lists_command}
use Rattle.station_command.specs.Command.{policy_command, retire_command}
use Rattle.station_command.proofs.command.station_command.Goals as goal

pub returns : goal.returns
returns c =
    let init = c.with_job-station.ensures _ init_command c.top_command.ensures c.init_command.ensures in
    let judge = c.with_job-station-2.ensures _ judge_command init c.judge_command.ensures in
    let bodies = c.with_job-station-3.ensures _ (on_database (codes "bodies")) judge c.bodies_command.ensures in
    let body = c.with_job-station-4.ensures _ body_command bodies c.body_command.ensures in
    let policy = c.with_job-station-5.ensures _ policy_command body c.policy_command.ensures in
    let retire = c.with_job-station-6.ensures _ retire_command policy c.retire_command.ensures in
    let lists = c.with_job-station-7.ensures _ lists_command retire c.lists_command.ensures in
    c.with_job.ensures _ list_command lists c.list_command.ensures
