use Rattle.std.specs.Prelude.{codes}
use Rattle.command_line.specs.Command.{apply_command, check_command, init_command, on_database}
use Rattle.command_line.specs.Command.{selftest_command, serve_command}
use Rattle.command_line.proofs.command.office_command.Goals as goal

pub returns : goal.returns
returns c =
    let init = c.with_job-office.ensures _ init_command c.top_command.ensures c.init_command.ensures in
    let apply = c.with_job-office-2.ensures _ apply_command init c.apply_command.ensures in
    let serve = c.with_job-office-3.ensures _ serve_command apply c.serve_command.ensures in
    let readings = c.with_readings-office.ensures _ serve in
    let check = c.with_job-office-4.ensures _ check_command readings c.check_command.ensures in
    let migrate = c.with_job-office-5.ensures _ (on_database (codes "migrate")) check c.on_database.ensures in
    c.with_job.ensures _ selftest_command migrate c.selftest_command.ensures
