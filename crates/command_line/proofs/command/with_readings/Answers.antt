use Rattle.std.specs.Prelude.{codes}
use Rattle.command_line.specs.Command.{on_database}
use Rattle.command_line.proofs.command.with_readings.Goals as goal

pub returns : goal.returns
returns c app is_office =
    let krl = c.with_job-office.ensures app (on_database (codes "krl")) is_office c.on_database.ensures in
    let signers = c.with_job-office-2.ensures _ (on_database (codes "signers")) krl c.on_database-signers.ensures in
    c.with_job.ensures _ (on_database (codes "table")) signers c.on_database-2.ensures
