use Rattle.std.proofs.Common.{ap, sym, ◌∙◌}
use Rattle.sshstation.specs.GuardFiles.{of_database}
use Rattle.sshstation.proofs.Unopened.{connect_fails}
use Rattle.sshstation.proofs.list_database.ListDatabase.connect.Goals as goal

pub returns-in-Err-clause-none : goal.returns-in-Err-clause-none
returns-in-Err-clause-none g c =
    connect_fails _ _ _ c.args.self.now.files _ _ (sym c.replace.ensures.value ∙ c.in-Unopened.is)
    (c.database_fault-told.ensures ∙ ap of_database c.error.ensures, c.in-Err.ensures.fails)
