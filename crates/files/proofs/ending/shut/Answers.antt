use Rattle.std.proofs.Common.{◌≡◌, [], Some, subst}
use Rattle.sqlite.specs.declared.error.Error.{Error}
use Rattle.sqlite.specs.Files.{file_state}
use Rattle.files.specs.Ending.{Excuses}
use Rattle.files.proofs.Looked.{look_fails}
use Rattle.files.proofs.ending.shut.Goals as goal

one_error : (a b : Error) → Some a ≡ Some b → a ≡ b
one_error a b same = cc

pub returns-in-Err-clause-cause : goal.returns-in-Err-clause-cause
returns-in-Err-clause-cause g c clean e is =
    subst (λ (x : Error). Excuses (file_state c.args.conn.now) (file_state c.prepare.new.self).faults x)
    (one_error c.in-Err.error e is)
    (look_fails (file_state c.args.conn.now) (file_state c.prepare.new.self) c.in-Err.error
    (c.in-Err.ensures.err clean []))
