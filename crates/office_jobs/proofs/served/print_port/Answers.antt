use Rattle.std.proofs.Common.{refl}
use Rattle.std.proofs.KnownBytes.{Appends-kept}
use Rattle.server.specs.Names.{listening_line}
use Rattle.office_jobs.proofs.Said.{begins_whole}
use Rattle.office_jobs.proofs.served.print_port.Goals as goal

pub returns-in-Err-flush-clause-part : goal.returns-in-Err-flush-clause-part
returns-in-Err-flush-clause-part g c =
    begins_whole _ _ (listening_line c.args.port)
    (Appends-kept _ _ _ (listening_line c.args.port) (c.in-Ok.ensures.ok refl) c.flush.ensures.kept)
