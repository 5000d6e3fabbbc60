use Rattle.office_jobs.proofs.Words.{codes, decimal}
use Rattle.office_jobs.proofs.Said.{in_two_then}
use Rattle.office_jobs.proofs.second_output.print_unsupported.Goals as goal

pub returns-clause-ok : goal.returns-clause-ok
returns-clause-ok g c =
    in_two_then _ _ _ (codes "Unsupported(") (decimal c.args.kind) (codes ")") c.write_all.result
    c.in_ok-print_numbered.ensures.ok c.write_all.ensures.ok
