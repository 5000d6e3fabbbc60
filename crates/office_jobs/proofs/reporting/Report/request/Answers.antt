use Rattle.office_jobs.proofs.Words.{Asks, Report, codes, get, resource_of, subst, sym}
use Rattle.office_jobs.proofs.Asking.{asks_signers, asks_table}
use Rattle.office_jobs.proofs.reporting.Report.request.Goals as goal

pub returns-in-Signers : goal.returns-in-Signers
returns-in-Signers c =
    subst (λ (r : Report). Asks (codes "GET /v1/signers HTTP/1.1\r\n\r\n") (get (resource_of r)))
    (sym c.in-Signers.is) asks_signers

pub returns-in-Table : goal.returns-in-Table
returns-in-Table c =
    subst (λ (r : Report). Asks (codes "GET /v1/table HTTP/1.1\r\n\r\n") (get (resource_of r)))
    (sym c.in-Table.is) asks_table
