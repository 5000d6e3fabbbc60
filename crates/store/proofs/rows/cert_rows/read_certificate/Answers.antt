use Rattle.store.proofs.CertRows.{reads_certificate}
use Rattle.store.proofs.rows.cert_rows.read_certificate.Goals as goal

pub returns-clause-again : goal.returns-clause-again
returns-clause-again c = reads_certificate c.args.row.now c.certificate_in.result c.certificate_in.ensures.exact
