use Rattle.office.proofs.Waiting.{one_row_more}
use Rattle.office.proofs.listing.Revocations.push_waiting.Goals as goal

pub loop-certificate-preserved : goal.loop-certificate-preserved
loop-certificate-preserved c =
    one_row_more c.args.self.now c.args.certificates.now c.loop-certificate.certificate-index c.certificate-item.result
    c.args.rows.now.items c.loop-certificate.rows.items c.push_row.new.rows.items c.loop-certificate-test.true
    c.certificate-item.is c.loop-certificate.invariant c.in_ok-push_row.ensures
