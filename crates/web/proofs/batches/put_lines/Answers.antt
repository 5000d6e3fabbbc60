use Rattle.web.proofs.Words.{Bool, ap, line_among, line_as, ◌++◌, ◌∙◌}
use Rattle.web.proofs.Items.{one_item_more}
use Rattle.web.proofs.batches.put_lines.Goals as goal

pub loop-certificate-preserved : goal.loop-certificate-preserved
loop-certificate-preserved c =
    let one = c.certificate-item.result in
    one_item_more (line_among c.args.revocations.now) c.args.certificates.now c.loop-certificate.certificate-index one
    c.args.out.now.items c.loop-certificate.out.items c.put_line.new.out.items c.loop-certificate-test.true c.certificate-item.is
    c.loop-certificate.invariant
    (c.in_ok-put_line.ensures ∙ ap (λ (b : Bool). c.loop-certificate.out.items ++ line_as b one) c.has-is_revoked.ensures)
