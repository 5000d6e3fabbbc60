use Rattle.store.proofs.Words.{CertRow, State, certificate_in, filter, lies_within, nat_cmp, nat_cmp_total}
use Rattle.store_sql.specs.Changes.{certs_within}
use Rattle.store.proofs.CertRows.{within_again, within_rise}
use Rattle.store.proofs.Sorting.{shows_each, rows_asked, rows_failed}
use Rattle.store.proofs.rows.certificate_rows.read_certificates.Goals as goal

pub returns : goal.returns
returns g c =
    let lo = c.args.lo in
    let hi = c.args.hi in
    let q = c.in_ok-rows.ensures in
    rows_asked q.survives q.reads (λ clean.
    shows_each certificate_in (certs_within lo hi) (λ (r : CertRow). r.serial) nat_cmp nat_cmp_total
    (λ (s : State). filter (lies_within lo hi) s.certificates)
    (λ s kept lawful. within_rise s.opening.first lo hi s.certificates lawful.serials)
    (λ s kept lawful. within_again lo hi s.certificates lawful.certificates)
    _ _ _ c.read_each.result (q.finds clean) (q.sorted clean)
    (rw c.as_slice.ensures.value at c.read_each.ensures))

pub returns-in_err-rows : goal.returns-in_err-rows
returns-in_err-rows g c =
    let e = c.in_err-rows.ensures in
    rows_failed e.survives e.reads e.fault c.from_residual.ensures.1
