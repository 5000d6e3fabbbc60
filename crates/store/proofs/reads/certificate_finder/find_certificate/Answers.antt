use Rattle.store.proofs.Words.{ap, cert_row, certificate_in, certificate_of, certs_numbered, ◌∙◌, ◌≡◌}
use Rattle.store.proofs.Sorting.{rows_asked, rows_failed}
use Rattle.store.proofs.Numbered.{asked, certificate_again, numbered}
use Rattle.store.proofs.OneRow.{shows_one}
use Rattle.store.proofs.Showing.{shows_weaker}
use Rattle.store.proofs.reads.certificate_finder.find_certificate.Goals as goal

pub returns-clause-asks : goal.returns-clause-asks
returns-clause-asks g c =
    let serial = c.asked_serial.result in
    let q = c.in_ok-found.ensures in
    rows_asked q.survives q.reads (λ clean.
    shows_weaker (λ s kept found. found ≡ certificate_of s serial) _ _ _ c.read_found.result
    (λ s kept found lawful is history.
    is ∙ ap (certificate_of s) c.asked_serial.ensures ∙ asked c.args.serial s kept lawful history)
    (shows_one certificate_in cert_row (certs_numbered serial) (λ s. certificate_of s serial) (numbered serial)
    (certificate_again serial) _ _ c.in_ok-found.found c.read_found.result (q.finds clean) c.read_found.ensures.exact))

pub returns-in_err-found-clause-asks : goal.returns-in_err-found-clause-asks
returns-in_err-found-clause-asks g c =
    let e = c.in_err-found.ensures in
    rows_failed e.survives e.reads e.fault c.from_residual.ensures.1
