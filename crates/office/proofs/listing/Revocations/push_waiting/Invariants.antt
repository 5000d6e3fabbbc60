use Rattle.office.proofs.Words.{take, waiting_rows, ◌++◌, ◌≡◌}
use Rattle.office.proofs.listing.Revocations.push_waiting.Given as goal

abbrev pub invariant-loop-certificate : goal.invariant-loop-certificate
invariant-loop-certificate l =
    l.rows.items ≡ l.fn.rows.items ++ waiting_rows l.self (take l.certificate-index l.certificates)
