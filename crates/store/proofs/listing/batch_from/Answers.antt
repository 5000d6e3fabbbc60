use Rattle.store.proofs.Words.{arith, numbered, ◌+◌, ◌≡◌}
use Rattle.store.proofs.Reading.{of_state}
use Rattle.store.proofs.listing.batch_from.Goals as goal

pub returns : goal.returns
returns g c =
    let first = c.args.first in
    let place = c.args.place in
    let lo : c.column_number.result ≡ numbered first place =
    omega (arith, c.column_number.ensures, c.saturating_add-lo.ensures) in
    let hi : c.column_number-2.result ≡ numbered first (place + 999) =
    omega (arith, c.column_number-2.ensures, c.saturating_add-lo.ensures, c.saturating_add-hi.ensures) in
    of_state (rw (lo, hi) at c.read_certificates.ensures)
