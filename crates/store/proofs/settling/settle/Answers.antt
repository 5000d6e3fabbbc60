use Rattle.store.proofs.Words.{IsAny, IsFound, find, is_kept_for, ◌≡◌}
use Rattle.store.proofs.Reading.{of_past}
use Rattle.store.proofs.Settled.{read_failed, read_then}
use Rattle.store.proofs.settling.settle.Goals as goal

pub returns : goal.returns
returns g c =
    let a = c.args.arrival.now in
    let found = c.in_ok-found.found in
    let one = rw (c.as_slice.ensures, c.as_slice-2.ensures) at c.in_ok-found.ensures in
    read_then (of_past {P = λ s kept found. found ≡ find (is_kept_for a.caller a.key) kept} one) {Known = IsAny}
    {Later = IsFound a found} (λ p history any is. is) c.settle_beside.ensures

pub returns-in_err-found : goal.returns-in_err-found
returns-in_err-found g c =
    read_failed c.in_err-found.ensures c.args.arrival.now IsAny c.from_residual.result c.from_residual.ensures.1
