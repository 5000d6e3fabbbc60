use Rattle.store.specs.Concerning.{AreConcerned}
use Rattle.store.specs.Arriving.{IsNew, IsWeighed}
use Rattle.store.proofs.Reading.{of_past}
use Rattle.store.proofs.Settled.{read_failed, read_then}
use Rattle.store.proofs.settling.consider.Goals as goal

pub returns : goal.returns
returns g c =
    let a = c.args.arrival.now in
    let m = c.args.message.now in
    let rows = c.in_ok-rows.rows in
    read_then (of_past {P = λ s kept rows. AreConcerned rows s m} c.in_ok-rows.ensures.asks) {Known = IsNew a m}
    {Later = IsWeighed a m rows} (λ p history is found. record { new = is; rows = found }) c.weigh-outcome.ensures

pub returns-in_err-rows : goal.returns-in_err-rows
returns-in_err-rows g c =
    read_failed c.in_err-rows.ensures.asks c.args.arrival.now (IsNew c.args.arrival.now c.args.message.now)
    c.from_residual.result c.from_residual.ensures.1
