use Rattle.store.proofs.Words.{err_from_is_err_and, inl, inr}
use Rattle.store.specs.Refused.{RefusesRecord}
use Rattle.store.proofs.TransactionParts.{stopped_first, written, written_then}
use Rattle.store.proofs.writes.writing.record.Goals as goal

pub returns : goal.returns
returns g c =
    written_then {refused = RefusesRecord c.args.counters.now c.args.request.now} c.in_ok-update_office.ensures
    c.insert_request.ensures (λ d. inr)

pub returns-in_err-update_office : goal.returns-in_err-update_office
returns-in_err-update_office g c =
    let p = err_from_is_err_and c.from_residual.result c.from_residual.ensures.1 in
    rw (p.1, p.2) (stopped_first (written c.in_err-update_office.ensures) (λ d. inl))
