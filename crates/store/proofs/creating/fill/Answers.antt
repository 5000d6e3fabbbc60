use Rattle.store.proofs.Words.{RefusesFirst, err_from_is_err_and, inl, inr}
use Rattle.store.proofs.TransactionParts.{stopped_first, written, written_then}
use Rattle.store.proofs.creating.fill.Goals as goal

pub returns : goal.returns
returns g c =
    written_then {refused = RefusesFirst c.args.office.now c.args.ca.now} c.in_ok-insert_office.ensures
    c.insert_ca.ensures (λ d. inr)

pub returns-in_err-insert_office : goal.returns-in_err-insert_office
returns-in_err-insert_office g c =
    let p = err_from_is_err_and c.from_residual.result c.from_residual.ensures.1 in
    rw (p.1, p.2) (stopped_first (written c.in_err-insert_office.ensures) (λ d. inl))
