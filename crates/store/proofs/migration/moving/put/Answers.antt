use Rattle.store.proofs.Words.{IsRefused, err_from_is_err_and, inl, inr}
use Rattle.store.proofs.TransactionParts.{stopped_first, written, written_then}
use Rattle.store.proofs.migration.moving.put.Goals as goal

pub returns : goal.returns
returns g c =
    let rest = rw c.number.ensures at c.update_schema.ensures in
    written_then {refused = IsRefused c.args.ca.now} c.in_ok-insert_ca.ensures rest (λ d. inr)

pub returns-in_err-insert_ca : goal.returns-in_err-insert_ca
returns-in_err-insert_ca g c =
    let p = err_from_is_err_and c.from_residual.result c.from_residual.ensures.1 in
    rw (p.1, p.2) (stopped_first (written c.in_err-insert_ca.ensures) (λ d. inl))
