use Rattle.store.proofs.Words.{Err, HasCleanDisk, IsCaDue, List, Never, OfficeRow, Ok, arith, ca_of}
use Rattle.store.proofs.Words.{err_from_is_err_and, means_offices, reads_stay, state, stays_then, subst}
use Rattle.store.proofs.Judging.{judged_filled, judged_rows}
use Rattle.store.proofs.Moves.{filled, stays_told}
use Rattle.store.proofs.migration.moving.fill.Goals as goal

pub returns-in_ok-ca-in-Ok-clause-makes : goal.returns-in_ok-ca-in-Ok-clause-makes
returns-in_ok-ca-in-Ok-clause-makes g c clean =
    let mid = state g.S.Store c.every_office.new.conn in
    let still : HasCleanDisk mid = omega (arith, c.put.ensures.survives.clean) in
    rw c.told.ensures (filled _ mid _ c.in-Ok.rows.items c.in_ok-ca-in-Ok.ca c.put.result
    (λ con means. c.in-Ok.ensures.finds still con.offices (means_offices _ con means))
    (rw c.as_slice.ensures.value at c.in_ok-ca-in-Ok.ensures) (c.put.ensures.makes clean))

pub returns-in_ok-ca-in-Ok-clause-judges : goal.returns-in_ok-ca-in-Ok-clause-judges
returns-in_ok-ca-in-Ok-clause-judges g c clean con before =
    let mid = state g.S.Store c.every_office.new.conn in
    let still : HasCleanDisk mid = omega (arith, c.put.ensures.survives.clean) in
    let old = state g.S.Store c.args.conn.now in
    let new = state g.S.Store c.put.new.conn in
    rw c.told.ensures (judged_filled Never old mid new con c.in-Ok.rows.items c.in_ok-ca-in-Ok.ca c.put.result
    c.every_office.ensures.survives still c.put.ensures.survives.counts before.0
    (c.in-Ok.ensures.finds still con.offices (means_offices _ con before.0))
    (rw c.as_slice.ensures.value at c.in_ok-ca-in-Ok.ensures) (c.put.ensures.fault clean))

pub returns-in_err-ca-in-Ok-clause-judges : goal.returns-in_err-ca-in-Ok-clause-judges
returns-in_err-ca-in-Ok-clause-judges g c clean =
    let p = err_from_is_err_and c.from_residual.result c.from_residual.ensures.1 in
    rw (p.1, p.2) (λ con before.
    judged_rows con _ c.in-Ok.rows.items c.in_err-ca-in-Ok.field-0.0
    (c.in-Ok.ensures.finds clean con.offices (means_offices _ con before.0)).1
    (subst (λ (rows : List OfficeRow). IsCaDue (ca_of rows) (Err c.in_err-ca-in-Ok.field-0.0)) c.as_slice.ensures.value
    c.in_err-ca-in-Ok.ensures))

pub returns-in_ok-ca-in-Ok-clause-stays : goal.returns-in_ok-ca-in-Ok-clause-stays
returns-in_ok-ca-in-Ok-clause-stays g c clean =
    let mid = state g.S.Store c.every_office.new.conn in
    let still : HasCleanDisk mid = omega (arith, c.put.ensures.survives.clean) in
    rw c.told.ensures (stays_then {Y = Unit {0}} _ mid _ c.in-Ok.rows _ (reads_stay _ mid (Ok c.in-Ok.rows)
    (c.in-Ok.ensures.reads still)) (stays_told mid _ c.put.result (c.put.ensures.stays clean)))

pub returns-in_err-ca-in-Ok-clause-stays : goal.returns-in_err-ca-in-Ok-clause-stays
returns-in_err-ca-in-Ok-clause-stays g c clean =
    rw (err_from_is_err_and c.from_residual.result c.from_residual.ensures.1).1
    (λ inside. (reads_stay _ _ (Ok c.in-Ok.rows) (c.in-Ok.ensures.reads clean) inside).0)
