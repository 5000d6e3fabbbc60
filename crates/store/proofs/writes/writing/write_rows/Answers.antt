use Rattle.store.proofs.Words.{Contents, RefusesChange, RefusesRows, err_from_is_err_and, inl, inr, refl, state}
use Rattle.store.proofs.Words.{with_change, with_counters, with_request}
use Rattle.store.proofs.TransactionParts.{part_then, stopped_first}
use Rattle.store.proofs.WrittenParts.{leads_on}
use Rattle.store.proofs.writes.writing.write_rows.Goals as goal

pub returns : goal.returns
returns g c =
    let k = c.args.counters.now in
    let row = c.args.request.now in
    let number = c.args.number in
    let change = c.args.change.now in
    let old = state g.S.Store c.args.conn.now in
    let mid = state g.S.Store c.record.new.conn in
    let one = c.in_ok-record.ensures in
    let rest = c.make.ensures in
    let next : Contents → Contents = λ d. with_request row (with_counters k d) in
    part_then next (λ d. with_change number k.next change (next d)) (with_change number k.next change)
    (RefusesChange number k.next change) (RefusesRows number change k row) old mid (state g.S.Store c.make.new.conn)
    c.make.result (λ clean. leads_on next old mid (one.makes clean)) one.stays c.record.ensures.survives rest.makes
    rest.fault rest.stays rest.survives (λ clean d means. (refl, inr))

pub returns-in_err-record : goal.returns-in_err-record
returns-in_err-record g c =
    let p = err_from_is_err_and c.from_residual.result c.from_residual.ensures.1 in
    rw (p.1, p.2) (stopped_first c.in_err-record.ensures (λ d. inl))
