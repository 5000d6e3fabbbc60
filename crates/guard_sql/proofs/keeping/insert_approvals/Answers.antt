use Rattle.std.proofs.Common.{◌≡◌, ◌+◌, ◌++◌, ◌∷◌, ◌∙◌, [], List, Err, Ok, ap, arith, drop, length, subst, sym, take}
use Rattle.std.proofs.lemmas.List.{take_all, take_more}
use Rattle.sqlite.specs.Held.{state}
use Rattle.guard.specs.declared.approved.Approved.{Approved}
use Rattle.guard_sql.specs.Several.{IsLow}
use Rattle.guard_sql.proofs.Several.{Written, around, failed, none_written, one_more}
use Rattle.rows.proofs.TransactionParts.{written}
use Rattle.guard_sql.proofs.keeping.insert_approvals.Goals as goal

pub loop-row-init : goal.loop-row-init
loop-row-init g c = none_written c.args.rows.now (state g.S.Store c.args.conn.now) c.requires.opens

pub insert_approval-requires : goal.insert_approval-requires
insert_approval-requires g c =
    subst IsLow (sym c.row-item.is) (c.requires.low c.loop-row.row-index c.row-item.result c.loop-row-test.true)

pub returns-in-Err : goal.returns-in-Err
returns-in-Err g c =
    let rows = c.args.rows.now in
    let i = c.loop-row.row-index in
    failed (take i rows ++ c.row-item.result ∷ []) rows (one_more rows (take i rows) c.row-item.result (drop (i + 1) rows)
    (around rows i c.row-item.result c.loop-row-test.true c.row-item.is) (state g.S.Store c.args.conn.now)
    (state g.S.Store c.loop-row.conn) (state g.S.Store c.insert_approval.new.conn) (Err c.in-Err.fault)
    c.loop-row.invariant (written c.in-Err.ensures))

pub loop-row-preserved : goal.loop-row-preserved
loop-row-preserved g c =
    let rows = c.args.rows.now in
    let i = c.loop-row.row-index in
    let row = c.row-item.result in
    subst (λ (some : List Approved). Written rows some (state g.S.Store c.args.conn.now)
    (state g.S.Store c.insert_approval.new.conn))
    (sym (take_more rows i row c.loop-row-test.true ∙ ap (λ (a : Approved). take i rows ++ a ∷ []) (sym c.row-item.is)))
    (one_more rows (take i rows) row (drop (i + 1) rows)
    (around rows i row c.loop-row-test.true c.row-item.is) (state g.S.Store c.args.conn.now)
    (state g.S.Store c.loop-row.conn) (state g.S.Store c.insert_approval.new.conn) (Ok tt) c.loop-row.invariant
    (written c.in-Ok.ensures))
