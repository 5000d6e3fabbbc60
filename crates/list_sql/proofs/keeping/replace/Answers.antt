use Rattle.std.proofs.Common.{◌≡◌, Err, Ok, arith, subst, ◌∙◌}
use Rattle.sqlite.specs.Held.{state}
use Rattle.list_sql.proofs.PieceLemmas.{Written, failed, one_more}
use Rattle.rows.proofs.TransactionParts.{written}
use Rattle.list_sql.proofs.keeping.replace.Goals as goal

pub returns-in-Err : goal.returns-in-Err
returns-in-Err g c = failed (written c.in-Err.ensures)

pub loop-at-init : goal.loop-at-init
loop-at-init g c = written c.in-Ok.ensures

pub returns-in-Err-insert_piece : goal.returns-in-Err-insert_piece
returns-in-Err-insert_piece g c = failed (one_more c.args.list.now c.loop-at.at (state g.S.Store c.args.conn.now)
    (state g.S.Store c.loop-at.conn) (state g.S.Store c.insert_piece.new.conn) (Err c.in-Err-insert_piece.fault)
    c.loop-at.invariant (written c.in-Err-insert_piece.ensures))

pub loop-at-preserved : goal.loop-at-preserved
loop-at-preserved g c = one_more c.args.list.now c.loop-at.at (state g.S.Store c.args.conn.now)
    (state g.S.Store c.loop-at.conn) (state g.S.Store c.insert_piece.new.conn) (Ok tt) c.loop-at.invariant
    (written c.in-Ok-insert_piece.ensures)

pub returns : goal.returns
returns g c =
    let at = c.loop-at in
    let end : at.at ≡ c.piece_count-at-end.result = omega (arith, c.loop-at-test.false, at.auto.at-end) in
    subst (λ count. Written c.args.list.now count (state g.S.Store c.args.conn.now) (state g.S.Store at.conn))
    (end ∙ c.piece_count-at-end.ensures) at.invariant
