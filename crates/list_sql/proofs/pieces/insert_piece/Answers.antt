use Rattle.list_sql.specs.Rows.{piece_row}
use Rattle.rows.proofs.CallLemmas.{wrote}
use Rattle.list_sql.proofs.ListTable.{list_fails, put}
use Rattle.list_sql.proofs.pieces.insert_piece.Goals as goal

pub returns : goal.returns
returns g c =
    let row = piece_row c.args.list.now c.args.at in
    let ran = rw c.piece_values.ensures at c.execute.ensures in
    wrote (put row) (list_fails row c.requires.low) c.execute.result c.done.result ran.runs ran.survives
    c.done.ensures.is
