use Rattle.std.proofs.Common.{◌∷◌, []}
use Rattle.lines.proofs.Pieces.{writes_as, writes_then}
use Rattle.lines.proofs.signers.write_other.Goals as goal

pub returns : goal.returns
returns g c = writes_then _ _ _ _ (44 ∷ []) c.args.text.now c.in_ok-write_piece.ensures
    (writes_as c.as_slice.ensures c.write_piece-2.ensures)
