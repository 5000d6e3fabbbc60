use Rattle.std.proofs.Common.{ap}
use Rattle.lines.specs.Signers.{list_text}
use Rattle.lines.proofs.Pieces.{writes_as, writes_failed, writes_stop, writes_then}
use Rattle.lines.proofs.signers.write_signer.Goals as goal

pub returns-in_err-write_list : goal.returns-in_err-write_list
returns-in_err-write_list g c =
    writes_failed c.from_residual.result _ _ _ c.from_residual.ensures.0
    (writes_stop _ _ (list_text c.args.row.now.rules) _ (writes_as
    (ap list_text c.as_slice.ensures) c.in_err-write_list.ensures))

pub returns-in_err-write_piece : goal.returns-in_err-write_piece
returns-in_err-write_piece g c =
    writes_failed c.from_residual-in_err-write_piece.result _ _ _ c.from_residual-in_err-write_piece.ensures.0
    (writes_then _ _ _ _ (list_text c.args.row.now.rules) _ (writes_as
    (ap list_text c.as_slice.ensures) c.in_ok-write_list.ensures)
    (writes_stop _ _ _ _ c.in_err-write_piece.ensures))

pub returns-in_err-write_list-2 : goal.returns-in_err-write_list-2
returns-in_err-write_list-2 g c =
    writes_failed c.from_residual-in_err-write_list-2.result _ _ _ c.from_residual-in_err-write_list-2.ensures.0
    (writes_then _ _ _ _ (list_text c.args.row.now.rules) _ (writes_as
    (ap list_text c.as_slice.ensures) c.in_ok-write_list.ensures)
    (writes_then _ _ _ _ _ _ c.in_ok-write_piece.ensures
    (writes_stop _ _ (list_text c.args.row.now.namespaces) _ (writes_as
    (ap list_text c.as_slice-2.ensures) c.in_err-write_list-2.ensures))))

pub returns : goal.returns
returns g c =
    writes_then _ _ _ _ (list_text c.args.row.now.rules) _ (writes_as
    (ap list_text c.as_slice.ensures) c.in_ok-write_list.ensures)
    (writes_then _ _ _ _ _ _ c.in_ok-write_piece.ensures
    (writes_then _ _ _ _ (list_text c.args.row.now.namespaces) _ (writes_as
    (ap list_text c.as_slice-2.ensures) c.in_ok-write_list-2.ensures)
    (writes_as c.signer_end.ensures c.write_piece-2.ensures)))
