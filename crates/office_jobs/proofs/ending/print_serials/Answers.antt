use Rattle.std.proofs.Common.{codes, decimal}
use Rattle.lines.proofs.Pieces.{writes_failed, writes_stop, writes_then}
use Rattle.office_jobs.proofs.ending.print_serials.Goals as goal

pub returns-in_err-print_piece : goal.returns-in_err-print_piece
returns-in_err-print_piece g c =
    writes_failed c.from_residual.result _ _ _ c.from_residual.ensures.0
    (writes_stop _ _ (codes "office ready ") _ c.in_err-print_piece.ensures)

pub returns-in_err-print_number : goal.returns-in_err-print_number
returns-in_err-print_number g c =
    writes_failed c.from_residual-in_err-print_number.result _ _ _ c.from_residual-in_err-print_number.ensures.0
    (writes_then _ _ _ _ (codes "office ready ") _ c.in_ok-print_piece.ensures
    (writes_stop _ _ (decimal c.args.opening.now.first) _ c.in_err-print_number.ensures))

pub returns-in_err-print_piece-2 : goal.returns-in_err-print_piece-2
returns-in_err-print_piece-2 g c =
    writes_failed c.from_residual-in_err-print_piece-2.result _ _ _ c.from_residual-in_err-print_piece-2.ensures.0
    (writes_then _ _ _ _ (codes "office ready ") _ c.in_ok-print_piece.ensures
    (writes_then _ _ _ _ (decimal c.args.opening.now.first) _ c.in_ok-print_number.ensures
    (writes_stop _ _ (codes " ") _ c.in_err-print_piece-2.ensures)))

pub returns-in_err-print_number-2 : goal.returns-in_err-print_number-2
returns-in_err-print_number-2 g c =
    writes_failed c.from_residual-in_err-print_number-2.result _ _ _ c.from_residual-in_err-print_number-2.ensures.0
    (writes_then _ _ _ _ (codes "office ready ") _ c.in_ok-print_piece.ensures
    (writes_then _ _ _ _ (decimal c.args.opening.now.first) _ c.in_ok-print_number.ensures
    (writes_then _ _ _ _ (codes " ") _ c.in_ok-print_piece-2.ensures
    (writes_stop _ _ (decimal c.args.opening.now.last) _ c.in_err-print_number-2.ensures))))

pub returns : goal.returns
returns g c =
    writes_then _ _ _ _ (codes "office ready ") _ c.in_ok-print_piece.ensures
    (writes_then _ _ _ _ (decimal c.args.opening.now.first) _ c.in_ok-print_number.ensures
    (writes_then _ _ _ _ (codes " ") _ c.in_ok-print_piece-2.ensures
    (writes_then _ _ _ _ (decimal c.args.opening.now.last) _ c.in_ok-print_number-2.ensures c.print_piece-3.ensures)))
