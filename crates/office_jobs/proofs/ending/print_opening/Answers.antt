use Rattle.std.proofs.Common.{◌++◌, codes, ◌∙◌}
use Rattle.lines.proofs.Pieces.{writes_as, writes_failed, writes_stop, writes_then}
use Rattle.lines.specs.Digests.{fingerprint_text}
use Rattle.office_jobs.proofs.Told.{ready_parts, serials_text}
use Rattle.office_jobs.proofs.ending.print_opening.Goals as goal

pub returns-in_err-print_serials : goal.returns-in_err-print_serials
returns-in_err-print_serials g c =
    writes_failed c.from_residual.result _ _ _ c.from_residual.ensures.0
    (writes_as (ready_parts c.args.opening.now)
    (writes_stop _ _ (serials_text c.args.opening.now) (fingerprint_text c.args.opening.now.ca ++ codes "\n")
    c.in_err-print_serials.ensures))

pub returns-in_err-print_piece : goal.returns-in_err-print_piece
returns-in_err-print_piece g c =
    writes_failed c.from_residual-in_err-print_piece.result _ _ _ c.from_residual-in_err-print_piece.ensures.0
    (writes_as (ready_parts c.args.opening.now)
    (writes_then _ _ _ _ (serials_text c.args.opening.now) _ c.in_ok-print_serials.ensures
    (writes_stop _ _ (fingerprint_text c.args.opening.now.ca) (codes "\n")
    (writes_as (c.as_slice.ensures ∙ c.fingerprint.ensures) c.in_err-print_piece.ensures))))

pub returns : goal.returns
returns g c =
    writes_as (ready_parts c.args.opening.now)
    (writes_then _ _ _ _ (serials_text c.args.opening.now) _ c.in_ok-print_serials.ensures
    (writes_then _ _ _ _ (fingerprint_text c.args.opening.now.ca) (codes "\n")
    (writes_as (c.as_slice.ensures ∙ c.fingerprint.ensures) c.in_ok-print_piece.ensures) c.print_piece-2.ensures))
