use Rattle.std.proofs.Common.{arith}
use Rattle.lines.specs.Signers.{signer_text}
use Rattle.lines.proofs.Pieces.{writes_failed, writes_more, writes_part}
use Rattle.lines.proofs.signers.write_rows.Goals as goal

pub returns-in_err-write_signer : goal.returns-in_err-write_signer
returns-in_err-write_signer g c =
    writes_failed c.from_residual.result _ _ _ c.from_residual.ensures.0
    (writes_part signer_text c.args.rows.now c.loop-row.row-index c.row-item.result _ _ _
    (omega arith) c.row-item.is c.loop-row.invariant c.in_err-write_signer.ensures)

pub loop-row-preserved : goal.loop-row-preserved
loop-row-preserved g c =
    writes_more signer_text c.args.rows.now c.loop-row.row-index c.row-item.result _ _ _
    (omega arith) c.row-item.is c.loop-row.invariant c.in_ok-write_signer.ensures
