use Rattle.std.proofs.Common.{◌∷◌, arith}
use Rattle.lines.proofs.Pieces.{writes_failed, writes_more, writes_part}
use Rattle.lines.proofs.signers.write_others.Goals as goal

pub returns-in_err-write_other : goal.returns-in_err-write_other
returns-in_err-write_other g c =
    writes_failed c.from_residual.result _ _ _ c.from_residual.ensures.0
    (writes_part (λ t. 44 ∷ t) c.args.texts.now c.loop-text.text-index c.text-item.result _ _ _
    (omega arith) c.text-item.is c.loop-text.invariant c.in_err-write_other.ensures)

pub loop-text-preserved : goal.loop-text-preserved
loop-text-preserved g c =
    writes_more (λ t. 44 ∷ t) c.args.texts.now c.loop-text.text-index c.text-item.result _ _ _
    (omega arith) c.text-item.is c.loop-text.invariant c.in_ok-write_other.ensures
