use Rattle.std.proofs.Common.{arith}
use Rattle.exchanges.specs.Printing.{given_text}
use Rattle.lines.proofs.Pieces.{writes_failed, writes_more, writes_part}
use Rattle.exchanges.proofs.printing.print_given.Goals as goal

pub returns-in_err-print_one : goal.returns-in_err-print_one
returns-in_err-print_one g c =
    writes_failed c.from_residual.result _ _ _ c.from_residual.ensures.0
    (writes_part given_text c.args.given.now c.loop-one.one-index c.one-item.result _ _ _
    (omega arith) c.one-item.is c.loop-one.invariant c.in_err-print_one.ensures)

pub loop-one-preserved : goal.loop-one-preserved
loop-one-preserved g c =
    writes_more given_text c.args.given.now c.loop-one.one-index c.one-item.result _ _ _
    (omega arith) c.one-item.is c.loop-one.invariant c.in_ok-print_one.ensures
