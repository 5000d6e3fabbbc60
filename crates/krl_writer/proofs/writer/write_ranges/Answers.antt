use Rattle.krl.proofs.Words.{arith, get_or, get_or_default, range_text, writes_failed, writes_more, writes_part}
use Rattle.krl.specs.declared.run.Run.{Run}
use Rattle.krl_writer.proofs.writer.write_ranges.Goals as goal

abbrev nothing : Run
nothing = record { lo = 0; hi = 0 }

pub returns-in_err-write_long : goal.returns-in_err-write_long
returns-in_err-write_long g c =
    let rs = c.args.runs.now in
    let i = c.loop-run.run-index in
    let run = get_or rs i nothing in
    writes_failed c.from_residual.result _ _ _ c.from_residual.ensures.0 (writes_part range_text rs i run _ _ _
    (omega arith) (get_or_default rs i nothing run (omega arith)) c.loop-run.invariant c.in_err-write_long.ensures)

pub loop-run-preserved : goal.loop-run-preserved
loop-run-preserved g c =
    let rs = c.args.runs.now in
    let i = c.loop-run.run-index in
    let run = get_or rs i nothing in
    writes_more range_text rs i run _ _ _ (omega arith) (get_or_default rs i nothing run (omega arith))
    c.loop-run.invariant c.in_ok-write_long.ensures
