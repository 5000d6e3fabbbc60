use Rattle.krl.proofs.Words.{arith, get_or, get_or_default, listed_text, writes_failed, writes_more, writes_part}
use Rattle.krl.specs.declared.run.Run.{Run}
use Rattle.krl_writer.proofs.writer.write_listed.Goals as goal

abbrev nothing : Run
nothing = record { lo = 0; hi = 0 }

pub returns-in_err-write_short : goal.returns-in_err-write_short
returns-in_err-write_short g c =
    let rs = c.args.runs.now in
    let i = c.loop-run.run-index in
    let run = get_or rs i nothing in
    writes_failed c.from_residual.result _ _ _ c.from_residual.ensures.0 (writes_part listed_text rs i run _ _ _
    (omega arith) (get_or_default rs i nothing run (omega arith)) c.loop-run.invariant c.in_err-write_short.ensures)

pub loop-run-preserved : goal.loop-run-preserved
loop-run-preserved g c =
    let rs = c.args.runs.now in
    let i = c.loop-run.run-index in
    let run = get_or rs i nothing in
    writes_more listed_text rs i run _ _ _ (omega arith) (get_or_default rs i nothing run (omega arith))
    c.loop-run.invariant c.in_ok-write_short.ensures
