use Rattle.std.proofs.Common.{[]}
use Rattle.office.specs.History.{state}
use Rattle.office.specs.declared.publication.Pending.{Pending}
use Rattle.office.proofs.Registers.{preserves_both}
use Rattle.waiting.specs.Knowing.{serial_waits}
use Rattle.waiting.proofs.Asked.{one_row_more, raised}
use Rattle.waiting.proofs.asking.still_waiting.Goals as goal

pub loop-row-preserved : goal.loop-row-preserved
loop-row-preserved g c = record {
  preserves = preserves_both g.met.R.Registry.through c.loop-row.invariant.preserves c.push_waiting.ensures.preserves;
  rows = λ h o l m are.
      let before = c.push_waiting.ensures.preserves.honest h in
      one_row_more (λ (row : Pending). serial_waits (state o l) row.serial) c.args.rows.now c.loop-row.row-index
      (record { serial = 0; digest = [] }) c.loop-row.kept.items c.push_waiting.new.rows.items c.loop-row-test.true
      (c.loop-row.invariant.rows before o l m are)
      (c.in_ok-push_waiting.ensures.row h o l (c.loop-row.invariant.preserves.same before o l m) are);
}

pub returns-in_err-push_waiting-clause-cause : goal.returns-in_err-push_waiting-clause-cause
returns-in_err-push_waiting-clause-cause g c h =
    raised c.from_residual.result c.in_err-push_waiting.field-0.0 _ _ c.from_residual.ensures.1
    (λ f. record {
      before = c.loop-row.register;
      same = λ o l m. c.loop-row.invariant.preserves.same (c.push_waiting.ensures.preserves.honest h) o l m;
      failed = f;
    }) c.in_err-push_waiting.ensures.cause
