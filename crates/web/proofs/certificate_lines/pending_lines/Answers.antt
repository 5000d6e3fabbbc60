use Rattle.std.proofs.Common.{[]}
use Rattle.web.specs.Reports.{pending_line}
use Rattle.web.proofs.Items.{one_copy_more}
use Rattle.web.proofs.certificate_lines.pending_lines.Goals as goal

pub loop-row-preserved : goal.loop-row-preserved
loop-row-preserved c =
    one_copy_more pending_line c.args.rows.now c.loop-row.row-index (record { serial = 0; digest = [] }) []
    c.loop-row.out.items c.put_pending.new.out.items c.loop-row-test.true c.loop-row.invariant c.in_ok-put_pending.ensures
