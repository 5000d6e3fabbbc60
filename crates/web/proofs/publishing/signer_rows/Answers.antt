use Rattle.std.proofs.Common.{[]}
use Rattle.web.specs.Reports.{signer_rows_of}
use Rattle.web.proofs.Items.{one_item_more}
use Rattle.web.proofs.publishing.signer_rows.Goals as goal

pub loop-department-preserved : goal.loop-department-preserved
loop-department-preserved c =
    one_item_more (signer_rows_of c.args.cas.now) c.args.departments.now c.loop-department.department-index c.department-item.result
    [] c.loop-department.rows.items c.push_rows.new.rows.items c.loop-department-test.true c.department-item.is
    c.loop-department.invariant c.in_ok-push_rows.ensures
