use Rattle.std.proofs.Common.{[]}
use Rattle.web.specs.Reports.{department_report}
use Rattle.web.proofs.Items.{one_item_more}
use Rattle.web.proofs.departments.department_reports.Goals as goal

pub loop-department-preserved : goal.loop-department-preserved
loop-department-preserved c =
    one_item_more department_report c.args.departments.now c.loop-department.department-index c.department-item.result []
    c.loop-department.out.items c.put_department.new.out.items c.loop-department-test.true c.department-item.is
    c.loop-department.invariant c.in_ok-put_department.ensures
