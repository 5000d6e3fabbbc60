use Rattle.std.proofs.Common.{◌≡◌, take}
use Rattle.web.specs.Reports.{department_reports}
use Rattle.web.proofs.departments.department_reports.Given as goal

abbrev pub invariant-loop-department : goal.invariant-loop-department
invariant-loop-department l = l.out.items ≡ department_reports (take l.department-index l.departments)
