use Rattle.std.proofs.Common.{◌≡◌, take}
use Rattle.web.specs.Reports.{signer_rows}
use Rattle.web.proofs.publishing.signer_rows.Given as goal

abbrev pub invariant-loop-department : goal.invariant-loop-department
invariant-loop-department l = l.rows.items ≡ signer_rows (take l.department-index l.departments) l.cas
