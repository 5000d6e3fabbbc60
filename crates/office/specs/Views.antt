-- The preconditions of a decision on its view and its message.
use Rattle.std.specs.Prelude.{◌<◌, ◌≤◌, IsTrue, IfSome, option_copied}
use Rattle.message.specs.declared.department.Department.{Department}
use Rattle.message.specs.declared.issue.Issue.{Issue}
use Rattle.message.specs.declared.renewal.Renewal.{Renewal}
use Rattle.message.specs.Values.{is_department, is_issue, is_renewal}
use Rattle.office.specs.declared.certificate.Certificate.{Certificate}
use Rattle.office.specs.declared.view.View.{View}
use Rattle.office.specs.Openings.{IsOpening}
use Rattle.office.specs.Certificates.{IsCertificate}
use Rattle.office.specs.Permissions.{is_permitted}

-- the rows are of the form that an office writes, and the version has a successor
pub record IsView (v : View) : Type 0 where
  pub opening : IsOpening v.opening.now
  pub next : v.opening.now.first ≤ v.next
  pub version : v.version < 9223372036854775807
  pub department : IfSome (option_copied v.department) (λ d. IsTrue (is_department d))
  pub certificate : IfSome (option_copied v.certificate) IsCertificate

-- a serial is left
pub record HasSerial (v : View) : Type 0 where
  pub opening : IsOpening v.opening.now
  pub next : v.opening.now.first ≤ v.next
  pub left : v.next ≤ v.opening.now.last

-- a serial is left, and the department permits the issue; both are valid
pub record IsIssuable (v : View) (d : Department) (i : Issue) : Type 0 where
  pub serial : HasSerial v
  pub department : IsTrue (is_department d)
  pub issue : IsTrue (is_issue i)
  pub permitted : IsTrue (is_permitted d i)

-- a serial is left, and the requested validity isn't empty
pub record IsRenewable (v : View) (c : Certificate) (r : Renewal) : Type 0 where
  pub serial : HasSerial v
  pub certificate : IsCertificate c
  pub renewal : IsTrue (is_renewal r)
  pub order : r.after < r.before
