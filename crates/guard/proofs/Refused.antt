-- Which refusal applies to an unsigned certificate (body) that wasn't approved before.
use Rattle.std.proofs.Common.{◌≡◌, true, false, Some, None, refl}
use Rattle.std.specs.Prelude.{not}
use Rattle.message.specs.declared.department.Department.{Department}
use Rattle.cert.specs.declared.fields.CertFields.{CertFields}
use Rattle.message.specs.Permissions.{has_other_kind}
use Rattle.guard.specs.declared.refusal.Refusal.TheVariants.{NotPermitted}
use Rattle.guard.specs.Machine.{State, Question, body_of, department_for, first_holding, permits, refusals_of_new}

-- the profile doesn't permit the certificate, although the department exists and has its kind
pub not_permitted : (s : State) (q : Question) (c : CertFields) (d : Department) → body_of s c.serial ≡ None
    → department_for q.policy c ≡ Some d → has_other_kind (Some d) c.kind ≡ false → not (permits d c) ≡ true
    → Some NotPermitted ≡ first_holding (refusals_of_new s q c)
not_permitted s q c d kept there kind forbidden = rw (kept, there, kind, forbidden) refl
