-- When a decision from one row is that of the guard's reference model.
use Rattle.std.specs.Prelude.{◌≡◌, ℕ, List, map, Some, None, option_copied}
use Rattle.message.specs.declared.department.Department.{Department}
use Rattle.cert.specs.declared.fields.CertFields.{CertFields}
use Rattle.guard.specs.declared.verdict.View.{View}
use Rattle.guard.specs.declared.verdict.Window.{Window}
use Rattle.guard.specs.declared.verdict.Verdict.{Verdict}
use Rattle.guard.specs.declared.verdict.Verdict.TheVariants as verdict
use Rattle.guard.specs.Machine.{State, Question, body_of, refusal_of, row_of, with_approved, after}

abbrev pub question : List Department → Window → List ℕ → Question
question policy w body = record { policy = policy; moment = w.moment; ahead = w.ahead; body = body }

-- one question for each body, by the same policy and at the same time
abbrev pub questions : List Department → Window → List (List ℕ) → List Question
questions policy w bodies = map (question policy w) bodies

-- the view shows the guard's scope, and the body that was approved under the serial of these fields
pub record Agrees (v : View) (s : State) (c : CertFields) : Type 0 where
  pub scope : v.scope ≡ s.scope
  pub kept : option_copied v.kept ≡ body_of s c.serial

-- the verdict is the model's, and determines the next state
abbrev pub Decided : Verdict → State → Question → CertFields → Type 0
Decided verdict.Approve s q c =
    (refusal_of s q ≡ None) × (body_of s c.serial ≡ None) × (after s q ≡ with_approved s (row_of q c))
Decided verdict.Again s q c = (refusal_of s q ≡ None) × (body_of s c.serial ≡ Some q.body) × (after s q ≡ s)
Decided (verdict.Refuse r) s q c = (refusal_of s q ≡ Some r) × (after s q ≡ s)
