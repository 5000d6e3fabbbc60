-- Lists of questions, and what is known about each approved unsigned certificate (body).
use Rattle.std.specs.Prelude.{◌≡◌, ◌+◌, ◌<◌, ◌≤◌, List, ◌∷◌, ◌++◌, fold, All, Any, IsTrue, false, Some}
use Rattle.values.specs.Laws.{MeetsFor, MeetsName}
use Rattle.values.specs.Names.{department_of, is_for_names, name_of}
use Rattle.message.specs.declared.department.Department.{Department}
use Rattle.cert.specs.declared.fields.CertFields.{CertFields}
use Rattle.guard.specs.declared.approved.Approved.{Approved}
use Rattle.guard.specs.declared.scope.Scope.{Scope}
use Rattle.guard.specs.SmallOrder.{has_weak_key}
use Rattle.guard.specs.Machine.{State, Question, opened, fields_of, department_named, permits, row_of, after}

-- the state after a list of questions
abbrev pub state : Scope → List Question → State
state scope l = fold after (opened scope) l

-- what was approved is kept, followed by what was approved later
abbrev pub IsStill : State → State → Type 0
IsStill s later = (rows : List Approved) × (later.approved ≡ s.approved ++ rows)

-- the department has the certificate's kind, and the certificate is permitted: by its profile, and for its key
pub record Allows (d : Department) (c : CertFields) : Type 0 where
  pub name : d.name ≡ department_of c.key_id
  pub kind : d.kind ≡ c.kind
  pub permits : IsTrue (permits d c)

-- a body of the profile for this CA and one of its serials, allowed by the given policy, within its time
pub record MaySign (scope : Scope) (q : Question) (c : CertFields) : Type 0 where
  pub fields : fields_of q.body ≡ Some c
  pub ca : c.ca ≡ scope.ca
  pub from_first : scope.first ≤ c.serial
  pub to_last : c.serial ≤ scope.last
  pub allowed : (d : Department) × (department_named q.policy (department_of c.key_id) ≡ Some d) × Allows d c
  pub lasts : q.moment < c.before
  pub begins : c.after ≤ q.moment + q.ahead

-- the row is that of a question whose body could be signed
abbrev pub WasAsked : Scope → List Question → Approved → Type 0
WasAsked scope l a =
    (before : List Question) × (q : Question) × (later : List Question) × (c : CertFields)
    × (l ≡ before ++ q ∷ later) × MaySign scope q c × (a ≡ row_of q c)

-- each principal meets a rule of the department, a rule with {name} only by the name in the certificate's own key ID.
-- If all rules are for names, each principal is that name and the suffix of a rule
pub record HasOwnPrincipals (d : Department) (c : CertFields) : Type 0 where
  pub met : All (λ p. Any (MeetsFor (name_of c.key_id) p) d.rules) c.principals
  pub own : All (λ rule. IsTrue (is_for_names rule)) d.rules
      → All (λ p. Any (MeetsName (name_of c.key_id) p) d.rules) c.principals

-- the row is that of a question whose body has its own principals, by the department in the given policy
abbrev pub WasOwn : List Question → Approved → Type 0
WasOwn l a =
    (before : List Question) × (q : Question) × (later : List Question) × (c : CertFields) × (d : Department)
    × (l ≡ before ++ q ∷ later) × (fields_of q.body ≡ Some c)
    × (department_named q.policy (department_of c.key_id) ≡ Some d) × HasOwnPrincipals d c × (a ≡ row_of q c)

-- the row's body has a key, and this hasn't small order
pub record KeyHasNoSmallOrder (a : Approved) : Type 0 where
  pub fields : CertFields
  pub are : fields_of a.body ≡ Some fields
  pub order : has_weak_key fields.key_type fields.key ≡ false

-- what was approved later is only for keys that haven't small order
abbrev pub AddsNoSmallOrder : State → State → Type 0
AddsNoSmallOrder s later =
    (rows : List Approved) × (later.approved ≡ s.approved ++ rows) × All KeyHasNoSmallOrder rows
