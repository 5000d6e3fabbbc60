-- The reference model of the guard: one question at a time.
use Rattle.std.specs.Prelude.{◌+◌, List, [], ◌∷◌, ◌++◌, Bool, false, not, ◌&&◌, ◌||◌, nat_lt, nat_le}
use Rattle.std.specs.Prelude.{fold, if◌then◌else◌, Option, Some, None, is_none, is_some}
use Rattle.std.specs.Option.{option_map_or}
use Rattle.std.specs.Str.{bytes_eq}
use Rattle.values.specs.Names.{department_of, name_of}
use Rattle.message.specs.declared.department.Department.{Department}
use Rattle.cert.specs.declared.fields.CertFields.{CertFields}
use Rattle.message.specs.Permissions.{are_listed, are_options_permitted, has_other_kind, is_key_permitted}
use Rattle.message.specs.Permissions.{is_life_permitted, is_missing, meet_rules}
use Rattle.guard.specs.declared.approved.Approved.{Approved}
use Rattle.guard.specs.declared.refusal.Refusal.{Refusal}
use Rattle.guard.specs.declared.refusal.Refusal.TheVariants.{
  NotABody,
  OtherCa,
  OtherSerial,
  SerialTaken,
  NoDepartment,
  OtherKind,
  NotPermitted,
  AlreadyEnded,
  TooFarAhead,
}
use Rattle.guard.specs.SmallOrder.{has_weak_key}
pub use Rattle.guard.specs.State.{State, Question, opened, fields_of, department_named, body_of, is_same, is_other}

-- ---- refusals

-- in the terms of departments: each principal meets a rule, options are permitted and those that must be are there,
-- extensions are listed, the lifetime isn't too long, the key has a type that is permitted.
-- In the guard's own: the key hasn't small order
abbrev pub permits : Department → CertFields → Bool
permits d c =
    meet_rules d (name_of c.key_id) c.principals
    && (are_options_permitted d c.options
    && (are_listed d.extensions c.extensions
    && (is_life_permitted d c.after c.before
    && (is_key_permitted d c.key_type
    && not (has_weak_key c.key_type c.key)))))

abbrev pub is_permitted_by : Option Department → CertFields → Bool
is_permitted_by (Some d) c = permits d c
is_permitted_by None c = false

-- the department that the key id names
abbrev pub department_for : List Department → CertFields → Option Department
department_for policy c = department_named policy (department_of c.key_id)

-- the refusals of an unsigned certificate (body) that wasn't approved before
abbrev pub refusals_of_new : State → Question → CertFields → List (Refusal × Bool)
refusals_of_new s q c =
    (SerialTaken, is_other q.body (body_of s c.serial))
    ∷ (NoDepartment, is_missing (department_for q.policy c))
    ∷ (OtherKind, has_other_kind (department_for q.policy c) c.kind)
    ∷ (NotPermitted, not (is_permitted_by (department_for q.policy c) c))
    ∷ (AlreadyEnded, nat_le c.before q.moment)
    ∷ (TooFarAhead, nat_lt (q.moment + q.ahead) c.after)
    ∷ []

-- the refusals of a body with these fields; if it was approved before, neither the policy nor the time matters
abbrev pub refusals_of_body : State → Question → CertFields → List (Refusal × Bool)
refusals_of_body s q c =
    (OtherCa, not (bytes_eq c.ca s.scope.ca))
    ∷ (OtherSerial, nat_lt c.serial s.scope.first || nat_lt s.scope.last c.serial)
    ∷ (if is_same q.body (body_of s c.serial) then [] else refusals_of_new s q c)

-- the table: the refusals in order of their numbers, each with the test whether it applies
abbrev pub refusals : State → Question → List (Refusal × Bool)
refusals s q =
    (NotABody, is_none (fields_of q.body)) ∷ option_map_or (λ c. refusals_of_body s q c) (fields_of q.body) []

-- the first refusal that applies
abbrev pub first_holding : List (Refusal × Bool) → Option Refusal
first_holding [] = None
first_holding (r ∷ rs) = if r.1 then Some r.0 else first_holding rs

-- the refusal of a question; if there is none, the body may be signed
abbrev pub refusal_of : State → Question → Option Refusal
refusal_of s q = first_holding (refusals s q)

-- ---- the state after a question

-- the row that is kept for a body
abbrev pub row_of : Question → CertFields → Approved
row_of q c = record { serial = c.serial; moment = q.moment; body = q.body }

-- the state with one more row
abbrev pub with_approved : State → Approved → State
with_approved s row = record s { approved = s.approved ++ row ∷ [] }

-- a body that was approved before is kept only once
abbrev pub with_fields : State → Question → Option CertFields → State
with_fields s q (Some c) = if is_same q.body (body_of s c.serial) then s else with_approved s (row_of q c)
with_fields s q None = s

-- the state with more rows
abbrev pub with_rows : State → List Approved → State
with_rows s rows = record s { approved = s.approved ++ rows }

-- the state after a question; a refusal leaves it unchanged
abbrev pub after : State → Question → State
after s q = if is_some (refusal_of s q) then s else with_fields s q (fields_of q.body)

-- the state after several questions, in order
abbrev pub after_all : State → List Question → State
after_all s questions = fold after s questions
