-- The state of the guard's reference model, and the questions that it answers.
use Rattle.std.specs.Prelude.{ℕ, List, [], length, find, Bool, false, not, ◌==◌, nat_lt}
use Rattle.std.specs.Prelude.{if◌then◌else◌, Option, None}
use Rattle.std.specs.Option.{option_map, option_map_or}
use Rattle.std.specs.Result.{result_ok}
use Rattle.std.specs.Str.{bytes_eq}
use Rattle.message.specs.declared.department.Department.{Department}
use Rattle.cert.specs.declared.fields.CertFields.{CertFields}
use Rattle.cert.specs.Reading.{body_at}
use Rattle.guard.specs.declared.approved.Approved.{Approved}
use Rattle.guard.specs.declared.scope.Scope.{Scope}

pub record State : Type 0 where
  pub scope : Scope
  -- in order of approval
  pub approved : List Approved

-- a guard that has approved nothing yet
abbrev pub opened : Scope → State
opened scope = record { scope = scope; approved = [] }

-- whether these bytes may be signed at this time
pub record Question : Type 0 where
  pub policy : List Department
  pub moment : ℕ
  -- how many seconds after that time a validity may begin
  pub ahead : ℕ
  pub body : List ℕ

-- the fields of an unsigned certificate (body) of the profile that isn't too long
abbrev pub fields_of : List ℕ → Option CertFields
fields_of bytes = if nat_lt 16384 (length bytes) then None else result_ok (body_at bytes)

-- the department with this name
abbrev pub department_named : List Department → List ℕ → Option Department
department_named policy name = find (λ d. bytes_eq d.name name) policy

-- the body that was approved under a serial
abbrev pub body_of : State → ℕ → Option (List ℕ)
body_of s serial = option_map (λ a. a.body) (find (λ a. a.serial == serial) s.approved)

-- there is a body, and it is this one
abbrev pub is_same : List ℕ → Option (List ℕ) → Bool
is_same body kept = option_map_or (λ b. bytes_eq b body) kept false

-- there is a body, and it is a different one
abbrev pub is_other : List ℕ → Option (List ℕ) → Bool
is_other body kept = option_map_or (λ b. not (bytes_eq b body)) kept false
