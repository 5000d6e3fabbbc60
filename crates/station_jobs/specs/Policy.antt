-- The names of a policy's departments.
use Rattle.std.specs.Prelude.{◌≡◌, ◌++◌, ◌∷◌, [], ℕ, List, Option, Ok}
use Rattle.std.specs.List.{flat_map}
use Rattle.std.specs.Io.KnownBytes.{Appends}
use Rattle.wire.specs.Streams.{AppendsBeginning}
use Rattle.message.specs.declared.department.Department.{Department}
use Rattle.guard.specs.Policies.{policy_at}

-- each name with a line feed
abbrev pub names_text : List Department → List ℕ
names_text policy = flat_map (λ d. d.name ++ 10 ∷ []) policy

-- the bytes are a policy, and the names of its departments are printed
pub record PrintsNames (bytes : List ℕ) (held holds : Option (List ℕ)) : Type 0 where
  pub policy : List Department
  pub is : policy_at bytes ≡ Ok policy
  pub printed : Appends held holds (names_text policy)

-- the same, if the output fails: a prefix of the names is printed
pub record PrintsFirstNames (bytes : List ℕ) (held holds : Option (List ℕ)) : Type 0 where
  pub policy : List Department
  pub is : policy_at bytes ≡ Ok policy
  pub printed : AppendsBeginning held holds (names_text policy)
