-- What a caller has whom a department means by the name in a key ID alone.
use Rattle.std.specs.Prelude.{ℕ, List, All, Any}
use Rattle.values.specs.Laws.{IsMeant, MeetsName}
use Rattle.message.specs.declared.department.Department.{Department}

-- an administrator of the department, a prefix and {name}, is the caller with this name
abbrev pub IsMeantBy : Department → (name caller : List ℕ) → Type 0
IsMeantBy d name caller = Any (IsMeant name caller) d.administrators

-- it means the caller, and each principal is the name and what follows {name} in a rule of the department
pub record HasOwn (d : Department) (name caller : List ℕ) (principals : List (List ℕ)) : Type 0 where
  pub meant : IsMeantBy d name caller
  pub own : All (λ p. Any (MeetsName name p) d.rules) principals
