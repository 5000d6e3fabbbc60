-- The bytes that a failed writer has taken, or that a failed reader has given.
use Rattle.std.specs.Prelude.{ℕ, ◌<◌, List, length, take, Option}
use Rattle.std.specs.Io.KnownBytes.{Appends, Consumes}

-- known bytes grow by a prefix of these bytes
pub record AppendsBeginning (old new : Option (List ℕ)) (bytes : List ℕ) : Type 0 where
  pub count : ℕ
  pub grown : Appends old new (take count bytes)

-- known bytes lose a proper prefix of these bytes
pub record ConsumesBeginning (old new : Option (List ℕ)) (bytes : List ℕ) : Type 0 where
  pub count : ℕ
  pub short : count < length bytes
  pub given : Consumes old new (take count bytes)
