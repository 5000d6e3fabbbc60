-- The effect of taking a nonce on its source.
use Rattle.std.specs.Prelude.{◌≡◌, ◌⊎◌, ◌<◌, ◌+◌, ℕ, List, [], length, Option, Result, Ok, Err}
use Rattle.std.specs.Io.KnownBytes.{Consumes, IsAtEnd}
use Rattle.web.specs.declared.serve_fault.ServeFault.{ServeFault}
use Rattle.web.specs.declared.serve_fault.ServeFault.TheVariants.{Read, Nonces, Store, NoMemory, Write}

-- the source had fewer bytes left than a nonce has
pub record NoncesRunOut (old new : Option (List ℕ)) : Type 0 where
  pub bytes : List ℕ
  pub consumed : Consumes old new bytes
  pub short : length bytes < 32
  pub ended : IsAtEnd new

-- the source failed or ended if the fault is `Nonces`, and didn't fail otherwise
abbrev pub HasNonceCause : {A : Type 0} → Result A ServeFault → (failed failed' : ℕ) → (old new : Option (List ℕ))
    → Type 0
HasNonceCause (Err Nonces) failed failed' old new = (failed' ≡ failed + 1) ⊎ ((failed' ≡ failed) × NoncesRunOut old new)
HasNonceCause (Ok a) failed failed' old new = failed' ≡ failed
HasNonceCause (Err Read) failed failed' old new = failed' ≡ failed
HasNonceCause (Err Store) failed failed' old new = failed' ≡ failed
HasNonceCause (Err NoMemory) failed failed' old new = failed' ≡ failed
HasNonceCause (Err Write) failed failed' old new = failed' ≡ failed

-- the number of bytes that a call draws: a nonce, or nothing if no request was read, or less if the source failed or
-- ended. Memory can run out before the nonce or after it.
abbrev pub IsDrawn : {A : Type 0} → Result A ServeFault → (drawn : List ℕ) → Type 0
IsDrawn (Ok a) drawn = length drawn ≡ 32
IsDrawn (Err Read) drawn = drawn ≡ []
IsDrawn (Err Nonces) drawn = length drawn < 32
IsDrawn (Err Store) drawn = length drawn ≡ 32
IsDrawn (Err NoMemory) drawn = (drawn ≡ []) ⊎ (length drawn ≡ 32)
IsDrawn (Err Write) drawn = length drawn ≡ 32

-- a call with this result drew that many bytes, and these are the next bytes of the source
pub record Draws {A : Type 0} (result : Result A ServeFault) (old new : Option (List ℕ)) : Type 0 where
  pub drawn : List ℕ
  pub consumed : Consumes old new drawn
  pub size : IsDrawn result drawn
