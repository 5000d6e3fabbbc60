-- The CA that signs the certificate with a serial.
use Rattle.std.specs.Prelude.{ℕ, List, Bool, nat_le, fold, if◌then◌else◌}
use Rattle.std.specs.Str.{bytes_eq}
use Rattle.office.specs.declared.ca.Ca.{Ca}
use Rattle.office.specs.State.{State}

-- the CA's key if the CA had been added when the serial was handed out, or else the given key, of an earlier CA
abbrev pub key_at : ℕ → List ℕ → Ca → List ℕ
key_at serial key ca = if nat_le ca.since serial then ca.key else key

-- the key of the CA with the greatest number that had been added when the serial was handed out
abbrev pub signer_of : State → ℕ → List ℕ
signer_of s serial = fold (key_at serial) s.opening.ca s.cas

-- whether the serial's signer has this CA's key
abbrev pub is_signer : Ca → State → ℕ → Bool
is_signer ca s serial = bytes_eq ca.key (signer_of s serial)
