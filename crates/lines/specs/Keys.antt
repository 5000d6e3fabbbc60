-- Ed25519 keys and signatures (RFC 8709, sections 4 and 6).
use Rattle.std.specs.Prelude.{ℕ, List, ◌++◌, length, drop, codes, ◌&&◌, ◌==◌, if◌then◌else◌, Option, Some, None}
use Rattle.std.specs.Str.{bytes_eq}
use Rattle.wire.specs.Texts.{string_text}

-- the name of the key type, and of the signature algorithm
abbrev pub ed25519 : List ℕ
ed25519 = codes "ssh-ed25519"

-- the key blob for the 32 bytes of a public key: 51 bytes
abbrev pub key_blob : List ℕ → List ℕ
key_blob key = string_text ed25519 ++ string_text key

-- the signature blob for the 64 bytes of a signature: 83 bytes
abbrev pub signature_blob : List ℕ → List ℕ
signature_blob signature = string_text ed25519 ++ string_text signature

-- the 32 bytes of the key in a key blob
abbrev pub key_of : List ℕ → Option (List ℕ)
key_of blob = if bytes_eq blob (key_blob (drop 19 blob)) && length blob == 51 then Some (drop 19 blob) else None

-- the 64 bytes of the signature in a signature blob
abbrev pub signature_of : List ℕ → Option (List ℕ)
signature_of blob =
    if bytes_eq blob (signature_blob (drop 19 blob)) && length blob == 83 then Some (drop 19 blob) else None
