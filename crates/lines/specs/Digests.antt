-- SHA-256 (FIPS 180-4) as text.
use Rattle.std.specs.Prelude.{ℕ, List, ◌++◌, codes}
use Rattle.base64.specs.Engines.{standard_no_pad}
use Rattle.base64.specs.GeneralPurpose.{encode_of}
use Rattle.hex.specs.Hex.{encode_lower}
use Rattle.sha2.specs.Sha256.{sha256}
use Rattle.lines.specs.Keys.{key_blob}

-- the digest of bytes, as 64 hexadecimal digits in lower case
abbrev pub digest_text : List ℕ → List ℕ
digest_text bytes = encode_lower (sha256 bytes)

-- the fingerprint of a key as ssh-keygen(1) shows it: the digest of its blob in unpadded base64 (43 characters)
abbrev pub fingerprint_text : List ℕ → List ℕ
fingerprint_text key = codes "SHA256:" ++ encode_of standard_no_pad (sha256 (key_blob key))
