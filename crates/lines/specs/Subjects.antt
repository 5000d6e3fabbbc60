-- Keys that a certificate may be for. A key blob is the type's name and then strings, as many as the type has: RFC 8709
-- section 4, RFC 5656 section 3.1, RFC 4253 section 6.6, and OpenSSH's PROTOCOL.u2f ("SSH U2F Key formats"). A body has
-- the same strings between its nonce and its serial, after another name (PROTOCOL.certkeys).
use Rattle.std.specs.Prelude.{◌≡◌, ℕ, suc, zero, List, [], ◌∷◌, ◌++◌, length, take, codes, Bool, true, false, not, ◌&&◌, ◌||◌}
use Rattle.std.specs.Prelude.{◌==◌, nat_le, nat_lt, if◌then◌else◌, Option, Some, None, option_and_then}
use Rattle.std.specs.List.{flat_map, list_all}
use Rattle.std.specs.Str.{bytes_eq}
use Rattle.wire.specs.Reading.{string_at}
use Rattle.wire.specs.Texts.{string_text}
use Rattle.lines.specs.declared.subject.KeyType.{KeyType}
use Rattle.lines.specs.declared.subject.KeyType.TheVariants.{
  Ed25519,
  SkEd25519,
  EcdsaP256,
  EcdsaP384,
  EcdsaP521,
  SkEcdsaP256,
  Rsa,
}

-- the name of the certificate type
abbrev pub cert_name : KeyType → List ℕ
cert_name Ed25519 = codes "ssh-ed25519-cert-v01@openssh.com"
cert_name SkEd25519 = codes "sk-ssh-ed25519-cert-v01@openssh.com"
cert_name EcdsaP256 = codes "ecdsa-sha2-nistp256-cert-v01@openssh.com"
cert_name EcdsaP384 = codes "ecdsa-sha2-nistp384-cert-v01@openssh.com"
cert_name EcdsaP521 = codes "ecdsa-sha2-nistp521-cert-v01@openssh.com"
cert_name SkEcdsaP256 = codes "sk-ecdsa-sha2-nistp256-cert-v01@openssh.com"
cert_name Rsa = codes "ssh-rsa-cert-v01@openssh.com"

-- the name of the key type, as key blobs and public-key lines have it
abbrev pub key_name : KeyType → List ℕ
key_name Ed25519 = codes "ssh-ed25519"
key_name SkEd25519 = codes "sk-ssh-ed25519@openssh.com"
key_name EcdsaP256 = codes "ecdsa-sha2-nistp256"
key_name EcdsaP384 = codes "ecdsa-sha2-nistp384"
key_name EcdsaP521 = codes "ecdsa-sha2-nistp521"
key_name SkEcdsaP256 = codes "sk-ecdsa-sha2-nistp256@openssh.com"
key_name Rsa = codes "ssh-rsa"

-- this type, if the name is its own, or else another
abbrev pub type_or : (KeyType → List ℕ) → List ℕ → KeyType → Option KeyType → Option KeyType
type_or names name t other = if bytes_eq name (names t) then Some t else other

-- the type that has this name among these names
abbrev pub type_by : (KeyType → List ℕ) → List ℕ → Option KeyType
type_by names name =
    type_or names name Ed25519 (type_or names name SkEd25519 (type_or names name EcdsaP256
    (type_or names name EcdsaP384 (type_or names name EcdsaP521 (type_or names name SkEcdsaP256
    (type_or names name Rsa None))))))

-- the type whose certificates have this name
abbrev pub type_of : List ℕ → Option KeyType
type_of name = type_by cert_name name

-- the type whose keys have this name
abbrev pub type_named : List ℕ → Option KeyType
type_named name = type_by key_name name

-- ---- the strings of a key

-- a point that isn't compressed (SEC 1 section 2.3.3): the byte 4, and two coordinates, together of this size
abbrev pub is_point : ℕ → List ℕ → Bool
is_point size [] = false
is_point size (b ∷ rest) = b == 4 && length rest == size

-- whether the first byte is over 127
abbrev pub is_high : List ℕ → Bool
is_high [] = false
is_high (b ∷ rest) = nat_le 128 b

-- an mpint over zero, in its one shortest form (RFC 4251 section 5)
abbrev pub is_positive : List ℕ → Bool
is_positive [] = false
is_positive (b ∷ rest) = if b == 0 then is_high rest else nat_lt b 128

-- a modulus of 2048 to 16384 bits
abbrev pub is_modulus : List ℕ → Bool
is_modulus p =
    is_positive p && (nat_le 257 (length p) && (nat_le (length p) 2048 || bytes_eq (take 1 p) (0 ∷ [])))

-- an exponent from 3 to 2 ^ 63 - 1
abbrev pub is_exponent : List ℕ → Bool
is_exponent p = is_positive p && (nat_le (length p) 8 && not (bytes_eq p (1 ∷ []) || bytes_eq p (2 ∷ [])))

-- a name of what the key is for: `ssh:` and up to 251 printable bytes
abbrev pub is_application : List ℕ → Bool
is_application p =
    bytes_eq (take 4 p) (codes "ssh:") && (nat_le (length p) 255 && list_all (λ b. nat_le 32 b && nat_le b 126) p)

-- a test for each string of a key, in order
abbrev pub tests_of : KeyType → List (List ℕ → Bool)
tests_of Ed25519 = (λ p. length p == 32) ∷ []
tests_of SkEd25519 = (λ p. length p == 32) ∷ is_application ∷ []
tests_of EcdsaP256 = (λ p. bytes_eq p (codes "nistp256")) ∷ is_point 64 ∷ []
tests_of EcdsaP384 = (λ p. bytes_eq p (codes "nistp384")) ∷ is_point 96 ∷ []
tests_of EcdsaP521 = (λ p. bytes_eq p (codes "nistp521")) ∷ is_point 132 ∷ []
tests_of SkEcdsaP256 = (λ p. bytes_eq p (codes "nistp256")) ∷ is_point 64 ∷ is_application ∷ []
tests_of Rsa = is_exponent ∷ is_modulus ∷ []

-- how many strings a key has
abbrev pub part_count : KeyType → ℕ
part_count t = length (tests_of t)

-- as many strings as tests, and each passes its own
abbrev pub pass_each : List (List ℕ → Bool) → List (List ℕ) → Bool
pass_each [] [] = true
pass_each [] (p ∷ ps) = false
pass_each (test ∷ tests) [] = false
pass_each (test ∷ tests) (p ∷ ps) = test p && pass_each tests ps

-- the strings of a key of this type; none has more than 2049 bytes
abbrev pub are_parts : KeyType → List (List ℕ) → Bool
are_parts t ps = list_all (λ p. nat_le (length p) 2049) ps && pass_each (tests_of t) ps

-- the strings, joined
abbrev pub parts_text : List (List ℕ) → List ℕ
parts_text ps = flat_map string_text ps

-- these strings, and n more from the front of the bytes, and the rest
abbrev pub strings_from : ℕ → List (List ℕ) → List ℕ → Option (List (List ℕ) × List ℕ)
strings_from zero before bytes = Some (before, bytes)
strings_from (suc n) before bytes =
    option_and_then (λ s. strings_from n (before ++ s.0 ∷ []) s.1) (string_at bytes)

-- as many strings as a key of this type has
abbrev pub strings_at : KeyType → List ℕ → Option (List (List ℕ) × List ℕ)
strings_at t bytes = strings_from (part_count t) [] bytes

-- The strings and the remaining bytes are those of reading, or nothing is read.
abbrev pub GivesStrings : Option (List (List ℕ)) → List ℕ → Option (List (List ℕ) × List ℕ) → Type 0
GivesStrings (Some ps) rest read = read ≡ Some (ps, rest)
GivesStrings None rest read = read ≡ None
