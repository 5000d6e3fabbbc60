-- What each fault means: the fields before it are those of a valid unsigned certificate; the next one is cut or bad.
use Rattle.std.specs.Prelude.{
  ◌≡◌,
  ◌≢◌,
  ℕ,
  ◌<◌,
  List,
  [],
  ◌++◌,
  length,
  Bool,
  false,
  ◌==◌,
  if◌then◌else◌,
  Option,
  Some,
  is_some,
  option_and_then,
  IsTrue,
}
use Rattle.wire.specs.Reading.{u32_at, u64_at, string_at}
use Rattle.lines.specs.Keys.{key_blob}
use Rattle.values.specs.Names.{is_key_id}
use Rattle.values.specs.declared.kind.Kind.{Kind}
use Rattle.values.specs.declared.option_field.OptionField.TheVariants.{CriticalOptions, Extensions}
use Rattle.text.specs.declared.pair.Pair.{Pair}
use Rattle.cert.specs.Options.{is_options, options_text}
use Rattle.values.specs.Serials.{is_serial}
use Rattle.lines.specs.Subjects.{are_parts, cert_name, part_count, strings_at}
use Rattle.lines.specs.declared.subject.KeyType.{KeyType}
use Rattle.cert.specs.Bodies.{
  IsCertFields,
  kind_number,
  principals_text,
  front,
  are_principals,
  is_validity,
}
use Rattle.cert.specs.declared.fields.CertFields.{CertFields}
use Rattle.cert.specs.declared.cert_fault.CertFault.{CertFault}
use Rattle.cert.specs.declared.cert_fault.CertFault.TheVariants.{
  Truncated,
  WrongType,
  BadNonce,
  BadKey,
  BadSerial,
  BadKind,
  BadKeyId,
  BadPrincipals,
  BadValidity,
  BadOptions,
  BadExtensions,
  BadReserved,
  BadCa,
  TrailingBytes,
  NoMemory,
}

-- The bytes begin with the first n fields of a valid body, and this is the rest.
pub record LeavesRest (bytes : List ℕ) (n : ℕ) (c : CertFields) (rest : List ℕ) : Type 0 where
  pub lawful : IsCertFields c
  pub text : bytes ≡ front n c ++ rest

-- After the first n fields comes a string that isn't valid.
abbrev pub HasBadString : List ℕ → ℕ → (CertFields → List ℕ → Type 0) → Type 0
HasBadString bytes n Lawful =
    (c : CertFields) × (rest : List ℕ) × LeavesRest bytes n c rest
    × ((s : List ℕ × List ℕ) × (string_at rest ≡ Some s) × ¬ (Lawful c s.0))

-- two 8-byte numbers, and the bytes after them
abbrev pub ends_at : List ℕ → Option (ℕ × ℕ × List ℕ)
ends_at bytes =
    option_and_then (λ after. option_and_then (λ before. Some (
      after.0,
      before.0,
      before.1,
    )) (u64_at after.1)) (u64_at bytes)

-- whether the nth field is whole at the front of the bytes, after those of c: a key, a serial, a kind, two ends, or else
-- a string
abbrev pub is_whole : ℕ → CertFields → List ℕ → Bool
is_whole n c bytes =
    if n == 2 then is_some (strings_at c.key_type bytes)
    else (if n == 3 then is_some (u64_at bytes)
    else (if n == 4 then is_some (u32_at bytes)
    else (if n == 7 then is_some (ends_at bytes) else is_some (string_at bytes))))

-- what each fault means for the bytes; a refused allocation means nothing for them
abbrev pub IsCertFault : List ℕ → CertFault → Type 0
IsCertFault bytes Truncated =
    (n : ℕ) × (n < 12) × (c : CertFields) × (rest : List ℕ) × LeavesRest bytes n c rest × (is_whole n c rest ≡ false)
IsCertFault bytes WrongType = HasBadString bytes 0 (λ c s. (t : KeyType) × (s ≡ cert_name t))
IsCertFault bytes BadNonce = HasBadString bytes 1 (λ c s. length s ≡ 32)
IsCertFault bytes BadKey =
    (c : CertFields) × (rest : List ℕ) × LeavesRest bytes 2 c rest
    × ((ps : List (List ℕ) × List ℕ) × (strings_at c.key_type rest ≡ Some ps) × ¬ (IsTrue (are_parts c.key_type ps.0)))
IsCertFault bytes BadSerial =
    (c : CertFields) × (rest : List ℕ) × LeavesRest bytes 3 c rest
    × ((n : ℕ × List ℕ) × (u64_at rest ≡ Some n) × ¬ (IsTrue (is_serial n.0)))
IsCertFault bytes BadKind =
    (c : CertFields) × (rest : List ℕ) × LeavesRest bytes 4 c rest
    × ((n : ℕ × List ℕ) × (u32_at rest ≡ Some n) × ((kind : Kind) → n.0 ≢ kind_number kind))
IsCertFault bytes BadKeyId = HasBadString bytes 5 (λ c s. IsTrue (is_key_id s))
IsCertFault bytes BadPrincipals =
    HasBadString bytes 6 (λ c s. (ps : List (List ℕ)) × IsTrue (are_principals ps) × (s ≡ principals_text ps))
IsCertFault bytes BadValidity =
    (c : CertFields) × (rest : List ℕ) × LeavesRest bytes 7 c rest
    × ((ends : ℕ × ℕ × List ℕ) × (ends_at rest ≡ Some ends) × ¬ (IsTrue (is_validity ends.0 ends.1)))
IsCertFault bytes BadOptions =
    HasBadString bytes 8 (λ c s. (ps : List Pair) × IsTrue (is_options CriticalOptions c.kind ps) ×
    (s ≡ options_text ps))
IsCertFault bytes BadExtensions =
    HasBadString bytes 9 (λ c s. (ps : List Pair) × IsTrue (is_options Extensions c.kind ps) × (s ≡ options_text ps))
IsCertFault bytes BadReserved = HasBadString bytes 10 (λ c s. s ≡ [])
IsCertFault bytes BadCa = HasBadString bytes 11 (λ c s. (key : List ℕ) × (length key ≡ 32) × (s ≡ key_blob key))
IsCertFault bytes TrailingBytes = (c : CertFields) × (rest : List ℕ) × LeavesRest bytes 12 c rest × (rest ≢ [])
IsCertFault bytes NoMemory = Unit {0}
