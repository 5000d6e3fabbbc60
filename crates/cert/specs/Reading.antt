-- Reading bytes as an unsigned certificate (body), from left to right: its fields, or the first fault.
use Rattle.std.specs.Prelude.{
  ◌≡◌,
  ℕ,
  zero,
  suc,
  List,
  [],
  ◌∷◌,
  length,
  Bool,
  ◌&&◌,
  ◌==◌,
  nat_le,
  if◌then◌else◌,
  Option,
  Some,
  None,
  option_and_then,
  Result,
  Ok,
  Err,
}
use Rattle.std.specs.Option.{option_map}
use Rattle.text.specs.Results.{◌>>=◌, or_fault}
use Rattle.text.specs.declared.pair.Pair.{Pair}
use Rattle.wire.specs.Reading.{u32_at, u64_at, string_at}
use Rattle.lines.specs.Keys.{key_of}
use Rattle.values.specs.Lists.{are_distinct}
use Rattle.values.specs.Names.{is_key_id, is_principal}
use Rattle.values.specs.Options.{is_flag}
use Rattle.values.specs.declared.kind.Kind.{Kind}
use Rattle.values.specs.declared.kind.Kind.TheVariants.{User, Host}
use Rattle.values.specs.declared.option_field.OptionField.{OptionField}
use Rattle.values.specs.declared.option_field.OptionField.TheVariants.{CriticalOptions, Extensions}
use Rattle.cert.specs.Options.{comes_before, is_option}
use Rattle.values.specs.Serials.{is_serial}
use Rattle.lines.specs.Subjects.{are_parts, strings_at, type_of}
use Rattle.lines.specs.declared.subject.KeyType.{KeyType}
use Rattle.cert.specs.Bodies.{is_validity}
use Rattle.cert.specs.declared.fields.CertFields.{CertFields}
use Rattle.cert.specs.declared.cert_fault.CertFault.{CertFault}
use Rattle.cert.specs.declared.cert_fault.CertFault.TheVariants.{
  Truncated,
  WrongType,
  BadNonce,
  BadKey,
  BadSerial,
  BadKind,
  BadKeyId,
  BadPrincipals,
  BadValidity,
  BadOptions,
  BadExtensions,
  BadReserved,
  BadCa,
  TrailingBytes,
  NoMemory,
}

abbrev pub check : CertFault → Bool → Result (Unit {0}) CertFault
check e b = if b then Ok tt else Err e

-- The result is what reading gives, unless memory was refused.
abbrev pub GivesRead : {X : Type 0} → Result X CertFault → Result X CertFault → Type 0
GivesRead (Ok x) read = read ≡ Ok x
GivesRead (Err NoMemory) read = Unit {0}
GivesRead (Err e) read = read ≡ Err e

-- The same with the remaining bytes.
abbrev pub GivesRest : {X : Type 0} → Result X CertFault → List ℕ → Result (X × List ℕ) CertFault → Type 0
GivesRest (Ok x) rest read = read ≡ Ok (x, rest)
GivesRest (Err NoMemory) rest read = Unit {0}
GivesRest (Err e) rest read = read ≡ Err e

-- a name and a value
abbrev pub pair_of : List ℕ → List ℕ → Pair
pair_of name value = record { name = name; value = value }

-- The pair that was found, and the remaining bytes, are what reading gives.
abbrev pub GivesPair : Option (List ℕ × List ℕ) → List ℕ → Option (Pair × List ℕ) → Type 0
GivesPair (Some found) rest read = read ≡ Some (pair_of found.0 found.1, rest)
GivesPair None rest read = read ≡ None

-- ---- inside a field

-- at most `most` strings, each of which passes the test
abbrev pub strings_within : ℕ → (List ℕ → Bool) → List ℕ → Option (List (List ℕ))
strings_within most test [] = Some []
strings_within zero test (b ∷ bytes) = None
strings_within (suc most) test (b ∷ bytes) =
    option_and_then (λ s. if test s.0 then option_map (λ others. s.0 ∷ others) (strings_within most test s.1) else None)
    (string_at (b ∷ bytes))

-- 1 to 16 distinct principals
abbrev pub principals_of : List ℕ → Option (List (List ℕ))
principals_of text =
    option_and_then (λ ps. if nat_le 1 (length ps) && are_distinct ps then Some ps else None)
    (strings_within 16 is_principal text)

-- the value in the data of an option: a flag has no data and no value, other options have a string
abbrev pub value_of : List ℕ → List ℕ → Option (List ℕ)
value_of name inner =
    if is_flag name then (if length inner == 0 then Some [] else None)
    else option_and_then (λ s. if length s.1 == 0 then Some s.0 else None) (string_at inner)

-- a name, the value in its data, and the bytes after them
abbrev pub pair_at : List ℕ → Option (Pair × List ℕ)
pair_at bytes =
    option_and_then (λ name. option_and_then (λ inner. option_map (λ value. (pair_of name.0 value, inner.1))
    (value_of name.0 inner.0)) (string_at name.1)) (string_at bytes)

-- an option of the field whose name comes after the previous one
abbrev pub comes_next : OptionField → List ℕ → Pair → Bool
comes_next field previous p = is_option field p && comes_before previous p.name

-- at most `most` options, whose names ascend from the previous one on
abbrev pub options_within : ℕ → OptionField → List ℕ → List ℕ → Option (List Pair)
options_within most field previous [] = Some []
options_within zero field previous (b ∷ bytes) = None
options_within (suc most) field previous (b ∷ bytes) =
    option_and_then (λ o. if comes_next field previous o.0
    then option_map (λ others. o.0 ∷ others) (options_within most field o.0.name o.1) else None)
    (pair_at (b ∷ bytes))

-- the options of a field: a host has none, and a user has at most as many as there are extensions
abbrev pub options_of : OptionField → Kind → List ℕ → Option (List Pair)
options_of field User text = options_within 6 field [] text
options_of field Host text = if length text == 0 then Some [] else None

-- the kind of a number
abbrev pub kind_of : ℕ → Option Kind
kind_of n = if n == 1 then Some User else (if n == 2 then Some Host else None)

-- ---- field by field

unfoldable pub type_at : List ℕ → Result (KeyType × List ℕ) CertFault
type_at bytes = do
  name ← or_fault Truncated (string_at bytes)
  key_type ← or_fault WrongType (type_of name.0)
  Ok (key_type, name.1)

unfoldable pub bytes_32_at : CertFault → List ℕ → Result (List ℕ × List ℕ) CertFault
bytes_32_at fault bytes = do
  text ← or_fault Truncated (string_at bytes)
  _ ← check fault (length text.0 == 32)
  Ok text

unfoldable pub key_at : KeyType → List ℕ → Result (List (List ℕ) × List ℕ) CertFault
key_at key_type bytes = do
  parts ← or_fault Truncated (strings_at key_type bytes)
  _ ← check BadKey (are_parts key_type parts.0)
  Ok parts

unfoldable pub serial_at : List ℕ → Result (ℕ × List ℕ) CertFault
serial_at bytes = do
  serial ← or_fault Truncated (u64_at bytes)
  _ ← check BadSerial (is_serial serial.0)
  Ok serial

unfoldable pub kind_at : List ℕ → Result (Kind × List ℕ) CertFault
kind_at bytes = do
  number ← or_fault Truncated (u32_at bytes)
  kind ← or_fault BadKind (kind_of number.0)
  Ok (kind, number.1)

unfoldable pub key_id_at : List ℕ → Result (List ℕ × List ℕ) CertFault
key_id_at bytes = do
  text ← or_fault Truncated (string_at bytes)
  _ ← check BadKeyId (is_key_id text.0)
  Ok text

unfoldable pub principals_at : List ℕ → Result (List (List ℕ) × List ℕ) CertFault
principals_at bytes = do
  text ← or_fault Truncated (string_at bytes)
  principals ← or_fault BadPrincipals (principals_of text.0)
  Ok (principals, text.1)

unfoldable pub validity_at : List ℕ → Result ((ℕ × ℕ) × List ℕ) CertFault
validity_at bytes = do
  after ← or_fault Truncated (u64_at bytes)
  before ← or_fault Truncated (u64_at after.1)
  _ ← check BadValidity (is_validity after.0 before.0)
  Ok ((after.0, before.0), before.1)

-- the fault of an options field
abbrev pub field_fault : OptionField → CertFault
field_fault CriticalOptions = BadOptions
field_fault Extensions = BadExtensions

unfoldable pub options_at : OptionField → Kind → List ℕ → Result (List Pair × List ℕ) CertFault
options_at field kind bytes = do
  text ← or_fault Truncated (string_at bytes)
  options ← or_fault (field_fault field) (options_of field kind text.0)
  Ok (options, text.1)

unfoldable pub reserved_at : List ℕ → Result (Unit {0} × List ℕ) CertFault
reserved_at bytes = do
  text ← or_fault Truncated (string_at bytes)
  _ ← check BadReserved (length text.0 == 0)
  Ok (tt, text.1)

unfoldable pub ca_at : List ℕ → Result (List ℕ × List ℕ) CertFault
ca_at bytes = do
  text ← or_fault Truncated (string_at bytes)
  key ← or_fault BadCa (key_of text.0)
  Ok (key, text.1)

-- the key id and the principals
abbrev pub names_at : List ℕ → Result ((List ℕ × List (List ℕ)) × List ℕ) CertFault
names_at bytes = do
  key_id ← key_id_at bytes
  principals ← principals_at key_id.1
  Ok ((key_id.0, principals.0), principals.1)

-- both options fields
abbrev pub both_options_at : Kind → List ℕ → Result ((List Pair × List Pair) × List ℕ) CertFault
both_options_at kind bytes = do
  options ← options_at CriticalOptions kind bytes
  extensions ← options_at Extensions kind options.1
  Ok ((options.0, extensions.0), extensions.1)

-- the reserved field and the CA's key, which end a body
abbrev pub end_at : List ℕ → Result (List ℕ) CertFault
end_at bytes = do
  reserved ← reserved_at bytes
  ca ← ca_at reserved.1
  _ ← check TrailingBytes (length ca.1 == 0)
  Ok ca.0

-- the fields from the key id on, together with those before it
unfoldable pub from_key_id_at : KeyType → List ℕ → List (List ℕ) → ℕ → Kind → List ℕ → Result CertFields CertFault
from_key_id_at key_type nonce key serial kind bytes = do
  key_id ← key_id_at bytes
  principals ← principals_at key_id.1
  validity ← validity_at principals.1
  options ← options_at CriticalOptions kind validity.1
  extensions ← options_at Extensions kind options.1
  reserved ← reserved_at extensions.1
  ca ← ca_at reserved.1
  _ ← check TrailingBytes (length ca.1 == 0)
  Ok (record {
    key_type = key_type;
    nonce = nonce;
    key = key;
    serial = serial;
    kind = kind;
    key_id = key_id.0;
    principals = principals.0;
    after = validity.0.0;
    before = validity.0.1;
    options = options.0;
    extensions = extensions.0;
    ca = ca.0;
  })

-- the fields of a body, or the first fault
unfoldable pub body_at : List ℕ → Result CertFields CertFault
body_at bytes = do
  named ← type_at bytes
  nonce ← bytes_32_at BadNonce named.1
  key ← key_at named.0 nonce.1
  serial ← serial_at key.1
  kind ← kind_at serial.1
  from_key_id_at named.0 nonce.0 key.0 serial.0 kind.0 kind.1
