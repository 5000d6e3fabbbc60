-- Unsigned certificates, called bodies (PROTOCOL.certkeys, "New certificate formats", up to the signature).
use Rattle.std.specs.Prelude.{
  ◌≡◌,
  ℕ,
  List,
  [],
  ◌∷◌,
  ◌++◌,
  length,
  take,
  fold,
  Bool,
  ◌&&◌,
  nat_le,
  nat_lt,
  IsTrue,
}
use Rattle.std.specs.List.{flat_map, list_all}
use Rattle.wire.specs.Texts.{u32_text, u64_text, string_text}
use Rattle.lines.specs.Keys.{key_blob}
use Rattle.values.specs.Names.{is_principal, is_key_id}
use Rattle.values.specs.Lists.{are_distinct}
use Rattle.values.specs.Serials.{is_serial}
use Rattle.values.specs.declared.kind.Kind.{Kind}
use Rattle.values.specs.declared.kind.Kind.TheVariants.{User, Host}
use Rattle.values.specs.declared.option_field.OptionField.TheVariants.{CriticalOptions, Extensions}
use Rattle.lines.specs.Subjects.{are_parts, cert_name, parts_text}
use Rattle.cert.specs.Options.{is_options, options_text}
use Rattle.cert.specs.declared.fields.CertFields.{CertFields}

-- SSH_CERT_TYPE_USER and SSH_CERT_TYPE_HOST
abbrev pub kind_number : Kind → ℕ
kind_number User = 1
kind_number Host = 2

-- each principal as a string, joined
abbrev pub principals_text : List (List ℕ) → List ℕ
principals_text principals = flat_map string_text principals

-- the text of each field, in order
abbrev pub field_texts : CertFields → List (List ℕ)
field_texts c =
    string_text (cert_name c.key_type)
    ∷ string_text c.nonce
    ∷ parts_text c.key
    ∷ u64_text c.serial
    ∷ u32_text (kind_number c.kind)
    ∷ string_text c.key_id
    ∷ string_text (principals_text c.principals)
    ∷ (u64_text c.after ++ u64_text c.before)
    ∷ string_text (options_text c.options)
    ∷ string_text (options_text c.extensions)
    ∷ string_text []
    ∷ string_text (key_blob c.ca)
    ∷ []

-- the first n fields
abbrev pub front : ℕ → CertFields → List ℕ
front n c = fold ◌++◌ [] (take n (field_texts c))

-- what the CA signs: all fields
abbrev pub body_text : CertFields → List ℕ
body_text c = front 12 c

-- 1 to 16 distinct principals
abbrev pub are_principals : List (List ℕ) → Bool
are_principals ps = nat_le 1 (length ps) && nat_le (length ps) 16 && list_all is_principal ps && are_distinct ps

-- two ends, the first before the second, the second no later than 9999-12-31 23:59:59 UTC
abbrev pub is_validity : ℕ → ℕ → Bool
is_validity after before = nat_lt after before && nat_le before 253402300799

-- the conditions on the fields of a certificate
pub record IsCertFields (c : CertFields) : Type 0 where
  pub nonce : length c.nonce ≡ 32
  pub key : IsTrue (are_parts c.key_type c.key)
  pub serial : IsTrue (is_serial c.serial)
  pub key_id : IsTrue (is_key_id c.key_id)
  pub principals : IsTrue (are_principals c.principals)
  pub validity : IsTrue (is_validity c.after c.before)
  pub options : IsTrue (is_options CriticalOptions c.kind c.options)
  pub extensions : IsTrue (is_options Extensions c.kind c.extensions)
  pub ca : length c.ca ≡ 32
