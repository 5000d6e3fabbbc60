-- The certificates that an office makes.
use Rattle.std.specs.Prelude.{◌≡◌, ℕ, List, [], map, IsTrue, Option, Some, None}
use Rattle.text.specs.declared.pair.Pair.{Pair}
use Rattle.values.specs.Names.{is_name}
use Rattle.values.specs.declared.kind.Kind.{Kind}
use Rattle.values.specs.declared.kind.Kind.TheVariants.{User}
use Rattle.cert.specs.declared.fields.CertFields.{CertFields}
use Rattle.cert.specs.Options.{listing}
use Rattle.cert.specs.Bodies.{IsCertFields, body_text}
use Rattle.message.specs.declared.department.Department.{Department}
use Rattle.message.specs.declared.issue.Issue.{Issue}
use Rattle.message.specs.declared.renewal.Renewal.{Renewal}
use Rattle.office.specs.declared.certificate.Certificate.{Certificate}

-- the invariant of a stored certificate: a valid department name, valid fields, and the body (the unsigned
-- certificate) that encodes these fields
pub record IsCertificate (c : Certificate) : Type 0 where
  pub department : IsTrue (is_name c.department)
  pub fields : IsCertFields c.fields
  pub body : c.body ≡ body_text c.fields

-- the certificate with these fields and their body, not yet signed
abbrev pub certificate_with : List ℕ → CertFields → Certificate
certificate_with department fields =
    record { department = department; fields = fields; body = body_text fields; signature = None }

-- names as flags, without values
abbrev pub flags : List (List ℕ) → List Pair
flags names = map (λ n. record { name = n; value = [] }) names

-- the department's kind; an issue without a department is refused
abbrev pub kind_or_user : Option Department → Kind
kind_or_user (Some d) = d.kind
kind_or_user None = User

-- the fields of a certificate issued as requested
abbrev pub fields_for : Issue → (serial : ℕ) → Kind → (ca nonce : List ℕ) → CertFields
fields_for i serial kind ca nonce = record {
  key_type = i.key.key_type;
  nonce = nonce;
  key = i.key.key;
  serial = serial;
  kind = kind;
  key_id = i.key_id;
  principals = i.principals;
  after = i.after;
  before = i.before;
  options = listing i.options;
  extensions = listing (flags i.extensions);
  ca = ca;
}

abbrev pub certificate_for : Issue → (serial : ℕ) → Kind → (ca nonce : List ℕ) → Certificate
certificate_for i serial kind ca nonce = certificate_with i.department (fields_for i serial kind ca nonce)

-- the fields of the old certificate with a new validity, under a new serial
abbrev pub renewed_fields : CertFields → Renewal → (serial : ℕ) → (ca nonce : List ℕ) → CertFields
renewed_fields old r serial ca nonce =
    record old { nonce = nonce; serial = serial; after = r.after; before = r.before; ca = ca }

abbrev pub renewed_certificate : Certificate → Renewal → (serial : ℕ) → (ca nonce : List ℕ) → Certificate
renewed_certificate old r serial ca nonce =
    certificate_with old.department (renewed_fields old.fields r serial ca nonce)
