-- Certificates from rows.
use Rattle.std.specs.Prelude.{◌≡◌, ℕ, suc, ◌==◌, ◌&&◌, nat_le, List, [], ◌∷◌, length, Bool, if◌then◌else◌, IfSome}
use Rattle.std.specs.Prelude.{Option, Some, None}
use Rattle.std.specs.Option.{option_and_then, option_map}
use Rattle.std.specs.Result.{result_ok}
use Rattle.std.specs.Str.{bytes_eq}
use Rattle.values.specs.Names.{is_name}
use Rattle.lines.specs.declared.signature.Signature.{Signature}
use Rattle.cert.specs.declared.fields.CertFields.{CertFields}
use Rattle.cert.specs.Reading.{body_at}
use Rattle.office.specs.declared.certificate.Certificate.{Certificate}
use Rattle.store_sql.specs.declared.certs.CertRow.{CertRow}

-- a signature in a row, which must have 64 bytes
abbrev pub signature_in : Option (List ℕ) → Option (Option Signature)
signature_in None = Some None
signature_in (Some bytes) = if length bytes == 64 then Some (Some (record { bytes = bytes })) else None

-- the row's serial and key ID are the unsigned certificate's, and its department has a valid name
abbrev pub row_matches : CertRow → CertFields → Bool
row_matches row fields = (fields.serial == row.serial) && (bytes_eq fields.key_id row.key_id && is_name row.department)

abbrev pub certificate_from_parts : CertRow → CertFields → Option Signature → Certificate
certificate_from_parts row fields signature = record {
  department = row.department;
  fields = fields;
  body = row.body;
  signature = signature;
}

abbrev pub certificate_of_row : CertRow → CertFields → Option Certificate
certificate_of_row row fields =
    if row_matches row fields then option_map (certificate_from_parts row fields) (signature_in row.signature) else None

-- the certificate of a row, if there is one
abbrev pub certificate_in : CertRow → Option Certificate
certificate_in row = option_and_then (certificate_of_row row) (result_ok (body_at row.body))

-- a signature that was delivered has 64 bytes
abbrev pub IsSigned : Certificate → Type 0
IsSigned c = IfSome c.signature (λ s. length s.bytes ≡ 64)

-- certificates whose serials count up from this one
abbrev pub AreCounted : ℕ → List Certificate → Type 0
AreCounted first [] = Unit {0}
AreCounted first (c ∷ cs) = (c.fields.serial ≡ first) × AreCounted (suc first) cs

-- its serial is between the two, both included
abbrev pub lies_within : (lo hi : ℕ) → Certificate → Bool
lies_within lo hi c = nat_le lo c.fields.serial && nat_le c.fields.serial hi
