-- The row of a certificate is that of no other, and reading it gives the certificate back.
use Rattle.store.proofs.Words.{AllByRecursion, AreCounted, CertRow, Certificate, Err, Fault, IfOk, IfSome, IsAscending}
use Rattle.store.proofs.Words.{IsCertificate, IsRead, IsSigned, Less, List, None, Ok, Option, Result, Signature, Some}
use Rattle.store.proofs.Words.{[], and_parts, ap, arith, bytes_eq-Decides, cases_Bool, cert_row, certificate_in, each}
use Rattle.store.proofs.Words.{eqb, eqb-true, filter, filter-map, inl, inr, length, lies_within, map, nat_cmp_is}
use Rattle.store.proofs.Words.{none-some, option_map, refl, same_Some, subst, suc, sym, true, ℕ, ◌<◌, ◌∙◌, ◌∷◌, ◌≡◌}
use Rattle.std.proofs.Common.{nat_cmp, eq-eqb}
use Rattle.sqlite_trees.proofs.ListLemmas.{all-filter, ascending-filter}
use Rattle.cert.specs.declared.fields.CertFields.{CertFields}
use Rattle.cert.specs.Bodies.{IsCertFields, body_text}
use Rattle.cert.specs.Reading.{body_at}
use Rattle.cert.proofs.BodyAgain.{body_at-again}
use Rattle.store.specs.Certificates.{certificate_from_parts, row_matches}
use Rattle.store.specs.Certificates.{signature_in}
use Rattle.store_sql.specs.Changes.{is_cert_within as rows_within}

signature_again : (o : Option Signature) → IfSome o (λ s. length s.bytes ≡ 64)
    → signature_in (option_map (λ s. s.bytes) o) ≡ Some o
signature_again None h = refl
signature_again (Some s) h = rw h refl

signature_found : (o : Option (List ℕ)) (s : Option Signature) → signature_in o ≡ Some s
    → o ≡ option_map (λ x. x.bytes) s
signature_found None s e = let same : None ≡ s = cc in ap (option_map (λ x. x.bytes)) same
signature_found (Some bytes) s e = elim (cases_Bool (eqb (length bytes) 64)) [
  | inl is ↦ ap (option_map (λ x. x.bytes)) (same_Some _ _ (rw is at e))
  | inr is ↦ absurd (none-some s (rw is at e))
]

fits_again : (c : Certificate) → IsCertificate c → row_matches (cert_row c) c.fields ≡ true
fits_again c is =
    rw (eq-eqb c.fields.serial c.fields.serial refl, (bytes_eq-Decides c.fields.key_id c.fields.key_id).1 refl)
    is.department

pub certificate_again : (c : Certificate) → IsCertificate c → IsSigned c → certificate_in (cert_row c) ≡ Some c
certificate_again c is signed = rw (
  ap body_at is.body ∙ body_at-again c.fields is.fields,
  fits_again c is,
  signature_again c.signature signed,
) refl

row_is : (row : CertRow) (serial : ℕ) (key_id : List ℕ) (signature : Option (List ℕ)) → row.serial ≡ serial
    → row.key_id ≡ key_id → row.signature ≡ signature
    → row ≡ record row { serial = serial; key_id = key_id; signature = signature }
row_is row serial key_id signature s k g = rw (sym s, sym k, sym g) refl

-- the certificate built from a row has this row
with_row : (row : CertRow) (fields : CertFields) (signature : Option Signature) → IsCertFields fields
    → row.body ≡ body_text fields → row_matches row fields ≡ true → signature_in row.signature ≡ Some signature
    → IsCertificate (certificate_from_parts row fields signature) × (row ≡ cert_row (certificate_from_parts row fields signature))
with_row row fields signature lawful text same signed =
    let first = and_parts _ _ same in
    let second = and_parts _ _ first.1 in (
      record { department = second.1; fields = lawful; body = text },
      row_is row fields.serial fields.key_id (option_map (λ s. s.bytes) signature) (sym (eqb-true _ _ first.0))
          (sym ((bytes_eq-Decides fields.key_id row.key_id).0 second.0))
          (signature_found row.signature signature signed),
    )

pub found_with : (row : CertRow) (fields : CertFields) (signature : Option Signature) (r : Result Certificate Fault)
    → IsRead (Some (certificate_from_parts row fields signature)) r → IsCertFields fields
    → row.body ≡ body_text fields → row_matches row fields ≡ true → signature_in row.signature ≡ Some signature
    → IfOk r (λ c. IsCertificate c × (row ≡ cert_row c))
found_with row fields signature (Ok c) h lawful text same signed =
    subst (λ x. IsCertificate x × (row ≡ cert_row x)) (same_Some _ _ h)
    (with_row row fields signature lawful text same signed)
found_with row fields signature (Err f) h lawful text same signed = tt

pub reads_certificate : (row : CertRow) (r : Result Certificate Fault) → IsRead (certificate_in row) r
    → (c : Certificate) → IsCertificate c → IsSigned c → row ≡ cert_row c → IsRead (Some c) r
reads_certificate row r h c is signed same =
    subst (λ o. IsRead o r) (ap certificate_in same ∙ certificate_again c is signed) h

-- ---- all rows

above : (m n : ℕ) (cs : List Certificate) → m < n → AreCounted n cs
    → AllByRecursion (λ r. nat_cmp m r.serial ≡ Less) (map cert_row cs)
above m n [] lt counted = tt
above m n (c ∷ cs) lt counted =
    (sym (nat_cmp_is m c.fields.serial Less (omega (arith, counted.0))), above m (suc n) cs (omega arith) counted.1)

-- the serials count up, so the rows ascend
pub certs_rise : (n : ℕ) (cs : List Certificate) → AreCounted n cs
    → IsAscending (λ a b. nat_cmp a.serial b.serial ≡ Less) (map cert_row cs)
certs_rise n [] counted = tt
certs_rise n (c ∷ cs) counted =
    (above c.fields.serial (suc n) cs (omega (arith, counted.0)) counted.1, certs_rise (suc n) cs counted.1)

pub certs_again : (cs : List Certificate) → AllByRecursion (λ c. IsCertificate c × IsSigned c) cs
    → each certificate_in (map cert_row cs) ≡ Some cs
certs_again [] all = refl
certs_again (c ∷ cs) all = rw (certificate_again c all.0.0 all.0.1, certs_again cs all.1) refl

-- ---- the certificates between two serials

-- they ascend
pub within_rise : (n lo hi : ℕ) (cs : List Certificate) → AreCounted n cs
    → IsAscending (λ a b. nat_cmp a.serial b.serial ≡ Less) (filter (rows_within lo hi) (map cert_row cs))
within_rise n lo hi cs counted =
    ascending-filter (λ a b. nat_cmp a.serial b.serial ≡ Less) (rows_within lo hi) (map cert_row cs)
    (certs_rise n cs counted)

-- and reading them gives the certificates back
pub within_again : (lo hi : ℕ) (cs : List Certificate) → AllByRecursion (λ c. IsCertificate c × IsSigned c) cs
    → each certificate_in (filter (rows_within lo hi) (map cert_row cs)) ≡ Some (filter (lies_within lo hi) cs)
within_again lo hi cs all =
    rw (filter-map (rows_within lo hi) cert_row cs) (certs_again (filter (lies_within lo hi) cs)
    (all-filter (λ c. IsCertificate c × IsSigned c) (lies_within lo hi) cs all))
