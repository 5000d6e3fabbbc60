-- The certificate with a given serial among the rows.
use Rattle.store.proofs.Words.{AreCounted, Certificate, IsCertificate, IsLawful, IsOfHistory, IsSigned, IsSome, Kept}
use Rattle.store.proofs.Words.{List, None, Option, Some, State, [], ap, arith, cases_Bool, cases_lt}
use Rattle.store.proofs.Words.{cert_row, certificate_in, certificate_of, certs_numbered, contents_of, eq-eqb, filter}
use Rattle.store.proofs.Words.{has_serial, inl, inr, le-ltb, lt-ltb, map, ne_eqb, next_serial, none-some}
use Rattle.store.proofs.Words.{refl, serial_of_one, slice_get, suc, sym, zero, ℕ, ◌+◌, ◌-◌, ◌<◌, ◌^◌, ◌∙◌, ◌∷◌}
use Rattle.store.proofs.Words.{◌≡◌, ◌≤◌}
use Rattle.std.proofs.Common.{ltb}
use Rattle.sqlite_trees.proofs.ListLemmas.{all-slice_get}
use Rattle.values.proofs.SerialLemmas.{serials_within}
use Rattle.store.proofs.CertRows.{certificate_again as again}
use Rattle.store.specs.Finding.{asked_serial}
use Rattle.store.proofs.OneRow.{rows_of}

-- no certificate has a serial below the first
none_below : (first serial : ℕ) (cs : List Certificate) → serial < first → AreCounted first cs
    → filter (has_serial serial) (map cert_row cs) ≡ []
none_below first serial [] lt counted = refl
none_below first serial (c ∷ cs) lt counted =
    rw (ne_eqb c.fields.serial serial (λ e. omega (arith, counted.0, e, lt)))
    (none_below (suc first) serial cs (omega (arith, lt)) counted.1)

one_from : (first place : ℕ) (cs : List Certificate) → AreCounted first cs
    → filter (has_serial (first + place)) (map cert_row cs) ≡ rows_of cert_row (slice_get cs place)
one_from first place [] counted = refl
one_from first zero (c ∷ cs) counted =
    rw (eq-eqb c.fields.serial (first + 0) (omega (arith, counted.0)))
    (ap (λ (l : List _). cert_row c ∷ l) (none_below (suc first) (first + 0) cs (omega arith) counted.1))
one_from first (suc place) (c ∷ cs) counted =
    let same : first + suc place ≡ suc first + place = omega arith in
    rw (ne_eqb c.fields.serial (first + suc place) (λ e. omega (arith, counted.0, e)))
    (ap (λ (n : ℕ). filter (has_serial n) (map cert_row cs)) same ∙ one_from (suc first) place cs counted.1)

-- one row has the serial if a certificate has it, and otherwise none
pub numbered : (serial : ℕ) (s : State) (kept : List Kept) → IsLawful s
    → certs_numbered serial (contents_of s kept) ≡ rows_of cert_row (certificate_of s serial)
numbered serial s kept lawful = elim (cases_lt serial s.opening.first) [
  | inl below ↦ rw (lt-ltb serial s.opening.first below)
      (none_below s.opening.first serial s.certificates below lawful.serials)
  | inr over ↦ rw (le-ltb serial s.opening.first over)
      (ap (λ (n : ℕ). filter (has_serial n) (map cert_row s.certificates)) (omega (arith, over))
      ∙ one_from s.opening.first (serial - s.opening.first) s.certificates lawful.serials)
]

pub certificate_again : (serial : ℕ) (s : State) (c : Certificate) → IsLawful s → certificate_of s serial ≡ Some c
    → certificate_in (cert_row c) ≡ Some c
certificate_again serial s c lawful is = elim (cases_Bool (ltb serial s.opening.first)) [
  | inl below ↦ absurd (none-some c (rw below at is))
  | inr over ↦
      let each = all-slice_get (λ x. IsCertificate x × IsSigned x) s.certificates (serial - s.opening.first) c
      (rw over at is) lawful.certificates in again c each.0 each.1
]

-- ---- the requested serial

not_some : {X : Type 0} (o : Option X) → (IsSome o → ⊥) → o ≡ None
not_some None none = refl
not_some (Some x) none = absurd (none refl)

none_past : (serial : ℕ) (s : State) → next_serial s ≤ serial → certificate_of s serial ≡ None
none_past serial s past =
    not_some (certificate_of s serial) (λ some. omega (arith, past, (serial_of_one s serial some).1))

-- the lookup finds the certificate with the serial, if serials were issued in range
pub asked : (serial : ℕ) (s : State) (kept : List Kept) → IsLawful s → IsOfHistory s kept
    → certificate_of s (asked_serial serial) ≡ certificate_of s serial
asked serial s kept lawful history = elim (cases_lt serial (2 ^ 63)) [
  | inl fits ↦ rw (lt-ltb serial (2 ^ 63) fits) refl
  | inr over ↦
      let within = serials_within s.opening.first s.opening.last lawful.opening.serials in
      rw (le-ltb serial (2 ^ 63) over, lt-ltb 0 s.opening.first within.0)
      (sym (none_past serial s (omega (arith, within.1, history.range, over))))
]
