-- A later list revokes everything that an earlier one does.
use Rattle.office_laws.proofs.Words.{Arrival, Ca, IsExact, IsKeptByEach, List, Opening, Some, State, [], always_more}
use Rattle.office_laws.proofs.Words.{and_parts, ap, arith, bytes_eq, inl, inr, is_key_id_named, is_serial_named}
use Rattle.office_laws.proofs.Words.{is_signer, key_blob, length-append, length-signed_at, next_serial}
use Rattle.office_laws.proofs.Words.{revoked_is_issued, slice_get, state, sym, true, ℕ, ◌&&◌, ◌++◌, ◌-◌, ◌<◌, ◌∙◌, ◌∷◌}
use Rattle.office_laws.proofs.Words.{◌≡◌}
use Rattle.std.proofs.lemmas.Bool.{and_from, or_cases, or_left, or_right}
use Rattle.krl.specs.Format.{RevocationList, revokes}
use Rattle.office_laws.proofs.Named.{serials_are_named, key_ids_are_named, serials_stay, key_ids_stay}
use Rattle.office_laws.proofs.Bodies.{there_push, later_signs_not}

ca_each : (place : ℕ) (ca : Ca) → IsKeptByEach (λ s. slice_get s.cas place ≡ Some ca)
ca_each place ca s moment in_time e = record {
  department = λ d. e;
  certificate = λ c is. e;
  signature = λ n x. e;
  range = λ r is. e;
  key_id = λ key_id. e;
  ca = λ key new none. there_push s.cas _ place ca e;
  ca_published = λ key new some. there_push s.cas _ place ca e;
}

-- the serial was handed out, and the CA signs it
pub record Signs (ca : Ca) (n : ℕ) (s : State) : Type 0 where
  pub issued : n < next_serial s
  pub signs : is_signer ca s n ≡ true

signs_each : (ca : Ca) (n : ℕ) → IsKeptByEach (Signs ca n)
signs_each ca n s moment in_time is =
    let stays = λ (key : List ℕ). ap (bytes_eq ca.key) (later_signs_not s key n is.issued) ∙ is.signs in record {
      department = λ d. record { issued = is.issued; signs = is.signs };
      certificate = λ c next. record { issued = omega (arith, length-append s.certificates (c ∷ [])); signs = is.signs };
      signature = λ k x.
          record { issued = omega (arith, length-signed_at s.certificates (k - s.opening.first) x); signs = is.signs };
      range = λ r handed. record { issued = is.issued; signs = is.signs };
      key_id = λ key_id. record { issued = is.issued; signs = is.signs };
      ca = λ key new none. record { issued = is.issued; signs = stays key };
      ca_published = λ key new some. record { issued = is.issued; signs = stays key };
    }

pub later_revokes : (o : Opening) (l later : List Arrival) (old new : RevocationList) → IsExact o l old → IsExact o (l ++ later) new
    → (place : ℕ) (ca : Ca) → slice_get (state o l).cas place ≡ Some ca → (serial : ℕ) (key_id : List ℕ) → revokes (key_blob ca.key) serial key_id old ≡ true → revokes (key_blob ca.key) serial key_id new ≡ true
later_revokes o l later old new is-old is-new place ca e serial key_id r =
    let there = always_more (λ s. slice_get s.cas place ≡ Some ca) (ca_each place ca) o l later e in
    let named = is_serial_named o (l ++ later) serial in
    let signs = is_signer ca (state o (l ++ later)) serial in
    let key_named = is_key_id_named o (l ++ later) key_id in
    is-new.own place ca there serial key_id ∙ elim (or_cases (is_serial_named o l serial && is_signer ca (state o l) serial) (is_key_id_named o l key_id) (sym (is-old.own place ca e serial key_id) ∙ r)) [
      | inl both ↦
          let parts = and_parts (is_serial_named o l serial) (is_signer ca (state o l) serial) both in
          let revoked = serials_are_named o l serial ∙ parts.0 in
          let signed = always_more (Signs ca serial) (signs_each ca serial) o l later
          (record { issued = (revoked_is_issued o l serial revoked).1; signs = parts.1 }) in
          or_left (named && signs) key_named (and_from named signs (sym (serials_are_named o (l ++ later) serial) ∙ serials_stay o l later serial revoked) signed.signs)
      | inr key ↦ or_right (named && signs) key_named (sym (key_ids_are_named o (l ++ later) key_id) ∙ key_ids_stay o l later key_id (key_ids_are_named o l key_id ∙ key))
    ]
