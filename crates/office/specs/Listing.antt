-- Listing certificates with their revocation status.
use Rattle.std.specs.Prelude.{◌≡◌, ℕ, List, [], ◌∷◌, Bool, not, ◌&&◌, ◌||◌, is_none, if◌then◌else◌, take, drop}
use Rattle.std.specs.List.{flat_map, list_any}
use Rattle.std.specs.Str.{bytes_eq}
use Rattle.krl.specs.Sets.{contains}
use Rattle.office.specs.State.{State}
use Rattle.office.specs.declared.certificate.Certificate.{Certificate}
use Rattle.office.specs.declared.listing.Revocations.{Revocations}
use Rattle.office.specs.declared.publication.Pending.{Pending}
use Rattle.office.specs.Publication.{pending_row}

-- the revocations are the state's
pub record AreRevocations (r : Revocations) (s : State) : Type 0 where
  pub serials : (n : ℕ) → contains r.serials n ≡ s.revoked n
  pub key_ids : r.key_ids.items ≡ s.revoked_key_ids

-- the serial or the key ID is among these revocations
abbrev pub is_named : Revocations → (serial : ℕ) → (key_id : List ℕ) → Bool
is_named r serial key_id = contains r.serials serial || list_any (λ k. bytes_eq k key_id) r.key_ids.items

-- the certificate's serial or its key ID is among these revocations
abbrev pub is_certificate_among : Revocations → Certificate → Bool
is_certificate_among r c = is_named r c.fields.serial c.fields.key_id

-- up to 1000 certificates by serial, from this place on
abbrev pub batch_of : State → ℕ → List Certificate
batch_of s place = take 1000 (drop place s.certificates)

-- the row of a certificate if it is neither signed nor among these revocations, and otherwise nothing
abbrev pub waiting_row : Revocations → Certificate → List Pending
waiting_row r c = if is_none c.signature && not (is_certificate_among r c) then pending_row c ∷ [] else []

-- the rows of those certificates that are neither signed nor among these revocations
abbrev pub waiting_rows : Revocations → List Certificate → List Pending
waiting_rows r cs = flat_map (waiting_row r) cs
