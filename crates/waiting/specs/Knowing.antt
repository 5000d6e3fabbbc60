-- What is known of the pending certificates, which wait for their signatures.
use Rattle.std.specs.Prelude.{◌≡◌, ◌≤◌, ◌⊎◌, ℕ, List, [], ◌∷◌, length, take, filter, Bool, true, false, Option, IfSome}
use Rattle.std.specs.Option.{option_map_or}
use Rattle.message.specs.declared.kinds.Message.{Message}
use Rattle.message.specs.declared.kinds.Message.TheVariants as message
use Rattle.office.specs.declared.opening.Opening.{Opening}
use Rattle.office.specs.declared.arrival.Arrival.{Arrival}
use Rattle.office.specs.declared.certificate.Certificate.{Certificate}
use Rattle.office.specs.declared.listing.Revocations.{Revocations}
use Rattle.office.specs.declared.publication.Pending.{Pending}
use Rattle.office.specs.History.{state}
use Rattle.office.specs.Listing.{AreRevocations}
use Rattle.office.specs.Publication.{is_pending, pending_row}
use Rattle.office.specs.State.{State, certificate_of}

-- each certificate has its row, in order, or isn't pending
abbrev pub Covers : (waits : Certificate → Bool) → List Certificate → List Pending → Type 0
Covers waits [] rows = rows ≡ []
Covers waits (c ∷ cs) rows =
    ((rest : List Pending) × (rows ≡ pending_row c ∷ rest) × Covers waits cs rest)
    ⊎ ((waits c ≡ false) × Covers waits cs rows)

-- the rows are those of certificates before the place, including all pending ones
pub record Knows (seen : ℕ) (rows : List Pending) (s : State) : Type 0 where
  pub within : seen ≤ length s.certificates
  pub covers : Covers (is_pending s) (take seen s.certificates) rows

-- the certificate with the serial is pending
abbrev pub serial_waits : State → (serial : ℕ) → Bool
serial_waits s serial = option_map_or (is_pending s) (certificate_of s serial) false

-- the rows whose certificates are pending
abbrev pub still_waiting : State → List Pending → List Pending
still_waiting s rows = filter (λ row. serial_waits s row.serial) rows

-- the message revokes something
abbrev pub is_revocation : Message → Bool
is_revocation (message.RevokeSerial serial) = true
is_revocation (message.RevokeRange range) = true
is_revocation (message.RevokeKeyId key_id) = true
is_revocation other = false

-- the remembered revocations, if any, are the state's
abbrev pub IsKept : Option Revocations → State → Type 0
IsKept revoked s = IfSome revoked (λ r. AreRevocations r s)

-- the register below represents a history, and what is known holds of its state: the pending certificates, and the
-- revocations
pub record MeansKnown {S : Type 0} (means : S → Opening → List Arrival → Type 0) (register : S) (seen : ℕ)
    (rows : List Pending) (revoked : Option Revocations) (o : Opening) (l : List Arrival) : Type 0 where
  pub register_means : means register o l
  pub knows : Knows seen rows (state o l)
  pub revocations : IsKept revoked (state o l)
