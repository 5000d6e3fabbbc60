-- Listing by the revocations agrees with the state.
use Rattle.office.proofs.Words.{AreRevocations, Bool, Certificate, List, Revocations, State, ap₂, bytes_eq, list_any}
use Rattle.office.proofs.Words.{◌≡◌}
use Rattle.std.specs.Prelude.{◌||◌}
use Rattle.office.specs.Listing.{is_certificate_among}
use Rattle.office.specs.Publication.{is_certificate_revoked}

-- a certificate is among the state's revocations exactly when the state revokes it
pub among_is : (r : Revocations) (s : State) (c : Certificate) → AreRevocations r s → is_certificate_among r c ≡ is_certificate_revoked s c
among_is r s c are =
    ap₂ (λ (b : Bool) (ids : List (List _)). b || list_any (λ k. bytes_eq k c.fields.key_id) ids)
    (are.serials c.fields.serial) are.key_ids
