-- The meaning of a published list, in terms of the history before it.
use Rattle.std.specs.Prelude.{◌≡◌, ◌≢◌, ℕ, List, ◌&&◌, ◌||◌, false, Some, slice_get}
use Rattle.lines.specs.Keys.{key_blob}
use Rattle.krl.specs.Format.{RevocationList, revokes}
use Rattle.krl.specs.Published.{AreOnly}
use Rattle.office.specs.declared.opening.Opening.{Opening}
use Rattle.office.specs.declared.arrival.Arrival.{Arrival}
use Rattle.office.specs.declared.ca.Ca.{Ca}
use Rattle.office.specs.History.{state}
use Rattle.office_laws.specs.Named.{is_serial_named, is_key_id_named}
use Rattle.office_laws.specs.Signers.{is_signer}

-- the list revokes exactly the serials and key IDs that accepted messages named
pub record IsExact (o : Opening) (l : List Arrival) (list : RevocationList) : Type 0 where
  -- under a CA of the office: the named serials that it signs, and every named key ID
  pub own : (place : ℕ) (ca : Ca) → slice_get (state o l).cas place ≡ Some ca → (serial : ℕ) (key_id : List ℕ)
      → revokes (key_blob ca.key) serial key_id list
      ≡ ((is_serial_named o l serial && is_signer ca (state o l) serial) || is_key_id_named o l key_id)
  -- under any other blob: nothing
  pub others : (blob : List ℕ)
      → ((place : ℕ) (ca : Ca) → slice_get (state o l).cas place ≡ Some ca → key_blob ca.key ≢ blob)
      → (serial : ℕ) (key_id : List ℕ) → revokes blob serial key_id list ≡ false

-- bytes that parse in exactly one way, as a list that is supported and exact
pub record AreExactList (bytes : List ℕ) (o : Opening) (l : List Arrival) : Type 0 where
  pub list : RevocationList
  pub only : AreOnly bytes list
  pub exact : IsExact o l list
