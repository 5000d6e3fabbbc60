-- The CAs in order, and the contents of the published KRL.
use Rattle.std.specs.Prelude.{◌≡◌, ℕ, List, [], ◌∷◌, Bool, true, ◌&&◌, nat_le, Result, Ok, Err, Vec}
use Rattle.std.specs.List.Sorted.{IsNonDecreasing}
use Rattle.std.specs.declared.alloc.Global.{Global}
use Rattle.krl.specs.declared.krl_head.KrlHead.{KrlHead}
use Rattle.office.specs.declared.ca.Ca.{Ca}
use Rattle.office.specs.declared.publication.Revoked.{Revoked}
use Rattle.office.specs.State.{State}
use Rattle.office.specs.Parts.{AreParts, numbers}
use Rattle.office.specs.Publication.{published_parts}
use Rattle.store_sql.specs.declared.table_fault.Fault.{Fault}
use Rattle.store_sql.specs.declared.table_fault.Fault.TheVariants.{Damaged, Device, NoMemory}
use Rattle.office.specs.declared.listing.Revocations.{Revocations}

-- none serves from below this serial, nor from below the one before it
abbrev pub are_ordered : ℕ → List Ca → Bool
are_ordered low [] = true
are_ordered low (ca ∷ cas) = nat_le low ca.since && are_ordered ca.since cas

-- the CAs, if they are in order
abbrev pub AreOrdered : Vec Ca Global → Result (Vec Ca Global) Fault → Type 0
AreOrdered cas (Ok v) = (v ≡ cas) × IsNonDecreasing (numbers cas.items)
AreOrdered cas (Err Damaged) = ¬ IsNonDecreasing (numbers cas.items)
AreOrdered cas (Err NoMemory) = ⊥
AreOrdered cas (Err Device) = ⊥

-- it consists of this head, and of these revocations under these CAs
pub record IsMadeOf (revoked : Revoked) (top : KrlHead) (cas : List Ca) (r : Revocations) : Type 0 where
  pub head : revoked.head ≡ top
  pub parts : AreParts revoked.parts.items cas r.serials
  pub key_ids : revoked.key_ids ≡ r.key_ids.items

-- it has this head, and the state's revocations, if these are the state's CAs
pub record AreShown (revoked : Revoked) (top : KrlHead) (cas : List Ca) (s : State) : Type 0 where
  pub head : revoked.head ≡ top
  pub parts : cas ≡ s.cas → revoked.parts.items ≡ published_parts s
  pub key_ids : revoked.key_ids ≡ s.revoked_key_ids
