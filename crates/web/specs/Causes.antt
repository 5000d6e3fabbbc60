-- The causes of a failed answer.
use Rattle.std.specs.Prelude.{◌≡◌, ◌⊎◌, ◌<◌, ℕ, List}
use Rattle.http_requests.specs.declared.resource.Resource.TheVariants.{Pending}
use Rattle.http_requests.specs.Asks.{Ask, Asks, get, post}
use Rattle.office.specs.declared.opening.Opening.{Opening}
use Rattle.office.specs.declared.arrival.Arrival.{Arrival}
use Rattle.office.specs.declared.store_fault.StoreFault.{StoreFault}
use Rattle.office.specs.declared.store_fault.StoreFault.TheVariants.{Damaged, NoMemory}
use Rattle.office.specs.Registers.{FailsWithin}
use Rattle.web.specs.Answers.{arrival_by}

-- the database failed in answering this request, or its constraints refused the rows of the request's arrival
abbrev pub StopsAt : {S : Type 0} → (S → Opening → List Arrival → Type 0) → (S → S → Type 0)
    → (S → S → Arrival → Type 0) → (request : List ℕ) → ℕ → (nonce : List ℕ) → S → S → Type 0
StopsAt means fails stops request moment nonce old new =
    FailsWithin means fails old new
    ⊎ ((caller key message : List ℕ) × Asks request (post caller key message)
    × stops old new (arrival_by caller key message moment nonce))

-- The database failed in a call, after calls that left the stored rows as they were. If the register was open before
-- these, it still was after them, and it still meant every history that it had meant.
pub record FailsAfter {S : Type 0} (is_open : S → Type 0) (is_as_before : S → S → Type 0)
    (means : S → Opening → List Arrival → Type 0) (fails : S → S → Type 0) (old new : S) : Type 0 where
  pub before : S
  pub still : is_open old → is_open before
  pub rows : is_as_before old before
  pub same : (o : Opening) (l : List Arrival) → means old o l → means before o l
  pub failed : fails before new

-- a GET of anything but the pending certificates, for which a register may make calls of its own
abbrev pub IsPlainGet : Ask → Type 0
IsPlainGet (get Pending) = ⊥
IsPlainGet (get other) = Unit {0}
IsPlainGet other = ⊥

-- the bytes of a request ask that
abbrev pub AsksPlainGet : List ℕ → Type 0
AsksPlainGet request = (ask : Ask) × Asks request ask × IsPlainGet ask

-- lack of memory, or more parts of a list than an office may have CAs
abbrev pub IsOfAList : (parts : ℕ) → StoreFault → Type 0
IsOfAList parts e = (e ≡ NoMemory) ⊎ ((e ≡ Damaged) × (8 < parts))
