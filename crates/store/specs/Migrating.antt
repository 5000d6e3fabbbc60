-- The effect of a migration on the connection, and its answers.
use Rattle.std.specs.Prelude.{◌≡◌, ◌⊎◌, true, List, [], IfErr, IsOk, IsTrue, Result, Ok, Err}
use Rattle.sqlite.specs.Effect.{Database}
use Rattle.sqlite.specs.State.{State}
use Rattle.office.specs.declared.opening.Opening.{Opening}
use Rattle.office.specs.declared.arrival.Arrival.{Arrival}
use Rattle.office.specs.declared.store_fault.StoreFault.{StoreFault}
use Rattle.office.specs.declared.store_fault.StoreFault.TheVariants.{AlreadyAnOffice, Damaged, Device}
use Rattle.office.specs.declared.store_fault.StoreFault.TheVariants.{NoMemory, NotAnOffice, WrongSchema}
use Rattle.store_sql.specs.declared.cas.CaRow.{CaRow}
use Rattle.store_sql.specs.declared.table_fault.Fault.{Fault}
use Rattle.store_sql.specs.Changes.{with_ca_row}
use Rattle.store_sql.specs.Contents.{Contents, Means}
use Rattle.store_sql.specs.Faults.{HasCause, HasFailed}
use Rattle.store_sql.specs.Refusals.{RefusesCa, RefusesNumber}
use Rattle.store.specs.Faults.{store_fault_of}
use Rattle.store.specs.Rows.{office_contents}
use Rattle.store.specs.Transactions.{Has, Rests}
use Rattle.store.specs.Former.{Had, TellsBefore, ca_of, former_contents, migrated}

-- ---- results

-- the result is the specified one, or memory is refused
abbrev pub IsCaDue : Result CaRow StoreFault → Result CaRow StoreFault → Type 0
IsCaDue due (Err NoMemory) = Unit {0}
IsCaDue due r = due ≡ r

-- ---- causes of faults

-- the rules of the tables refuse this CA, or after it schema number 2
abbrev pub IsRefused : CaRow → Contents → Type 0
IsRefused ca c = RefusesCa ca c ⊎ RefusesNumber 2 (with_ca_row ca c)

-- they refuse CA 1 of the office in these contents, or schema number 2 after it
abbrev pub RefusesFirstCa : Contents → Type 0
RefusesFirstCa c = (ca : CaRow) × (ca_of c.offices ≡ Ok ca) × IsRefused ca c

-- the database failed during the call, or its rules refuse CA 1
abbrev pub HasStopped : Contents → State → State → Type 0
HasStopped c old new = HasFailed old new ⊎ RefusesFirstCa c

-- an earlier fault is returned, and a failure at the end has its cause
abbrev pub TellsEnd : {X : Type 0} → Result X StoreFault → State → State → Result X StoreFault → Type 0
TellsEnd (Ok x) old new r =
    old.in_transaction ≡ true → IfErr r (λ e. (f : Fault) × (e ≡ store_fault_of f) × HasCause old new f)
TellsEnd (Err e) old new r = r ≡ Err e

-- the answer is the one that the rows of these contents specify; or memory was refused, or the call was stopped
abbrev pub Judges : Contents → Type 0 → Result (Unit {0}) StoreFault → Type 0
Judges c stopped (Ok x) = IsOk (ca_of c.offices)
Judges c stopped (Err NoMemory) = Unit {0}
Judges c stopped (Err Device) = stopped
Judges c stopped (Err e) = ca_of c.offices ≡ Err e

-- the same for a database at rest with the tables of schema 1
abbrev pub JudgesAtRest : State → State → Result (Unit {0}) StoreFault → Type 0
JudgesAtRest old new r = (c : Contents) → Rests (Had c) old → Judges c (HasStopped c old new) r

-- the same inside the transaction, for tables that satisfy `Before`
abbrev pub JudgesInside : (Contents → Database → Type 0) → State → State → Result (Unit {0}) StoreFault → Type 0
JudgesInside Before old new r = (c : Contents) → Before c old.now → Judges c (HasStopped c old new) r

-- ---- a part of the transaction

-- the tables of schema 2 hold these contents, in which there is no CA
abbrev pub HasNoCa : Contents → Database → Type 0
HasNoCa c db = Means db c × (c.cas ≡ [])

-- ---- the whole migration

-- For a database at rest with the tables of schema 1: they become those of schema 2; or it fails, and nothing has
-- changed, unless the connection is closed then. A migration over a closed connection never succeeds.
abbrev pub Migrates : State → State → Result (Unit {0}) StoreFault → Type 0
Migrates old new (Ok x) =
    IsTrue old.is_open × IsTrue new.is_open × ((c : Contents) → Rests (Had c) old → Rests (Has (migrated c)) new)
Migrates old new (Err e) =
    IsTrue new.is_open → IsTrue old.is_open × ((c : Contents) → Rests (Had c) old → Rests (Had c) new)

-- lack of memory and a stop are the only faults
abbrev pub IsExcused : Type 0 → StoreFault → Type 0
IsExcused stopped NoMemory = Unit {0}
IsExcused stopped Device = stopped
IsExcused stopped AlreadyAnOffice = ⊥
IsExcused stopped NotAnOffice = ⊥
IsExcused stopped WrongSchema = ⊥
IsExcused stopped Damaged = ⊥

-- If the tables of schema 1 represent a history: they hold its rows in schema 2; or they represent it as before, and
-- the fault has its cause.
abbrev pub Carries : State → State → Opening → List Arrival → Result (Unit {0}) StoreFault → Type 0
Carries old new o l (Ok x) = IsTrue new.is_open × Rests (Has (office_contents o l)) new
Carries old new o l (Err e) =
    TellsBefore new o l × (IsTrue old.is_open → IsExcused (HasStopped (former_contents o l) old new) e)

-- the same for each history
abbrev pub CarriesEach : State → State → Result (Unit {0}) StoreFault → Type 0
CarriesEach old new r = (o : Opening) (l : List Arrival) → TellsBefore old o l → Carries old new o l r
