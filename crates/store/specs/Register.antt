-- What happens to a connection from which a register is made, whether that succeeds or fails.
use Rattle.std.specs.Prelude.{[], List, IsTrue}
use Rattle.sqlite.specs.State.{State}
use Rattle.office.specs.declared.opening.Opening.{Opening}
use Rattle.office.specs.declared.arrival.Arrival.{Arrival}
use Rattle.office.specs.declared.store_fault.StoreFault.{StoreFault}
use Rattle.store_sql.specs.Contents.{Contents}
use Rattle.store.specs.Transactions.{Has, Rests}
use Rattle.store.specs.Former.{Had, TellsBefore, migrated}
use Rattle.store.specs.Migrating.{IsExcused}
use Rattle.store.specs.Meaning.{DiskFailed, IsBlank, IsHistory, Tells}

-- the connection is open
abbrev pub IsLeftOpen : State → State → Type 0
IsLeftOpen old new = IsTrue new.is_open

-- ---- a new office

-- a database that was empty now represents the configuration, with no request after it
abbrev pub Founds : Opening → State → State → Type 0
Founds opening old new = IsBlank old → Tells new opening []

-- a database that was empty still is, if the connection is open
abbrev pub StaysBlank : State → State → Type 0
StaysBlank old new = IsBlank old → IsTrue new.is_open → IsBlank new

-- if the database was empty, this fault is lack of memory, or a failure of the disk
abbrev pub IsExcusedOfBlank : State → State → StoreFault → Type 0
IsExcusedOfBlank old new e = IsBlank old → IsExcused (DiskFailed old new) e

-- ---- an existing office

-- if the tables represent a history, this fault is lack of memory, or a failure of the disk
abbrev pub IsExcusedOfHistory : State → State → StoreFault → Type 0
IsExcusedOfHistory old new e = (o : Opening) (l : List Arrival) → Tells old o l → IsExcused (DiskFailed old new) e

-- ---- an office of schema 1

-- the tables represent each history that they represented in schema 1
abbrev pub CarriesOn : State → State → Type 0
CarriesOn old new = (o : Opening) (l : List Arrival) → IsHistory o l → TellsBefore old o l → Tells new o l

-- the tables represent in schema 1 each history that they represented so before
abbrev pub KeepsTellingBefore : State → State → Type 0
KeepsTellingBefore old new = (o : Opening) (l : List Arrival) → TellsBefore old o l → TellsBefore new o l

-- if tables of schema 1 represent a history, this fault is lack of memory, or a failure of the disk
abbrev pub IsExcusedOfFormer : State → State → StoreFault → Type 0
IsExcusedOfFormer old new e =
    (o : Opening) (l : List Arrival) → IsHistory o l → TellsBefore old o l → IsExcused (DiskFailed old new) e

-- the tables of schema 1 become those of schema 2, row by row
abbrev pub MovesTables : State → State → Type 0
MovesTables old new = (c : Contents) → Rests (Had c) old → Rests (Has (migrated c)) new
