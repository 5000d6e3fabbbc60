-- Offices made in a database, and migrated from the previous schema.
use Rattle.std.specs.Prelude.{◌≢◌, ◌++◌, ◌∷◌, [], ℕ, List, codes, decimal, IsOk, IsTrue, Result, Ok, Err}
use Rattle.sqlite.specs.State.{State, Survives}
use Rattle.lines.specs.Digests.{fingerprint_text}
use Rattle.office.specs.declared.opening.Opening.{Opening}
use Rattle.office.specs.declared.opening.OpeningFault.{OpeningFault}
use Rattle.office.specs.declared.arrival.Arrival.{Arrival}
use Rattle.office.specs.declared.store_fault.StoreFault.{StoreFault}
use Rattle.office.specs.declared.store_fault.StoreFault.TheVariants as store
use Rattle.store_sql.specs.Schema.{no_schema, whole}
use Rattle.store_sql.specs.Calls.{IsBare}
use Rattle.store_sql.specs.Contents.{Contents}
use Rattle.store.specs.Rows.{office_contents}
use Rattle.store.specs.Transactions.{Has, IsAsBefore, Leaves, Rests}
use Rattle.store.specs.Former.{Had, TellsBefore, ca_of, migrated}
use Rattle.store.specs.Migrating.{HasStopped, IsExcused, Judges}
use Rattle.store.specs.Meaning.{DiskFailed, IsBlank, IsHistory, KeepsTelling, Tells}
use Rattle.office.specs.Openings.{made_opening}
use Rattle.office_jobs.specs.declared.founding.Founding.{Founding}
use Rattle.office_jobs.specs.declared.job_fault.JobFault.{JobFault}
use Rattle.office_jobs.specs.declared.job_fault.JobFault.TheVariants.{NoMemory, Store}

-- ---- an office made

-- the initial configuration of an office with this CA, or its first fault
abbrev pub due_opening : Founding → List ℕ → Result Opening OpeningFault
due_opening f ca = made_opening ca f.root.now f.station.now f.first f.last

-- a crash in the middle leaves the database as it was, or with the whole office
abbrev pub IsMadeWhole : Opening → (old new : State) → Type 0
IsMadeWhole opening old new =
    Survives old new (Leaves (λ _. IsBare no_schema) (λ (_ : Unit {0}). office_contents opening []) old)

-- the tables weren't those of schema 2; if there were none, they are now those of an office with an empty history
pub record IsOfficeMade (opening : Opening) (old new : State) : Type 0 where
  pub unlike : old.now.schema ≢ whole
  pub made : IsBlank old → Tells new opening []
  pub is_open : IsTrue new.is_open
  pub crash : IsMadeWhole opening old new

-- Nothing is made; if the database had no tables, the reason is lack of memory, or the database failed. An existing
-- office stays.
pub record IsUnmade (opening : Opening) (old new : State) (e : StoreFault) : Type 0 where
  pub before : IsAsBefore old new
  pub blank : IsBlank old → IsTrue new.is_open → IsBlank new
  pub only : IsBlank old → IsExcused (DiskFailed old new) e
  pub tells : KeepsTelling old new
  pub crash : IsMadeWhole opening old new

abbrev pub MakesOffice : Opening → (old new : State) → Result (Unit {0}) JobFault → Type 0
MakesOffice opening old new (Ok done) = IsOfficeMade opening old new
MakesOffice opening old new (Err NoMemory) = IsUnmade opening old new store.NoMemory
MakesOffice opening old new (Err (Store e)) = IsUnmade opening old new e
MakesOffice opening old new (Err other) = ⊥

-- its serials, and the fingerprint of its CA
abbrev pub ready_text : Opening → List ℕ
ready_text o =
    codes "office ready "
    ++ (decimal o.first ++ (32 ∷ (decimal o.last ++ (codes "\nca " ++ (fingerprint_text o.ca ++ (10 ∷ []))))))

-- ---- an office migrated

-- a crash in the middle leaves the tables as they were, or as they are at the end
abbrev pub IsMovedWhole : (old new : State) → Type 0
IsMovedWhole old new = Survives old new (Leaves Had migrated old)

-- the tables weren't those of schema 2; tables of schema 1 were migrated row by row, and still represent the same
pub record IsMoved (old new : State) : Type 0 where
  pub unlike : old.now.schema ≢ whole
  pub judged : (c : Contents) → Rests (Had c) old → IsOk (ca_of c.offices)
  pub moved : (c : Contents) → Rests (Had c) old → Rests (Has (migrated c)) new
  pub carried : (o : Opening) (l : List Arrival) → IsHistory o l → TellsBefore old o l → Tells new o l
  pub is_open : IsTrue new.is_open
  pub crash : IsMovedWhole old new

-- They were not migrated, and this fault has its cause. An office of schema 2 stays.
pub record IsUnmoved (old new : State) (e : StoreFault) : Type 0 where
  pub judged : (c : Contents) → Rests (Had c) old → Judges c (HasStopped c old new) (Err e)
  pub only : IsTrue old.is_open → (o : Opening) (l : List Arrival) → IsHistory o l → TellsBefore old o l
      → IsExcused (DiskFailed old new) e
  pub before : IsAsBefore old new
  pub back : (o : Opening) (l : List Arrival) → TellsBefore old o l → TellsBefore new o l
  pub tells : KeepsTelling old new
  pub crash : IsMovedWhole old new

abbrev pub MigratesOffice : (old new : State) → Result (Unit {0}) JobFault → Type 0
MigratesOffice old new (Ok done) = IsMoved old new
MigratesOffice old new (Err NoMemory) = IsUnmoved old new store.NoMemory
MigratesOffice old new (Err (Store e)) = IsUnmoved old new e
MigratesOffice old new (Err other) = ⊥
