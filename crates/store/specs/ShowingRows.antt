-- What a reading call shows of the tables of an office.
use Rattle.std.specs.Prelude.{◌≡◌, ℕ, List, filter, IsTrue, Result, Ok, Err, Vec}
use Rattle.std.specs.declared.alloc.Global.{Global}
use Rattle.sqlite_trees.specs.declared.store.Store.{Ghosts}
use Rattle.sqlite.specs.Held.{Held, state as state_of}
use Rattle.sqlite.specs.State.{State as Connection, HasCleanDisk, IsUnchanged, Survives}
use Rattle.store_sql.specs.Contents.{Means}
use Rattle.store_sql.specs.Calls.{Fails, Never, OnlyReads}
use Rattle.store_sql.specs.Faults.{HasCause}
use Rattle.store_sql.specs.declared.table_fault.Fault.{Fault}
use Rattle.office.specs.declared.arrival.Kept.{Kept}
use Rattle.office.specs.State.{State}
use Rattle.office.specs.declared.certificate.Certificate.{Certificate}
use Rattle.store.specs.Certificates.{lies_within}
use Rattle.store.specs.Lawful.{IsLawful}
use Rattle.store.specs.Rows.{contents_of}

-- For tables with the rows of a valid state and of its stored requests: `Shown` holds of these and the answer, and
-- nothing has changed; or the call fails, for lack of memory or because the database failed.
abbrev pub ShowsFromRows : {X : Type 0} → (State → List Kept → X → Type 0) → Connection → Connection
    → Result X Fault → Type 0
ShowsFromRows Shown old new (Ok x) =
    (s : State) (kept : List Kept) → IsLawful s → Means old.now (contents_of s kept)
    → Shown s kept x × IsUnchanged old new
ShowsFromRows Shown old new (Err f) =
    (s : State) (kept : List Kept) → IsLawful s → Means old.now (contents_of s kept)
    → Fails old new × HasCause old new f

-- everything that such a call does, provided that `Given` holds: its answer satisfies `Shown`, and nothing changes
pub record Asking {X : Type 0} (Given : Type 0) (Shown : State → List Kept → X → Type 0) (old new : Connection)
    (r : Result X Fault) : Type 0 where
  pub shows : HasCleanDisk new → Given → ShowsFromRows Shown old new r
  pub reads : HasCleanDisk new → Given → OnlyReads old new r
  pub survives : Survives old new Never

-- for a connection
abbrev pub AsksRows : {S X : Type 0} → Ghosts S → (State → List Kept → X → Type 0) → Held S → Held S → Result X Fault
    → Type 0
AsksRows g Shown old new r = Asking (Unit {0}) Shown (state_of g old) (state_of g new) r

-- for a connection, provided that it is open
abbrev pub AsksOpen : {S X : Type 0} → Ghosts S → (State → List Kept → X → Type 0) → Held S → Held S → Result X Fault
    → Type 0
AsksOpen g Shown old new r = Asking (IsTrue (state_of g old).is_open) Shown (state_of g old) (state_of g new) r

-- the certificates whose serials are between the two, both included
abbrev pub AreWithin : (lo hi : ℕ) → State → List Kept → Vec Certificate Global → Type 0
AreWithin lo hi s kept rows = rows.items ≡ filter (lies_within lo hi) s.certificates
