-- Everything that one statement on the tables does, as one record: its effect or result, why it fails, and what a crash
-- leaves. All but the last assume that the disk was faithful until the call returned.
use Rattle.std.specs.Prelude.{List, Result, Vec}
use Rattle.std.specs.declared.alloc.Global.{Global}
use Rattle.std.specs.declared.cmp.Ordering.{Ordering}
use Rattle.sqlite_trees.specs.declared.store.Store.{Ghosts}
use Rattle.sqlite.specs.Effect.{Database}
use Rattle.sqlite.specs.Held.{Held, state}
use Rattle.sqlite.specs.State.{State, HasCleanDisk, Survives}
use Rattle.store_sql.specs.declared.table_fault.Fault.{Fault}
use Rattle.store_sql.specs.Calls.{Changes, FailsBy, FailsIn, FindsIn, MayLeave, Never, OnlyReads, Rises, Stays}
use Rattle.store_sql.specs.Contents.{Contents, Means}
use Rattle.store_sql.specs.Faults.{HasCause}
use Rattle.store_sql.specs.Refusals.{RefusedFor}

-- ---- writes

-- it turns the contents `c` into `after c`, or it fails for one of these causes
pub record Wrote {X : Type 0} (after : Contents → Contents) (Causes : State → State → Result X Fault → Type 0)
    (old new : State) (r : Result X Fault) : Type 0 where
  pub changes : HasCleanDisk new → Changes after old new r
  pub fault : HasCleanDisk new → Causes old new r
  pub stays : HasCleanDisk new → Stays old new r
  pub survives : Survives old new (MayLeave after old)

-- for a connection, and contents that may refuse the write
abbrev pub WritesRows : {S X : Type 0} → Ghosts S → (Contents → Contents) → (Contents → Type 0) → Held S → Held S
    → Result X Fault → Type 0
WritesRows g after Refuses old new r = Wrote after (RefusedFor Refuses) (state g old) (state g new) r

-- for a connection, and a deletion, which no contents refuse
abbrev pub Deletes : {S X : Type 0} → Ghosts S → (Contents → Contents) → Held S → Held S → Result X Fault → Type 0
Deletes g after old new r = Wrote after (FailsBy HasCause) (state g old) (state g new) r

-- ---- queries

-- it finds this and changes nothing, or it fails
pub record Found {X : Type 0} (Finding : State → State → Result X Fault → Type 0) (old new : State)
    (r : Result X Fault) : Type 0 where
  pub finds : HasCleanDisk new → Finding old new r
  pub reads : HasCleanDisk new → OnlyReads old new r
  pub fault : HasCleanDisk new → FailsBy HasCause old new r
  pub survives : Survives old new Never

-- for a connection
abbrev pub Reads : {S X : Type 0} → Ghosts S → (State → State → Result X Fault → Type 0) → Held S → Held S
    → Result X Fault → Type 0
Reads g Finding old new r = Found Finding (state g old) (state g new) r

-- if `Has a` holds of the database, it finds `of a`, ascending by a key, and changes nothing; or it fails
pub record FoundSorted {A X K : Type 0} (Has : A → Database → Type 0) (of : A → List X) (key : X → K)
    (cmp : K → K → Ordering) (old new : State) (r : Result (Vec X Global) Fault) : Type 0 where
  pub finds : HasCleanDisk new → FindsIn Has of old new r
  pub sorted : HasCleanDisk new → Rises key cmp old new r
  pub reads : HasCleanDisk new → OnlyReads old new r
  pub fault : HasCleanDisk new → FailsIn Has HasCause old new r
  pub survives : Survives old new Never

-- for a connection
abbrev pub ReadsSortedIn : {S A X K : Type 0} → Ghosts S → (A → Database → Type 0) → (A → List X) → (X → K)
    → (K → K → Ordering) → Held S → Held S → Result (Vec X Global) Fault → Type 0
ReadsSortedIn g Has of key cmp old new r = FoundSorted Has of key cmp (state g old) (state g new) r

-- the same for tables with contents
abbrev pub ReadsSorted : {S X K : Type 0} → Ghosts S → (Contents → List X) → (X → K) → (K → K → Ordering) → Held S
    → Held S → Result (Vec X Global) Fault → Type 0
ReadsSorted g of key cmp old new r = ReadsSortedIn g (λ c db. Means db c) of key cmp old new r
