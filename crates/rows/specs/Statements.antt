-- Everything that one statement on the tables does, as one record: what it changes or finds, why it fails, and what a
-- crash leaves. All but the last assumes that the disk has been faithful when the call ends.
use Rattle.std.specs.Prelude.{List, Result, Vec}
use Rattle.std.specs.declared.alloc.Global.{Global}
use Rattle.sqlite.specs.Effect.{Database}
use Rattle.sqlite_trees.specs.declared.store.Store.{Ghosts}
use Rattle.sqlite.specs.Held.{Held, state}
use Rattle.sqlite.specs.State.{State, HasCleanDisk, Survives}
use Rattle.store_sql.specs.declared.table_fault.Fault.{Fault}
use Rattle.store_sql.specs.Calls.{FailsIn, FindsIn, Never, OnlyReads, Stays}
use Rattle.store_sql.specs.Faults.{HasCause}
use Rattle.rows.specs.Tables.{Tables}
use Rattle.rows.specs.Calls.{Changes, FailsBy, MayLeave, RefusedFor}

-- in a database that satisfies `Has` it finds all of these, and changes nothing; or it fails
pub record FoundIn {A X : Type 0} (Has : A → Database → Type 0) (of : A → List X) (old new : State)
    (r : Result (Vec X Global) Fault) : Type 0 where
  pub finds : HasCleanDisk new → FindsIn Has of old new r
  pub reads : HasCleanDisk new → OnlyReads old new r
  pub fault : HasCleanDisk new → FailsIn Has HasCause old new r
  pub survives : Survives old new Never

-- the same for a connection
abbrev pub ReadsIn : {S A X : Type 0} → Ghosts S → (A → Database → Type 0) → (A → List X) → Held S → Held S
    → Result (Vec X Global) Fault → Type 0
ReadsIn g Has of old new r = FoundIn Has of (state g old) (state g new) r

module _ {C : Type 0} (these : Tables C) where
  -- ---- writes

  -- it changes the contents to `after`, or it fails for one of these causes
  pub record Wrote {X : Type 0} (after : C → C) (Causes : State → State → Result X Fault → Type 0) (old new : State)
      (r : Result X Fault) : Type 0 where
    pub changes : HasCleanDisk new → Changes these after old new r
    pub fault : HasCleanDisk new → Causes old new r
    pub stays : HasCleanDisk new → Stays old new r
    pub survives : Survives old new (MayLeave these after old)

  -- the same for a connection, and for contents that may refuse the write
  abbrev pub Writes : {S X : Type 0} → Ghosts S → (C → C) → (C → Type 0) → Held S → Held S → Result X Fault → Type 0
  Writes g after Refuses old new r = Wrote after (RefusedFor these Refuses) (state g old) (state g new) r

  -- ---- queries

  -- it finds this and changes nothing, or it fails
  pub record Found {X : Type 0} (Finding : State → State → Result X Fault → Type 0) (old new : State)
      (r : Result X Fault) : Type 0 where
    pub finds : HasCleanDisk new → Finding old new r
    pub reads : HasCleanDisk new → OnlyReads old new r
    pub fault : HasCleanDisk new → FailsBy these HasCause old new r
    pub survives : Survives old new Never

  -- the same for a connection
  abbrev pub Reads : {S X : Type 0} → Ghosts S → (State → State → Result X Fault → Type 0) → Held S → Held S
      → Result X Fault → Type 0
  Reads g Finding old new r = Found Finding (state g old) (state g new) r
