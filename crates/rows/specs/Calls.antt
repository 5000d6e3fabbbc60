-- What a call on the tables does to the connection.
use Rattle.std.specs.Prelude.{◌≡◌, false, if◌then◌else◌, IfErr, List, IsTrue, Option, Result, Ok, Err, Vec}
use Rattle.std.specs.declared.alloc.Global.{Global}
use Rattle.sqlite.specs.Tree.{Trees}
use Rattle.sqlite.specs.Schema.{Schema}
use Rattle.sqlite.specs.State.{State, IsUnchanged, KeepsCommit}
use Rattle.store_sql.specs.declared.table_fault.Fault.{Fault}
use Rattle.store_sql.specs.Calls.{Fails, FailsIn, FindsIn, IsBare, IsOneOf}
use Rattle.store_sql.specs.Refusals.{HasCauseOr}
use Rattle.rows.specs.Tables.{Kept, Means, Tables}

-- For any tables: a look that returns an answer changed nothing. Otherwise nothing has changed, or a transaction is
-- undone, or the connection is shut.
abbrev pub OnlyLooks : {X E : Type 0} → State → State → Result X E → Type 0
OnlyLooks old new (Ok x) = IsUnchanged old new
OnlyLooks old new (Err e) = IsTrue new.is_open → Fails old new

module _ {C : Type 0} (these : Tables C) where
  -- the connection shows these contents; an open transaction stays open, and outside of one they are committed
  pub record Steps (old new : State) (c : C) : Type 0 where
    pub was_open : IsTrue old.is_open
    pub is_open : IsTrue new.is_open
    pub means : Means these new.now c
    pub committed : new.committed ≡ (if old.in_transaction then old.committed else new.now)
    pub mode : new.in_transaction ≡ old.in_transaction
    pub marks : new.marks ≡ old.marks

  -- the change is made, or the call fails
  abbrev pub Changes : {X E : Type 0} → (C → C) → State → State → Result X E → Type 0
  Changes after old new (Ok x) = (c : C) → Means these old.now c → Steps old new (after c)
  Changes after old new (Err e) = Fails old new

  -- the call finds what the tables have, in some order, and nothing has changed; or it fails
  abbrev pub Finds : {X E : Type 0} → (C → List X) → State → State → Result (Vec X Global) E → Type 0
  Finds of old new r = FindsIn (λ c db. Means these db c) of old new r

  -- what is found, a struct or none, satisfies `Such`, and nothing has changed; or the call fails
  abbrev pub FindsSuch : {X E : Type 0} → (C → Option X → Type 0) → State → State → Result (Option X) E → Type 0
  FindsSuch Such old new (Ok found) = (c : C) → Means these old.now c → IsUnchanged old new × Such c found
  FindsSuch Such old new (Err e) = (c : C) → Means these old.now c → Fails old new

  -- one of these is found, or none if there is none
  abbrev pub FindsOne : {X E : Type 0} → (C → List X) → State → State → Result (Option X) E → Type 0
  FindsOne of old new r = FindsSuch (λ c. IsOneOf (of c)) old new r

  -- what a call that a crash cuts off may have committed
  abbrev pub MayLeave : (C → C) → State → Trees → Type 0
  MayLeave after old trees = (c : C) → Means these old.now c → (old.in_transaction ≡ false) × Kept these trees (after c)

  -- a fault over tables with contents has its cause
  abbrev pub FailsBy : {X : Type 0} → (State → State → Fault → Type 0) → State → State → Result X Fault → Type 0
  FailsBy Cause old new r = FailsIn (λ c db. Means these db c) Cause old new r

  -- over tables with contents a fault is a lack of memory, a failure of the database, or what these contents refuse
  abbrev pub RefusedFor : {X : Type 0} → (C → Type 0) → State → State → Result X Fault → Type 0
  RefusedFor Refuses old new r = IfErr r (λ f. (c : C) → Means these old.now c → HasCauseOr (Refuses c) old new f)

  -- the tables are made, without rows; or, in a transaction, the committed database stays
  abbrev pub Completes : {X E : Type 0} → Schema → State → State → Result X E → Type 0
  Completes before old new (Ok x) = IsBare before old.now → Steps old new these.none
  Completes before old new (Err e) = IsBare before old.now → IsTrue old.in_transaction → KeepsCommit old new
