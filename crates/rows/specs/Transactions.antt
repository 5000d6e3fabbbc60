-- What a part of a transaction does to the connection, and what a whole one does.
use Rattle.std.specs.Prelude.{◌≡◌, false, true, IfErr, IsTrue, OnErr, Result, Ok, Err}
use Rattle.sqlite_trees.specs.declared.store.Store.{Ghosts}
use Rattle.sqlite.specs.Tree.{Trees}
use Rattle.sqlite.specs.Effect.{Database}
use Rattle.sqlite.specs.Held.{Held, state}
use Rattle.sqlite.specs.State.{State, HasCleanDisk, KeepsCommit, Shows, Survives}
use Rattle.store_sql.specs.declared.table_fault.Fault.{Fault}
use Rattle.store_sql.specs.Calls.{Stays}
use Rattle.store_sql.specs.Faults.{HasCause}
use Rattle.store_sql.specs.Refusals.{HasCauseOr}
use Rattle.rows.specs.Tables.{Kept, Means, Tables}

-- no transaction is open, and the database satisfies `P`
pub record Rests (P : Database → Type 0) (s : State) : Type 0 where
  pub autocommit : s.in_transaction ≡ false
  pub now : P s.now
  pub committed : P s.committed

-- in a database that satisfies `Before` a fault is a lack of memory, a failure of the database, or this refusal
abbrev pub FailsFor : {A X : Type 0} → (A → Database → Type 0) → (A → Type 0) → State → State → Result X Fault → Type 0
FailsFor {A} Before Refused old new r = IfErr r (λ f. (a : A) → Before a old.now → HasCauseOr (Refused a) old new f)

-- a crash in the middle of it leaves the database that was committed before
abbrev pub Waits : {A : Type 0} → (A → Database → Type 0) → State → Trees → Type 0
Waits {A} Before old trees = (a : A) → Before a old.now → old.in_transaction ≡ false

-- no transaction is open, and the database is the committed one
pub record HasEnded (old new : State) : Type 0 where
  pub autocommit : new.in_transaction ≡ false
  pub was_open : IsTrue new.is_open → IsTrue old.is_open
  pub now : IsTrue new.is_open → new.now ≡ old.committed
  pub committed : IsTrue new.is_open → new.committed ≡ old.committed

-- the transaction is committed, or undone
abbrev pub Closes : {X : Type 0} → State → State → Result X Fault → Type 0
Closes old new (Ok x) = Shows old new old.now old.now false
Closes old new (Err e) = HasEnded old new

-- a failed commit of an open transaction has its cause
abbrev pub ClosesFor : {X : Type 0} → State → State → Result X Fault → Type 0
ClosesFor old new r = old.in_transaction ≡ true → IfErr r (HasCause old new)

-- an answer is passed on, and its transaction committed; or nothing of it is
abbrev pub Concludes : {X E : Type 0} → Result X E → State → State → Result X E → Type 0
Concludes (Ok x) old new (Ok y) = (y ≡ x) × Shows old new old.now old.now false
Concludes (Ok x) old new (Err e) = HasEnded old new
Concludes (Err e) old new (Ok x) = ⊥
Concludes (Err e) old new (Err f) = (f ≡ e) × HasEnded old new

-- the same for a commit after an answer
abbrev pub EndsFor : {X : Type 0} → Result X Fault → State → State → Result X Fault → Type 0
EndsFor (Ok x) old new r = ClosesFor old new r
EndsFor (Err e) old new r = Unit {0}

-- what a crash may leave after the answer: the database that is to be committed, if there is an answer
abbrev pub LeavesAnswered : {X E : Type 0} → Result X E → State → Trees → Type 0
LeavesAnswered (Ok x) old trees = trees ≡ old.now.trees
LeavesAnswered (Err e) old trees = ⊥

-- a fault of the whole is a lack of memory, a failure of the database, or this refusal, provided that the database of
-- an open connection is at rest and satisfies `Before`
abbrev pub StopsFor : {A : Type 0} → (A → Database → Type 0) → (A → Type 0) → State → State → Fault → Type 0
StopsFor {A} Before Refused old new f =
    (a : A) → (IsTrue old.is_open → Rests (Before a) old) → HasCauseOr (Refused a) old new f

-- no transaction is open, and the database that the connection shows is committed
abbrev pub IsAtRest : State → Type 0
IsAtRest s = (s.in_transaction ≡ false) × (s.now ≡ s.committed)

-- A database at rest is the same, whatever its tables hold, unless a failed disk has shut the connection.
pub record IsAsBefore (old new : State) : Type 0 where
  pub was_open : IsTrue new.is_open → IsTrue old.is_open
  pub rest : IsTrue new.is_open → IsAtRest old → IsAtRest new
  pub same : IsTrue new.is_open → IsAtRest old → new.now ≡ old.now

-- if it fails, everything is as before
abbrev pub KeepsOnErr : {X E : Type 0} → State → State → Result X E → Type 0
KeepsOnErr old new r = OnErr r (IsAsBefore old new)

module _ {C : Type 0} (these : Tables C) where
  -- the tables hold these contents
  abbrev pub Has : C → Database → Type 0
  Has c db = Means these db c

  -- ---- a part of a transaction

  -- it is done, and the tables hold these contents
  pub record Goes (old new : State) (c : C) : Type 0 where
    pub was_open : IsTrue old.is_open
    pub is_open : IsTrue new.is_open
    pub means : Means these new.now c
    pub committed : IsTrue old.in_transaction → new.committed ≡ old.committed
    pub mode : new.in_transaction ≡ old.in_transaction

  -- In a database that satisfies `Before` the specified answer is returned, and the tables hold the contents `after`; or
  -- it fails, and nothing is committed.
  abbrev pub Answers : {A X E : Type 0} → (A → Database → Type 0) → (A → X → Type 0) → (A → C) → State → State
      → Result X E → Type 0
  Answers {A} Before Due after old new (Ok x) = (a : A) → Before a old.now → Due a x × Goes old new (after a)
  Answers {A} Before Due after old new (Err e) =
      (a : A) → Before a old.now → IsTrue old.in_transaction → KeepsCommit old new

  -- a part that returns no value
  abbrev pub Makes : {A X E : Type 0} → (A → Database → Type 0) → (A → C) → State → State → Result X E → Type 0
  Makes Before after old new r = Answers Before (λ _ _. Unit {0}) after old new r

  -- All of this in a database that satisfies `Before`: the tables hold the contents `after`, or it fails, perhaps by this
  -- refusal.
  pub record Part {A X : Type 0} (Before : A → Database → Type 0) (after : A → C) (refused : A → Type 0)
      (old new : State) (r : Result X Fault) : Type 0 where
    pub makes : HasCleanDisk new → Makes Before after old new r
    pub fault : HasCleanDisk new → FailsFor Before refused old new r
    pub stays : HasCleanDisk new → Stays old new r
    pub survives : Survives old new (Waits Before old)

  -- the same for a connection
  abbrev pub DoesIn : {S A X : Type 0} → Ghosts S → (A → Database → Type 0) → (A → C) → (A → Type 0) → Held S
      → Held S → Result X Fault → Type 0
  DoesIn g Before after refused old new r = Part Before after refused (state g old) (state g new) r

  -- the same for a connection to tables with contents
  abbrev pub Does : {S X : Type 0} → Ghosts S → (C → C) → (C → Type 0) → Held S → Held S
      → Result X Fault → Type 0
  Does g f refused old new r = DoesIn g Has f refused old new r

  -- ---- its end

  -- ---- the whole

  -- In a database at rest that satisfies `Before` the specified answer is returned, and the tables then hold the contents
  -- `after`; or everything is as before. Only a failed disk shuts the connection, and a shut one returns no answer.
  abbrev pub Ends : {A X E : Type 0} → (A → Database → Type 0) → (A → X → Type 0) → (A → C) → State → State
      → Result X E → Type 0
  Ends {A} Before Due after old new (Ok x) =
      IsTrue old.is_open × IsTrue new.is_open
      × ((a : A) → Rests (Before a) old → Due a x × Rests (Has (after a)) new)
  Ends {A} Before Due after old new (Err e) =
      IsTrue new.is_open → IsTrue old.is_open × ((a : A) → Rests (Before a) old → Rests (Before a) new)

  -- what a crash in the middle of it may leave, apart from what was there before: the contents `after`, if the connection
  -- was open
  abbrev pub Leaves : {A : Type 0} → (A → Database → Type 0) → (A → C) → State → Trees → Type 0
  Leaves {A} Before after old trees = IsTrue old.is_open × ((a : A) → Rests (Before a) old → Kept these trees (after a))

  -- ---- one write in a transaction of its own

  -- All of this for tables with contents: they hold the contents `after`, or it fails, perhaps by this refusal. No
  -- transaction is open after it. Whatever the tables hold, they are as before if it fails.
  pub record Whole (after : C → C) (refused : C → Type 0) (old new : State)
      (r : Result (Unit {0}) Fault) : Type 0 where
    pub ends : HasCleanDisk new → Ends Has (λ _ _. Unit {0}) after old new r
    pub outside : HasCleanDisk new → old.in_transaction ≡ false → new.in_transaction ≡ false
    pub cause : HasCleanDisk new → old.in_transaction ≡ false → IfErr r (StopsFor Has refused old new)
    pub kept : HasCleanDisk new → KeepsOnErr old new r
    pub survives : Survives old new (Leaves Has after old)

  -- the same for a connection
  abbrev pub WritesWhole : {S : Type 0} → Ghosts S → (C → C) → (C → Type 0) → Held S → Held S
      → Result (Unit {0}) Fault → Type 0
  WritesWhole g after refused old new r = Whole after refused (state g old) (state g new) r
