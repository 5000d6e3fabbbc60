-- The effect of a part of a transaction on the connection, and that of a whole one.
use Rattle.std.specs.Prelude.{◌≡◌, ◌≤◌, false, true, IfErr, IsTrue, OnErr, Result, Ok, Err}
use Rattle.sqlite_trees.specs.declared.store.Store.{Ghosts}
use Rattle.sqlite.specs.Tree.{Trees}
use Rattle.sqlite.specs.Effect.{Database}
use Rattle.sqlite.specs.Held.{Held, state}
use Rattle.sqlite.specs.State.{State, HasCleanDisk, KeepsCommit, Shows, Survives}
use Rattle.store_sql.specs.Calls.{Stays}
use Rattle.store_sql.specs.Contents.{Contents, Kept, Means}
use Rattle.store_sql.specs.declared.table_fault.Fault.{Fault}
use Rattle.store_sql.specs.Faults.{HasCause}
use Rattle.store_sql.specs.Refusals.{HasCauseOr}

-- no transaction is open, and this holds of the database
pub record Rests (P : Database → Type 0) (s : State) : Type 0 where
  pub autocommit : s.in_transaction ≡ false
  pub now : P s.now
  pub committed : P s.committed

-- the tables hold these contents
abbrev pub Has : Contents → Database → Type 0
Has c db = Means db c

-- ---- a part of a transaction

-- it succeeded, and the tables hold these contents
pub record Goes (old new : State) (c : Contents) : Type 0 where
  pub was_open : IsTrue old.is_open
  pub is_open : IsTrue new.is_open
  pub means : Means new.now c
  pub committed : IsTrue old.in_transaction → new.committed ≡ old.committed
  pub mode : new.in_transaction ≡ old.in_transaction

-- If the database satisfies `Before a`: the answer satisfies `Due a`, and the tables hold `after a`; or it fails, and
-- nothing is committed.
abbrev pub Answers : {A X E : Type 0} → (A → Database → Type 0) → (A → X → Type 0) → (A → Contents) → State → State
    → Result X E → Type 0
Answers {A} Before Due after old new (Ok x) = (a : A) → Before a old.now → Due a x × Goes old new (after a)
Answers {A} Before Due after old new (Err e) =
    (a : A) → Before a old.now → IsTrue old.in_transaction → KeepsCommit old new

-- the same for an answer that carries no value
abbrev pub Makes : {A X E : Type 0} → (A → Database → Type 0) → (A → Contents) → State → State → Result X E → Type 0
Makes Before after old new r = Answers Before (λ _ _. Unit {0}) after old new r

-- if the database satisfied `Before`, a fault is lack of memory, or a failure of the database, or this refusal
abbrev pub FailsFor : {A X : Type 0} → (A → Database → Type 0) → (A → Type 0) → State → State → Result X Fault → Type 0
FailsFor {A} Before Refused old new r = IfErr r (λ f. (a : A) → Before a old.now → HasCauseOr (Refused a) old new f)

-- a crash during a part leaves only what was committed before, if a transaction is open
abbrev pub Waits : {A : Type 0} → (A → Database → Type 0) → State → Trees → Type 0
Waits {A} Before old trees = (a : A) → Before a old.now → old.in_transaction ≡ false

-- Everything that a part does, for a database that satisfies `Before`: the tables then hold `after`, or it fails,
-- perhaps because of this refusal.
pub record DoesPart {A X : Type 0} (Before : A → Database → Type 0) (after : A → Contents) (refused : A → Type 0)
    (old new : State) (r : Result X Fault) : Type 0 where
  pub makes : HasCleanDisk new → Makes Before after old new r
  pub fault : HasCleanDisk new → FailsFor Before refused old new r
  pub stays : HasCleanDisk new → Stays old new r
  pub survives : Survives old new (Waits Before old)

-- for a connection
abbrev pub DoesIn : {S A X : Type 0} → Ghosts S → (A → Database → Type 0) → (A → Contents) → (A → Type 0) → Held S
    → Held S → Result X Fault → Type 0
DoesIn g Before after refused old new r = DoesPart Before after refused (state g old) (state g new) r

-- for a connection, and tables that hold some contents
abbrev pub Does : {S X : Type 0} → Ghosts S → (Contents → Contents) → (Contents → Type 0) → Held S → Held S
    → Result X Fault → Type 0
Does g f refused old new r = DoesIn g Has f refused old new r

-- ---- its end

-- no transaction is open, and the database is what was committed
pub record HasEnded (old new : State) : Type 0 where
  pub autocommit : new.in_transaction ≡ false
  pub was_open : IsTrue new.is_open → IsTrue old.is_open
  pub now : IsTrue new.is_open → new.now ≡ old.committed
  pub committed : IsTrue new.is_open → new.committed ≡ old.committed

-- the transaction is committed, or rolled back
abbrev pub Closes : {X : Type 0} → State → State → Result X Fault → Type 0
Closes old new (Ok x) = Shows old new old.now old.now false
Closes old new (Err e) = HasEnded old new

-- a failing commit of an open transaction has its cause
abbrev pub ClosesFor : {X : Type 0} → State → State → Result X Fault → Type 0
ClosesFor old new r = old.in_transaction ≡ true → IfErr r (HasCause old new)

-- a successful answer is passed on and committed; otherwise the transaction is rolled back
abbrev pub Concludes : {X E : Type 0} → Result X E → State → State → Result X E → Type 0
Concludes (Ok x) old new (Ok y) = (y ≡ x) × Shows old new old.now old.now false
Concludes (Ok x) old new (Err e) = HasEnded old new
Concludes (Err e) old new (Ok x) = ⊥
Concludes (Err e) old new (Err f) = (f ≡ e) × HasEnded old new

-- a failing commit of a successful answer has its cause
abbrev pub EndsFor : {X : Type 0} → Result X Fault → State → State → Result X Fault → Type 0
EndsFor (Ok x) old new r = ClosesFor old new r
EndsFor (Err e) old new r = Unit {0}

-- what a crash may leave after an answer: the transaction's rows if it succeeded, and otherwise nothing new
abbrev pub LeavesAnswered : {X E : Type 0} → Result X E → State → Trees → Type 0
LeavesAnswered (Ok x) old trees = trees ≡ old.now.trees
LeavesAnswered (Err e) old trees = ⊥

-- ---- the whole transaction

-- If the database is at rest and satisfies `Before a`: the answer satisfies `Due a`, and the tables then hold `after
-- a`; or it fails, and nothing has changed, unless the connection is closed then. A closed connection never answers.
abbrev pub Ends : {A X E : Type 0} → (A → Database → Type 0) → (A → X → Type 0) → (A → Contents) → State → State
    → Result X E → Type 0
Ends {A} Before Due after old new (Ok x) =
    IsTrue old.is_open × IsTrue new.is_open
    × ((a : A) → Rests (Before a) old → Due a x × Rests (Has (after a)) new)
Ends {A} Before Due after old new (Err e) =
    IsTrue new.is_open → IsTrue old.is_open × ((a : A) → Rests (Before a) old → Rests (Before a) new)

-- if the connection was closed, or its database was at rest and satisfied `Before`, a fault of the whole is lack of
-- memory, or a failure of the database, or this refusal
abbrev pub StopsFor : {A : Type 0} → (A → Database → Type 0) → (A → Type 0) → State → State → Fault → Type 0
StopsFor {A} Before Refused old new f =
    (a : A) → (IsTrue old.is_open → Rests (Before a) old) → HasCauseOr (Refused a) old new f

-- no transaction is open, and everything that the connection shows is committed
abbrev pub IsAtRest : State → Type 0
IsAtRest s = (s.in_transaction ≡ false) × (s.now ≡ s.committed)

-- A database at rest is unchanged, whatever its tables represent, unless a failed disk has closed the connection.
pub record IsAsBefore (old new : State) : Type 0 where
  pub was_open : IsTrue new.is_open → IsTrue old.is_open
  pub rest : IsTrue new.is_open → IsAtRest old → IsAtRest new
  pub same : IsTrue new.is_open → IsAtRest old → new.now ≡ old.now

-- no failure of the disk is forgotten
abbrev pub FailuresStay : State → State → Type 0
FailuresStay old new = old.faults ≤ new.faults

-- if it fails, nothing has changed
abbrev pub KeepsOnErr : {X E : Type 0} → State → State → Result X E → Type 0
KeepsOnErr old new r = OnErr r (IsAsBefore old new)

-- what a crash during it may leave, besides what was there before: all of `after`, if the connection was open
abbrev pub Leaves : {A : Type 0} → (A → Database → Type 0) → (A → Contents) → State → Trees → Type 0
Leaves {A} Before after old trees = IsTrue old.is_open × ((a : A) → Rests (Before a) old → Kept trees (after a))

-- the same, and there was an answer that satisfied `Due`
abbrev pub LeavesDue : {A X : Type 0} → (A → Database → Type 0) → (A → X → Type 0) → (A → Contents) → State → Trees
    → Type 0
LeavesDue {A} {X} Before Due after old trees =
    IsTrue old.is_open × ((a : A) → Rests (Before a) old → (x : X) × Due a x × Kept trees (after a))
