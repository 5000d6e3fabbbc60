-- The effect of a call on the connection.
use Rattle.std.specs.Prelude.{◌≡◌, ◌⊎◌, true, false, if◌then◌else◌, List, [], ◌∷◌, IsPermutation, IsSortedByKey, IsTrue}
use Rattle.std.specs.Prelude.{IfErr, Option, Some, None, Result, Ok, Err, Vec}
use Rattle.std.specs.declared.cmp.Ordering.{Ordering}
use Rattle.std.specs.declared.alloc.Global.{Global}
use Rattle.std.specs.List.{AllByRecursion}
use Rattle.sqlite.specs.Tree.{Trees}
use Rattle.sqlite.specs.Effect.{Database, IsDatabase}
use Rattle.sqlite.specs.Schema.{Schema}
use Rattle.sqlite.specs.Table.{Table}
use Rattle.sqlite.specs.Change.{created, next_tree, KeepsRows}
use Rattle.sqlite.specs.State.{State, IsUnchanged, IsRolledBack, KeepsCommit, Shows}
use Rattle.store_sql.specs.declared.table_fault.Fault.{Fault}
use Rattle.store_sql.specs.declared.table_fault.Fault.TheVariants.{Damaged}
use Rattle.store_sql.specs.Faults.{HasCause}
use Rattle.store_sql.specs.Contents.{Contents, Means, MeansWithoutCa, Kept, no_contents}

-- the tables hold these contents; an open transaction stays open, and outside one the contents are committed
pub record Steps (old new : State) (c : Contents) : Type 0 where
  pub was_open : IsTrue old.is_open
  pub is_open : IsTrue new.is_open
  pub means : Means new.now c
  pub committed : new.committed ≡ (if old.in_transaction then old.committed else new.now)
  pub mode : new.in_transaction ≡ old.in_transaction
  pub marks : new.marks ≡ old.marks

-- nothing has changed, or the transaction is rolled back
abbrev pub Fails : State → State → Type 0
Fails old new = IsUnchanged old new ⊎ IsRolledBack old new

-- the change is made, or the call fails
abbrev pub Changes : {X E : Type 0} → (Contents → Contents) → State → State → Result X E → Type 0
Changes after old new (Ok x) = (c : Contents) → Means old.now c → Steps old new (after c)
Changes after old new (Err e) = Fails old new

-- if `Has a` holds of the database: the result is `of a`, in some order, and nothing has changed; or the call fails
abbrev pub FindsIn : {A X E : Type 0} → (A → Database → Type 0) → (A → List X) → State → State
    → Result (Vec X Global) E → Type 0
FindsIn {A} Has of old new (Ok found) = (a : A) → Has a old.now → IsUnchanged old new × IsPermutation (of a) found.items
FindsIn {A} Has of old new (Err e) = (a : A) → Has a old.now → Fails old new

-- the same for tables with contents
abbrev pub Finds : {X E : Type 0} → (Contents → List X) → State → State → Result (Vec X Global) E → Type 0
Finds of old new r = FindsIn (λ c db. Means db c) of old new r

-- one of these, or `None` if there is none
abbrev pub IsOneOf : {X : Type 0} → List X → Option X → Type 0
IsOneOf xs None = xs ≡ []
IsOneOf {X} xs (Some x) = (others : List X) × IsPermutation xs (x ∷ others)

-- one of these is found, and nothing has changed; or the call fails
abbrev pub FindsOne : {X E : Type 0} → (Contents → List X) → State → State → Result (Option X) E → Type 0
FindsOne of old new (Ok found) = (c : Contents) → Means old.now c → IsUnchanged old new × IsOneOf (of c) found
FindsOne of old new (Err e) = (c : Contents) → Means old.now c → Fails old new

-- the structs found ascend by this key
abbrev pub Rises : {X K E : Type 0} → (X → K) → (K → K → Ordering) → State → State → Result (Vec X Global) E → Type 0
Rises key cmp old new (Ok found) = (c : Contents) → Means old.now c → IsSortedByKey key cmp found.items
Rises key cmp old new (Err e) = Unit {0}

-- For any tables: if the call answers, the connection was open, and nothing has changed; or it fails, and if it reports
-- damage, nothing has changed either.
abbrev pub OnlyReads : {X : Type 0} → State → State → Result X Fault → Type 0
OnlyReads old new (Ok x) = IsUnchanged old new
OnlyReads old new (Err f) = Fails old new × (f ≡ Damaged → IsUnchanged old new)

-- For any tables, inside a transaction: what was committed stays, and after an answer the transaction stays open.
abbrev pub Stays : {X E : Type 0} → State → State → Result X E → Type 0
Stays old new (Ok x) = IsTrue old.in_transaction → KeepsCommit old new × (new.in_transaction ≡ old.in_transaction)
Stays old new (Err f) = IsTrue old.in_transaction → KeepsCommit old new

-- the trees that a call interrupted by a crash may have committed
abbrev pub MayLeave : (Contents → Contents) → State → Trees → Type 0
MayLeave after old trees = (c : Contents) → Means old.now c → (old.in_transaction ≡ false) × Kept trees (after c)

-- nothing is committed, whatever the tables hold
abbrev pub Never : Trees → Type 0
Never trees = ⊥

-- a transaction begins
abbrev pub Begins : {X E : Type 0} → State → State → Result X E → Type 0
Begins old new (Ok x) = (old.in_transaction ≡ false) × Shows old new old.now old.committed true
Begins old new (Err e) = Fails old new

-- the transaction is committed
abbrev pub Commits : {X E : Type 0} → State → State → Result X E → Type 0
Commits old new (Ok x) = Shows old new old.now old.now false
Commits old new (Err e) = Fails old new

-- an open transaction is rolled back
abbrev pub Undoes : State → State → Type 0
Undoes old new = IsTrue old.in_transaction → IsRolledBack old new

-- if `Has a` holds of the database, a fault has its cause
abbrev pub FailsIn : {A X : Type 0} → (A → Database → Type 0) → (State → State → Fault → Type 0) → State → State
    → Result X Fault → Type 0
FailsIn {A} Has Cause old new r = IfErr r (λ f. (a : A) → Has a old.now → Cause old new f)

-- the same for tables with contents
abbrev pub FailsBy : {X : Type 0} → (State → State → Fault → Type 0) → State → State → Result X Fault → Type 0
FailsBy Cause old new r = FailsIn (λ c db. Means db c) Cause old new r

-- if this holds before the call, a fault has its cause
abbrev pub FailsWhere : {X : Type 0} → (State → Type 0) → State → State → Result X Fault → Type 0
FailsWhere Holds old new r = Holds old → IfErr r (HasCause old new)

-- ---- the tables themselves

-- the connection has one more table, with no row, and the others are as they were
pub record Grown (old new : State) (before : Schema) (table : Table) : Type 0 where
  pub was_open : IsTrue old.is_open
  pub is_open : IsTrue new.is_open
  pub schema : new.now.schema ≡ created before table
  pub empty : new.now.trees (next_tree before) ≡ []
  pub others : KeepsRows before.tables old.now.trees new.now.trees
  pub sound : IsDatabase new.now
  pub committed : new.committed ≡ (if old.in_transaction then old.committed else new.now)
  pub mode : new.in_transaction ≡ old.in_transaction
  pub marks : new.marks ≡ old.marks

-- the table is added to the existing ones, or the call fails
abbrev pub Creates : {X E : Type 0} → Schema → Table → State → State → Result X E → Type 0
Creates before table old new (Ok x) = old.now.schema ≡ before → Grown old new before table
Creates before table old new (Err e) = Fails old new

-- the database has exactly these tables, and no row
abbrev pub IsBare : Schema → Database → Type 0
IsBare schema db = (db.schema ≡ schema) × AllByRecursion (λ t. db.trees t.tree ≡ []) schema.tables

-- the missing tables are created, and there is no row; or, in a transaction, what was committed stays
abbrev pub Completes : {X E : Type 0} → Schema → State → State → Result X E → Type 0
Completes before old new (Ok x) = IsBare before old.now → Steps old new no_contents
Completes before old new (Err e) = IsBare before old.now → IsTrue old.in_transaction → KeepsCommit old new

-- the table of CAs is added to the others, whose rows stay; or the call fails
abbrev pub AddsCa : {X E : Type 0} → State → State → Result X E → Type 0
AddsCa old new (Ok x) = (c : Contents) → MeansWithoutCa old.now c → Steps old new c
AddsCa old new (Err e) = Fails old new

-- nothing is committed inside a transaction
abbrev pub WaitsAt : Schema → State → Trees → Type 0
WaitsAt before old trees = old.now.schema ≡ before → old.in_transaction ≡ false
