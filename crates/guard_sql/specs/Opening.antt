-- How a guard is found in tables, or made in a database without tables.
use Rattle.std.specs.Prelude.{◌≡◌, ◌==◌, ◌&&◌, ℕ, List, [], ◌∷◌, if◌then◌else◌, IsTrue, Option, Some, None, Result, Ok, Err}
use Rattle.sqlite.specs.Tree.{Trees}
use Rattle.sqlite.specs.State.{State as Connection, IsUnchanged}
use Rattle.lines.specs.Keys.{key_of}
use Rattle.values.specs.Serials.{are_serials}
use Rattle.guard.specs.declared.scope.Scope.{Scope}
use Rattle.guard.specs.State.{State, opened}
use Rattle.store_sql.specs.Schema.{no_schema}
use Rattle.store_sql.specs.Calls.{Fails, IsBare}
use Rattle.store_sql.specs.Faults.{HasFailed as SqlFailed}
use Rattle.guard_sql.specs.declared.guards.GuardRow.{GuardRow}
use Rattle.guard_sql.specs.declared.opening_fault.OpeningFault.{OpeningFault}
use Rattle.guard_sql.specs.declared.opening_fault.OpeningFault.TheVariants as fault
use Rattle.guard_sql.specs.Contents.{HasGuards, Means, guard_tables}
use Rattle.guard_sql.specs.Keeping.{HasFailed, HasGuard, IsBlank, IsGuard, Stores}
use Rattle.guard_sql.specs.Rows.{guard_contents}
use Rattle.rows.specs.Transactions.{Leaves as LeavesAfter}

-- ---- the scope in a row

-- the scope in a row with this key
abbrev pub scope_of : GuardRow → (key : List ℕ) → Scope
scope_of row key = record { ca = key; first = row.first; last = row.last }

-- the same for a row of this schema, which is damaged unless it has id 1, a key and valid serials
abbrev pub scope_with : GuardRow → Option (List ℕ) → Result Scope OpeningFault
scope_with row None = Err fault.Damaged
scope_with row (Some key) =
    if row.id == 1 && are_serials row.first row.last then Ok (scope_of row key) else Err fault.Damaged

-- a guard's table has one row, of schema 1
abbrev pub scope_in : List GuardRow → Result Scope OpeningFault
scope_in [] = Err fault.NotAGuard
scope_in (row ∷ []) = if row.schema == 1 then scope_with row (key_of row.ca) else Err fault.WrongSchema
scope_in (row ∷ other ∷ rows) = Err fault.NotAGuard

-- the answer is the scope or the fault in these rows; or memory is refused, or there was this failure
abbrev pub Says : List GuardRow → Type 0 → Result Scope OpeningFault → Type 0
Says rows failed (Ok scope) = scope_in rows ≡ Ok scope
Says rows failed (Err fault.NoMemory) = Unit {0}
Says rows failed (Err fault.Device) = failed
Says rows failed (Err e) = scope_in rows ≡ Err e

-- the same for every database with a guard's tables
abbrev pub SaysUnless : Connection → Connection → Result Scope OpeningFault → Type 0
SaysUnless old new r = (rows : List GuardRow) → HasGuards rows old.now → Says rows (SqlFailed old new) r

-- if the tables hold a guard, its scope is found, and nothing has changed; or the call fails, for lack of memory or
-- because the database failed
abbrev pub FindsScope : Connection → Connection → Result Scope OpeningFault → Type 0
FindsScope old new (Ok scope) =
    (s : State) → IsGuard s → Means old.now (guard_contents s) → (scope ≡ s.scope) × IsUnchanged old new
FindsScope old new (Err fault.NoMemory) = (s : State) → IsGuard s → Means old.now (guard_contents s) → Fails old new
FindsScope old new (Err fault.Device) =
    (s : State) → IsGuard s → Means old.now (guard_contents s) → Fails old new × SqlFailed old new
FindsScope old new (Err e) = (s : State) → IsGuard s → Means old.now (guard_contents s) → ⊥

-- ---- an open

-- if the tables hold a guard, this is its scope, and they keep the guard
abbrev pub Finds : Scope → Connection → Connection → Type 0
Finds scope old new = (s : State) → IsGuard s → HasGuard s old → (scope ≡ s.scope) × Stores new s

-- the fault is a lack of memory or a failure of the database, and no other
abbrev pub IsExcused : Connection → OpeningFault → Type 0
IsExcused new fault.NoMemory = Unit {0}
IsExcused new fault.Device = HasFailed new
IsExcused new fault.Damaged = ⊥
IsExcused new fault.AlreadyAGuard = ⊥
IsExcused new fault.NotAGuard = ⊥
IsExcused new fault.WrongSchema = ⊥

-- so it is if the tables hold a guard, and the guard stays
abbrev pub Misses : Connection → Connection → OpeningFault → Type 0
Misses old new e =
    (s : State) → IsGuard s → HasGuard s old → IsExcused new e × (IsTrue new.is_open → HasGuard s new)

-- ---- a new guard

-- a database without tables then keeps a guard that has approved nothing yet
abbrev pub Founds : Scope → Connection → Connection → Type 0
Founds scope old new = IsBlank old → Stores new (opened scope)

-- a database without tables still has none, and the fault is a lack of memory or a failure of the database
abbrev pub FoundsNone : Connection → Connection → OpeningFault → Type 0
FoundsNone old new e = IsBlank old → IsExcused new e × (IsTrue new.is_open → IsBlank new)

-- a crash leaves no table, or all of them with the rows of the new guard
abbrev pub LeavesNew : Scope → Connection → Trees → Type 0
LeavesNew scope old trees =
    LeavesAfter guard_tables (λ _. IsBare no_schema) (λ (_ : Unit {0}). guard_contents (opened scope)) old trees
