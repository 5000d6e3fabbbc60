-- The result of a call, from that of its statement.
use Rattle.std.specs.Prelude.{◌≡◌, ◌≢◌, ℕ, List, map, [], ◌∷◌, Option, None, Some, Result, Ok, Err, Vec}
use Rattle.std.specs.declared.alloc.Global.{Global}
use Rattle.sqlite.specs.Order.{Row}
use Rattle.sqlite.specs.declared.error.Error.{Error}
use Rattle.store_sql.specs.declared.table_fault.Fault.{Fault}
use Rattle.store_sql.specs.Faults.{fault_of, Misread}

-- success if the statement succeeded, and otherwise its fault
abbrev pub IsDone : {X : Type 0} → Result ℕ Error → Result X Fault → Type 0
IsDone (Ok count) (Ok x) = Unit {0}
IsDone (Err e) (Err f) = f ≡ fault_of e
IsDone (Ok count) (Err f) = ⊥
IsDone (Err e) (Ok x) = ⊥

-- the structs of the rows, or why they can't be read
abbrev pub IsEachRead : {X : Type 0} → (X → Row) → Result (Vec Row Global) Error → Result (Vec X Global) Fault → Type 0
IsEachRead cells (Ok rows) (Ok xs) = rows.items ≡ map cells xs.items
IsEachRead {X} cells (Ok rows) (Err f) = Misread ((xs : List X) → rows.items ≢ map cells xs) f
IsEachRead cells (Err e) (Err f) = f ≡ fault_of e
IsEachRead cells (Err e) (Ok xs) = ⊥

-- the struct of the first row, or `None` if there are no rows
abbrev pub IsFirst : {X : Type 0} → (X → Row) → List Row → Option X → Type 0
IsFirst cells rows None = rows ≡ []
IsFirst cells rows (Some x) = (rest : List Row) × (rows ≡ cells x ∷ rest)

-- the struct of the first row, or why it can't be read
abbrev pub IsFirstRead : {X : Type 0} → (X → Row) → Result (Vec Row Global) Error → Result (Option X) Fault → Type 0
IsFirstRead cells (Ok rows) (Ok found) = IsFirst cells rows.items found
IsFirstRead {X} cells (Ok rows) (Err f) = Misread ((xs : List X) → rows.items ≢ map cells xs) f
IsFirstRead cells (Err e) (Err f) = f ≡ fault_of e
IsFirstRead cells (Err e) (Ok found) = ⊥
