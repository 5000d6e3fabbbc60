-- Finding a list guard in a table, or making one in a database without tables.
use Rattle.std.specs.Prelude.{◌≡◌, ◌==◌, ◌||◌, ◌&&◌, ◌+◌, ◌++◌, ℕ, zero, suc, Bool, true, false, List, [], ◌∷◌, length}
use Rattle.std.specs.Prelude.{find, IsTrue, Option, Some, None, Result, Ok, Err}
use Rattle.std.specs.List.{list_all}
use Rattle.sqlite.specs.Tree.{Trees}
use Rattle.sqlite.specs.State.{State as Connection, IsUnchanged}
use Rattle.list_guard.specs.State.{State, opened}
use Rattle.store_sql.specs.Schema.{no_schema}
use Rattle.store_sql.specs.Calls.{Fails, IsBare}
use Rattle.store_sql.specs.Faults.{HasFailed as SqlFailed}
use Rattle.list_sql.specs.declared.lists.ListRow.{ListRow}
use Rattle.list_sql.specs.declared.opening_fault.OpeningFault.{OpeningFault}
use Rattle.list_sql.specs.declared.opening_fault.OpeningFault.TheVariants as fault
use Rattle.list_sql.specs.Contents.{HasRows, Means, list_tables}
use Rattle.list_sql.specs.Keeping.{HasFailed, HasList, IsBlank, IsFilled, Stores}
use Rattle.list_sql.specs.Rows.{list_contents, list_in}
use Rattle.rows.specs.Transactions.{Leaves as LeavesAfter}

-- ---- the meaning of rows

-- whether a row has this id, or this schema
abbrev pub has_id : ℕ → ListRow → Bool
has_id id row = row.id == id

abbrev pub has_schema : ℕ → ListRow → Bool
has_schema schema row = row.schema == schema

-- whether all rows have schema 2, or there is one row, of schema 1
abbrev pub is_known : List ListRow → Bool
is_known rows = list_all (has_schema 2) rows || ((length rows == 1) && list_all (has_schema 1) rows)

-- the row with an id
abbrev pub row_with : List ListRow → ℕ → Option ListRow
row_with rows id = find (has_id id) rows

-- bytes, and those of a row after them
abbrev pub add_row : Option ListRow → Option (List ℕ) → Option (List ℕ)
add_row None bytes = None
add_row (Some row) None = None
add_row (Some row) (Some bytes) = Some (bytes ++ row.bytes)

-- the bytes of the rows with the ids from 1 up to this one, one after another; none, if an id is missing
abbrev pub joined : List ListRow → ℕ → Option (List ℕ)
joined rows zero = Some []
joined rows (suc n) = add_row (row_with rows (n + 1)) (joined rows n)

-- the list of a table whose rows have a known schema or not, and these bytes
abbrev pub listed : Bool → Option (List ℕ) → Result (Option (List ℕ)) OpeningFault
listed false bytes = Err fault.WrongSchema
listed true None = Err fault.Damaged
listed true (Some bytes) = Ok (list_in bytes)

-- the list of a table, which has to have a row
abbrev pub last_in : List ListRow → Result (Option (List ℕ)) OpeningFault
last_in [] = Err fault.NotAGuard
last_in (row ∷ rows) = listed (is_known (row ∷ rows)) (joined (row ∷ rows) (length (row ∷ rows)))

-- the result is this one, or memory was refused
abbrev pub IsUnlessRefused : Result (Option (List ℕ)) OpeningFault → Result (Option (List ℕ)) OpeningFault → Type 0
IsUnlessRefused due (Ok last) = Ok last ≡ due
IsUnlessRefused due (Err fault.NoMemory) = Unit {0}
IsUnlessRefused due (Err e) = Err e ≡ due

-- the result for a table with these rows: what they represent, or memory was refused, or the database `failed`
abbrev pub Says : List ListRow → Type 0 → Result (Option (List ℕ)) OpeningFault → Type 0
Says rows failed (Ok last) = last_in rows ≡ Ok last
Says rows failed (Err fault.NoMemory) = Unit {0}
Says rows failed (Err fault.Device) = failed
Says rows failed (Err e) = last_in rows ≡ Err e

-- this holds for each database with this table
abbrev pub SaysUnless : Connection → Connection → Result (Option (List ℕ)) OpeningFault → Type 0
SaysUnless old new r = (rows : List ListRow) → HasRows rows old.now → Says rows (SqlFailed old new) r

-- if the table holds a list guard, its last list is found, and nothing has changed; or the call fails, for lack of
-- memory or because the database failed
abbrev pub FindsLast : Connection → Connection → Result (Option (List ℕ)) OpeningFault → Type 0
FindsLast old new (Ok last) =
    (s : State) → IsFilled s → Means old.now (list_contents s) → (last ≡ s.last) × IsUnchanged old new
FindsLast old new (Err fault.NoMemory) = (s : State) → IsFilled s → Means old.now (list_contents s) → Fails old new
FindsLast old new (Err fault.Device) =
    (s : State) → IsFilled s → Means old.now (list_contents s) → Fails old new × SqlFailed old new
FindsLast old new (Err e) = (s : State) → IsFilled s → Means old.now (list_contents s) → ⊥

-- ---- an open

-- if the table holds a list guard, this is its last list, and the connection keeps it
abbrev pub Finds : Option (List ℕ) → Connection → Connection → Type 0
Finds last old new = (s : State) → IsFilled s → HasList s old → (last ≡ s.last) × Stores new s

-- the fault is lack of memory, or a failure of the database
abbrev pub IsExcused : Connection → OpeningFault → Type 0
IsExcused new fault.NoMemory = Unit {0}
IsExcused new fault.Device = HasFailed new
IsExcused new fault.Damaged = ⊥
IsExcused new fault.AlreadyAGuard = ⊥
IsExcused new fault.NotAGuard = ⊥
IsExcused new fault.WrongSchema = ⊥

-- if the table holds a list guard, the fault is one of these, and the table stays
abbrev pub Misses : Connection → Connection → OpeningFault → Type 0
Misses old new e =
    (s : State) → IsFilled s → HasList s old → IsExcused new e × (IsTrue new.is_open → HasList s new)

-- ---- a new list guard

-- a database without tables then keeps a list guard that has approved nothing yet
abbrev pub Founds : Connection → Connection → Type 0
Founds old new = IsBlank old → Stores new opened

-- a database without tables still has none, and the fault is lack of memory, or a failure of the database
abbrev pub FoundsNone : Connection → Connection → OpeningFault → Type 0
FoundsNone old new e = IsBlank old → IsExcused new e × (IsTrue new.is_open → IsBlank new)

-- a crash leaves no table, or that of the new list guard
abbrev pub LeavesNew : Connection → Trees → Type 0
LeavesNew old trees = LeavesAfter list_tables (λ _. IsBare no_schema) (λ (_ : Unit {0}). list_contents opened) old trees
