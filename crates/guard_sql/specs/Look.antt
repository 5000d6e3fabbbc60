-- What a look at the schema shows.
use Rattle.std.specs.Prelude.{◌≡◌, refl, true, false, ℕ, Bool, ◌&&◌, ◌||◌, ◌==◌, List, [], ◌∷◌, codes, length, bytes_eq}
use Rattle.std.specs.Prelude.{IsTrue}
use Rattle.std.specs.List.{list_all, list_any, zip}
use Rattle.sqlite_schema.specs.Names.{same_name}
use Rattle.sqlite.specs.Schema.{Schema}
use Rattle.sqlite.specs.Table.{Table}
use Rattle.store_sql.specs.Schema.{no_schema}
pub use Rattle.rows.specs.Look.{is_empty, none_is_empty}
use Rattle.guard_sql.specs.declared.opening_fault.OpeningFault.{OpeningFault}
use Rattle.guard_sql.specs.declared.opening_fault.OpeningFault.TheVariants.{AlreadyAGuard, NotAGuard}
use Rattle.guard_sql.specs.Schema.{whole}

-- whether a table has the name of one of a guard's, in any case
abbrev pub is_guard_name : Table → Bool
is_guard_name t = same_name t.name (codes "guard") || same_name t.name (codes "approved")

-- Why no guard is made in a database: it has a table with a name of a guard's, or it isn't empty otherwise. A database
-- in which one is tried, and that then fails, is empty.
abbrev pub IsRefused : Schema → OpeningFault → Type 0
IsRefused s AlreadyAGuard = IsTrue (list_any is_guard_name s.tables)
IsRefused s NotAGuard = (list_any is_guard_name s.tables ≡ false) × (is_empty s ≡ false)
IsRefused s other = IsTrue (is_empty s)

-- the columns of the guard's own table
abbrev pub guard_columns : List (List ℕ)
guard_columns = codes "id" ∷ codes "schema" ∷ codes "ca" ∷ codes "first" ∷ codes "last" ∷ []

-- whether a table has exactly the columns of the guard's own, by their names
abbrev pub has_columns : Table → Bool
has_columns t = (length t.columns == 5) && list_all (λ p. bytes_eq p.0.name p.1) (zip t.columns guard_columns)

-- whether a table is the guard's own, by its name and the names of its columns
abbrev pub is_guard_table : Table → Bool
is_guard_table t = same_name t.name (codes "guard") && has_columns t

-- a guard's tables are recognised
pub whole_is_guard : list_any is_guard_table whole.tables ≡ true
unfolding same_name
whole_is_guard = refl

pub whole_has_tables : list_any is_guard_name whole.tables ≡ true
unfolding same_name
whole_has_tables = refl

-- a database without tables is no guard's
pub none_is_guard : list_any is_guard_table no_schema.tables ≡ false
none_is_guard = refl
