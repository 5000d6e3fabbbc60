-- Recognising the table by the schema.
use Rattle.std.specs.Prelude.{◌≡◌, refl, true, false, ℕ, Bool, ◌&&◌, ◌==◌, List, [], ◌∷◌, codes, length, bytes_eq}
use Rattle.std.specs.Prelude.{IsTrue}
use Rattle.std.specs.List.{list_all, list_any, zip}
use Rattle.sqlite_schema.specs.Names.{same_name}
use Rattle.sqlite.specs.Schema.{Schema}
use Rattle.sqlite.specs.Table.{Table}
use Rattle.store_sql.specs.Schema.{no_schema}
pub use Rattle.rows.specs.Look.{is_empty, none_is_empty}
use Rattle.list_sql.specs.declared.opening_fault.OpeningFault.{OpeningFault}
use Rattle.list_sql.specs.declared.opening_fault.OpeningFault.TheVariants.{AlreadyAGuard, NotAGuard}
use Rattle.list_sql.specs.Schema.{whole}

-- whether a table has the name of the list's table, in upper or lower case
abbrev pub is_list_name : Table → Bool
is_list_name t = same_name t.name (codes "list")

-- Why no list guard is made in a database: it has a table with the name of the list's, or it isn't empty otherwise. A
-- database in which one is tried, and that then fails, is empty.
abbrev pub IsRefused : Schema → OpeningFault → Type 0
IsRefused s AlreadyAGuard = IsTrue (list_any is_list_name s.tables)
IsRefused s NotAGuard = (list_any is_list_name s.tables ≡ false) × (is_empty s ≡ false)
IsRefused s other = IsTrue (is_empty s)

-- the columns of the table
abbrev pub list_columns : List (List ℕ)
list_columns = codes "id" ∷ codes "schema" ∷ codes "bytes" ∷ []

-- whether a table has exactly the columns of the list's table, by their names
abbrev pub has_columns : Table → Bool
has_columns t = (length t.columns == 3) && list_all (λ p. bytes_eq p.0.name p.1) (zip t.columns list_columns)

-- whether a table is the list's table, by its name and the names of its columns
abbrev pub is_list_table : Table → Bool
is_list_table t = is_list_name t && has_columns t

-- the table of a list guard is recognised
pub whole_is_list : list_any is_list_table whole.tables ≡ true
unfolding same_name
whole_is_list = refl

pub whole_has_table : list_any is_list_name whole.tables ≡ true
unfolding same_name
whole_has_table = refl

-- a database without tables isn't taken for a list guard's
pub none_is_list : list_any is_list_table no_schema.tables ≡ false
none_is_list = refl
