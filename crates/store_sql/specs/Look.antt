-- Tests of the schema.
use Rattle.std.specs.Prelude.{◌≡◌, refl, true, false, ℕ, Bool, ◌&&◌, ◌||◌, ◌==◌, List, [], ◌∷◌, codes, length, bytes_eq}
use Rattle.std.specs.List.{list_all, list_any, zip}
use Rattle.sqlite_schema.specs.Names.{same_name}
use Rattle.sqlite.specs.Table.{Table}
use Rattle.store_sql.specs.Schema.{placed_office, whole, without_ca, no_schema}

-- whether a table has the name of one of the office's, ignoring case
abbrev pub is_office_name : Table → Bool
is_office_name t =
    same_name t.name (codes "office") || (same_name t.name (codes "department") || (same_name t.name (codes "cert")
    || (same_name t.name (codes "request") || (same_name t.name (codes "run")
    || (same_name t.name (codes "revoked_keyid") || same_name t.name (codes "ca"))))))

-- the columns of the `office` table
abbrev pub office_columns : List (List ℕ)
office_columns =
    codes "id" ∷ codes "schema" ∷ codes "ca" ∷ codes "root" ∷ codes "station" ∷ codes "first" ∷ codes "last"
    ∷ codes "next" ∷ codes "version" ∷ codes "date" ∷ []

-- whether a table has exactly the columns of the `office` table, by name
abbrev pub has_columns : Table → Bool
has_columns t = (length t.columns == 10) && list_all (λ p. bytes_eq p.0.name p.1) (zip t.columns office_columns)

-- whether a table is the `office` table, by its name and the names of its columns
abbrev pub is_office_table : Table → Bool
is_office_table t = same_name t.name (codes "office") && has_columns t

-- whether a table has the name of the table of CAs, ignoring case
abbrev pub is_ca_name : Table → Bool
is_ca_name t = same_name t.name (codes "ca")

-- an office is recognized if its table is the first
pub first_is_office : (others : List Table) → list_any is_office_table (placed_office ∷ others) ≡ true
unfolding same_name
first_is_office others = refl

pub whole_has_tables : list_any is_office_name whole.tables ≡ true
unfolding same_name
whole_has_tables = refl

-- a database without tables isn't recognized as an office
pub none_is_office : list_any is_office_table no_schema.tables ≡ false
none_is_office = refl

-- an office of schema 1 is recognized, and so is the absence of its table of CAs
pub former_is_office : list_any is_office_table without_ca.tables ≡ true
unfolding same_name
former_is_office = refl

pub former_has_no_ca : list_any is_ca_name without_ca.tables ≡ false
unfolding same_name
former_has_no_ca = refl

pub whole_has_ca : list_any is_ca_name whole.tables ≡ true
unfolding same_name
whole_has_ca = refl
