-- What a look at the schema shows.
use Rattle.std.specs.Prelude.{◌≡◌, refl, true, Bool, ◌&&◌, ◌==◌, length}
use Rattle.sqlite.specs.Schema.{Schema}
use Rattle.store_sql.specs.Schema.{no_schema}

-- whether a database has no table, no index and no view
abbrev pub is_empty : Schema → Bool
is_empty s = (length s.tables == 0) && ((length s.indexes == 0) && (length s.views == 0))

pub none_is_empty : is_empty no_schema ≡ true
none_is_empty = refl
