-- The table as its CREATE text defines it.
use Rattle.std.specs.Prelude.{[], ◌∷◌, codes}
use Rattle.sqlite.specs.Kind.TheVariants.{Integer, Blob}
use Rattle.sqlite.specs.Table.{Table}
use Rattle.sqlite.specs.Schema.{Schema}
use Rattle.sqlite.specs.Change.{created}
use Rattle.store_sql.specs.Schema.{by_number, no_schema, optional_column, required_column}

abbrev pub list : Table
list = by_number (codes "list") (
    optional_column (codes "id") Integer ∷ required_column (codes "schema") Integer
    ∷ required_column (codes "bytes") Blob ∷ [])

-- the schema with this table only
abbrev pub whole : Schema
whole = created no_schema list

-- the table with its tree's number
abbrev pub list_at : Table
list_at = record list { tree = 0 }
