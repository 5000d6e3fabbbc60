-- The tables as their CREATE texts define them.
use Rattle.std.specs.Prelude.{[], ◌∷◌, codes}
use Rattle.sqlite.specs.Kind.TheVariants.{Integer, Blob}
use Rattle.sqlite.specs.Table.{Table}
use Rattle.sqlite.specs.Schema.{Schema}
use Rattle.sqlite.specs.Change.{created}
use Rattle.store_sql.specs.Schema.{by_number, no_schema, optional_column, required_column}

abbrev pub guard : Table
guard = by_number (codes "guard") (
    optional_column (codes "id") Integer ∷ required_column (codes "schema") Integer ∷ required_column (codes "ca") Blob
    ∷ required_column (codes "first") Integer ∷ required_column (codes "last") Integer ∷ [])

abbrev pub approved : Table
approved = by_number (codes "approved") (
    optional_column (codes "serial") Integer ∷ required_column (codes "moment") Integer
    ∷ required_column (codes "body") Blob ∷ [])

abbrev pub through_guard : Schema
through_guard = created no_schema guard

-- both tables
abbrev pub whole : Schema
whole = created through_guard approved

-- each table with the number of its tree
abbrev pub guard_at : Table
guard_at = record guard { tree = 0 }

abbrev pub approved_at : Table
approved_at = record approved { tree = 1 }
