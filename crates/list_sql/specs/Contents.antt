-- The contents of the table: the structs of its rows, in any order.
use Rattle.std.specs.Prelude.{◌≡◌, ℕ, List, [], ◌∷◌}
use Rattle.sqlite.specs.Tree.{Trees}
use Rattle.sqlite.specs.Effect.{Database}
use Rattle.store_sql.specs.Contents.{Lists}
use Rattle.list_sql.specs.declared.lists.ListRow.{ListRow}
use Rattle.list_sql.specs.Cells.{list_cells}
use Rattle.list_sql.specs.Schema.{whole}
use Rattle.rows.specs.Tables as rows
use Rattle.rows.specs.Tables.{Tables}

-- the structs of all rows
pub record Contents : Type 0 where
  pub lists : List ListRow

abbrev pub no_contents : Contents
no_contents = record { lists = [] }

-- the places of the columns in a stored row; an INTEGER PRIMARY KEY is the rowid
abbrev pub list_places : List ℕ
list_places = 0 ∷ 2 ∷ 3 ∷ []

-- the tree of the table holds these contents
pub record Holds (trees : Trees) (c : Contents) : Type 0 where
  pub lists : Lists list_cells list_places (trees 0) c.lists

-- the table, for what all tables share
abbrev pub list_tables : Tables Contents
list_tables = record { whole = whole; Holds = Holds; none = no_contents }

-- this suffices to find the contents again after an open
abbrev pub Kept : Trees → Contents → Type 0
Kept trees c = rows.Kept list_tables trees c

-- this is the database's only table, and it holds these contents
abbrev pub Means : Database → Contents → Type 0
Means db c = rows.Means list_tables db c

-- this is the database's only table, and it holds these rows
pub record HasRows (rows : List ListRow) (db : Database) : Type 0 where
  pub schema : db.schema ≡ whole
  pub holds : Lists list_cells list_places (db.trees 0) rows
