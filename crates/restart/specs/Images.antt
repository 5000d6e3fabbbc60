-- The contents of a database's two files: the database file and its log.
use Rattle.std.specs.Prelude.{◌⊎◌, List, [], ◌∷◌, ◌++◌, Option, None, Some}
use Rattle.sqlite_wal.specs.Recovery.{Image}
use Rattle.sqlite_trees.specs.Tree.{Trees}
use Rattle.sqlite.specs.Files.{HoldsDatabase}
use Rattle.office.specs.declared.opening.Opening.{Opening}
use Rattle.office.specs.declared.arrival.Arrival.{Arrival}
use Rattle.store_sql.specs.Contents.{Kept}
use Rattle.store_sql.specs.Schema.{without_ca}
use Rattle.files.specs.Images.{HoldsNone}
use Rattle.store.specs.Rows.{office_contents}
use Rattle.store.specs.Former.{Had, HasNoRollover, former_contents}
use Rattle.store.specs.Meaning.{IsHistory}

-- a database with the rows of the office with this initial configuration after this history
pub record HoldsOffice (image : Image) (o : Opening) (l : List Arrival) : Type 0 where
  pub history : IsHistory o l
  pub trees : Trees
  pub holds : ∥ HoldsDatabase image trees ∥₁
  pub kept : Kept trees (office_contents o l)

-- a database with those rows in schema 1, after a history without rollovers
pub record HoldsFormer (image : Image) (o : Opening) (l : List Arrival) : Type 0 where
  pub history : IsHistory o l
  pub plain : HasNoRollover l
  pub trees : Trees
  pub holds : ∥ HoldsDatabase image trees ∥₁
  pub had : Had (former_contents o l) (record { schema = without_ca; trees = trees })

-- that office, or that office after one more request
abbrev pub HoldsAtLeast : Image → Opening → List Arrival → Type 0
HoldsAtLeast image o l = ∥ HoldsOffice image o l ⊎ ((a : Arrival) × HoldsOffice image o (l ++ a ∷ [])) ∥₁

-- the status of an office: it doesn't exist yet, or it has an initial configuration and a history
abbrev pub Standing : Type 0
Standing = Option (Opening × List Arrival)

-- the files hold an office with this status: none, or this one
abbrev pub Holds : Image → Standing → Type 0
Holds image None = HoldsNone image
Holds image (Some p) = HoldsOffice image p.0 p.1
