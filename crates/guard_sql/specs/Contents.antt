-- What the tables hold: the structs of each table's rows, in no order.
use Rattle.std.specs.Prelude.{◌≡◌, ◌<◌, ◌≤◌, ℕ, List, [], ◌∷◌, Option, Some, None}
use Rattle.std.specs.List.{AllByRecursion}
use Rattle.sqlite.specs.Tree.{Trees}
use Rattle.sqlite.specs.Effect.{Database}
use Rattle.sqlite_rules.specs.Lists.{Has}
use Rattle.store_sql.specs.Contents.{Lists}
use Rattle.guard_sql.specs.declared.guards.GuardRow.{GuardRow}
use Rattle.guard_sql.specs.declared.approvals.ApprovalRow.{ApprovalRow}
use Rattle.guard_sql.specs.Cells.{approval_cells, guard_cells}
use Rattle.guard_sql.specs.Schema.{whole}
use Rattle.rows.specs.Tables as rows
use Rattle.rows.specs.Tables.{Tables}

-- the structs of all rows
pub record Contents : Type 0 where
  pub guards : List GuardRow
  pub approved : List ApprovalRow

abbrev pub no_contents : Contents
no_contents = record { guards = []; approved = [] }

-- the places of each table's columns in a row of its tree; an INTEGER PRIMARY KEY is the rowid
abbrev pub guard_places : List ℕ
guard_places = 0 ∷ 2 ∷ 3 ∷ 4 ∷ 5 ∷ []

abbrev pub approval_places : List ℕ
approval_places = 0 ∷ 2 ∷ 3 ∷ []

-- the trees of the tables hold these contents
pub record Holds (trees : Trees) (c : Contents) : Type 0 where
  pub guards : Lists guard_cells guard_places (trees 0) c.guards
  pub approved : Lists approval_cells approval_places (trees 1) c.approved

-- the tables of a guard, for what all tables share
abbrev pub guard_tables : Tables Contents
guard_tables = record { whole = whole; Holds = Holds; none = no_contents }

-- this suffices to find the contents again after an open
abbrev pub Kept : Trees → Contents → Type 0
Kept trees c = rows.Kept guard_tables trees c

-- the database has exactly a guard's tables, and they hold these contents
abbrev pub Means : Database → Contents → Type 0
Means db c = rows.Means guard_tables db c

-- the one with this serial, or else with the next higher one; or none has such a serial
abbrev pub IsLeastFrom : {X : Type 0} → (serial : X → ℕ) → ℕ → List X → Option X → Type 0
IsLeastFrom serial from rows (Some a) = Has rows a × (from ≤ serial a)
    × AllByRecursion (λ b. from ≤ serial b → serial a ≤ serial b) rows
IsLeastFrom serial from rows None = AllByRecursion (λ b. serial b < from) rows

-- the same for the rows of a guard
abbrev pub IsFirstFrom : ℕ → List ApprovalRow → Option ApprovalRow → Type 0
IsFirstFrom from rows found = IsLeastFrom (λ (a : ApprovalRow). a.serial) from rows found

-- the database has exactly a guard's tables, and the guard's own holds these rows, whatever the other holds
pub record HasGuards (rows : List GuardRow) (db : Database) : Type 0 where
  pub schema : db.schema ≡ whole
  pub holds : Lists guard_cells guard_places (db.trees 0) rows
