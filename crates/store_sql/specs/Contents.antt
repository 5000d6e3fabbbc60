-- The contents of the tables: the structs of each table's rows, in no order.
use Rattle.std.specs.Prelude.{◌≡◌, ◌≤◌, ℕ, pos, List, [], ◌∷◌, length, map, slice_get, IsPermutation, Some}
use Rattle.std.specs.List.{AllByRecursion}
use Rattle.sqlite.specs.Order.{Row, column}
use Rattle.sqlite.specs.Tree.{Trees, IsTable, rowid, with_tree}
use Rattle.sqlite.specs.declared.types.Value.{Value}
use Rattle.sqlite.specs.declared.types.Value.TheVariants.{Int}
use Rattle.sqlite.specs.Effect.{Database}
use Rattle.sqlite_catalog.specs.Listing.{IsSound}
use Rattle.store_sql.specs.declared.offices.OfficeRow.{OfficeRow}
use Rattle.store_sql.specs.declared.departments.DepartmentRow.{DepartmentRow}
use Rattle.store_sql.specs.declared.certs.CertRow.{CertRow}
use Rattle.store_sql.specs.declared.requests.RequestRow.{RequestRow}
use Rattle.store_sql.specs.declared.runs.RunRow.{RunRow}
use Rattle.store_sql.specs.declared.cas.CaRow.{CaRow}
use Rattle.store_sql.specs.Cells.{office_cells, department_cells, cert_cells, request_cells, run_cells, key_id_cells}
use Rattle.store_sql.specs.Cells.{ca_cells}
use Rattle.store_sql.specs.Schema.{placed_office, whole, without_ca}

-- the structs of all rows
pub record Contents : Type 0 where
  pub offices : List OfficeRow
  pub departments : List DepartmentRow
  pub certs : List CertRow
  pub requests : List RequestRow
  pub runs : List RunRow
  -- the revoked key IDs
  pub revoked : List (List ℕ)
  pub cas : List CaRow

abbrev pub no_contents : Contents
no_contents = record { offices = []; departments = []; certs = []; requests = []; runs = []; revoked = []; cas = [] }

-- the values of a row at these places: place 0 is the rowid, and place i + 1 is column i
abbrev pub at_places : List ℕ → Row → Row
at_places places row = map (column row) places

-- the rows, read at these places, are those of the structs in some order, and no rowid comes twice
pub record Lists {X : Type 0} (cells : X → Row) (places : List ℕ) (rows : List Row) (xs : List X) : Type 0 where
  pub same : IsPermutation (map cells xs) (map (at_places places) rows)
  pub apart : IsTable rows

-- the places of each table's columns; an INTEGER PRIMARY KEY is the rowid
abbrev pub office_places : List ℕ
office_places = 0 ∷ 2 ∷ 3 ∷ 4 ∷ 5 ∷ 6 ∷ 7 ∷ 8 ∷ 9 ∷ 10 ∷ []

abbrev pub department_places : List ℕ
department_places = 1 ∷ 2 ∷ 3 ∷ 4 ∷ 5 ∷ 6 ∷ 7 ∷ 8 ∷ []

abbrev pub cert_places : List ℕ
cert_places = 0 ∷ 2 ∷ 3 ∷ 4 ∷ 5 ∷ []

abbrev pub request_places : List ℕ
request_places = 1 ∷ 2 ∷ 3 ∷ 4 ∷ []

abbrev pub run_places : List ℕ
run_places = 0 ∷ 2 ∷ []

abbrev pub key_id_places : List ℕ
key_id_places = 1 ∷ []

abbrev pub ca_places : List ℕ
ca_places = 0 ∷ 2 ∷ 3 ∷ []

-- a number up to this limit
abbrev pub IsNumber : ℕ → Value → Type 0
IsNumber most v = (n : ℕ) × (v ≡ Int (pos n)) × (n ≤ most)

-- for tables whose rowid is no column: a rowid is at most the number of rows
abbrev pub AreNumbered : List Row → Type 0
AreNumbered rows = AllByRecursion (λ r. IsNumber (length rows) (rowid r)) rows

-- the trees of the tables hold these contents
pub record Holds (trees : Trees) (c : Contents) : Type 0 where
  pub offices : Lists office_cells office_places (trees 0) c.offices
  pub departments : Lists department_cells department_places (trees 1) c.departments
  pub departments_numbered : AreNumbered (trees 1)
  pub certs : Lists cert_cells cert_places (trees 3) c.certs
  pub requests : Lists request_cells request_places (trees 4) c.requests
  pub requests_numbered : AreNumbered (trees 4)
  pub runs : Lists run_cells run_places (trees 6) c.runs
  pub revoked : Lists key_id_cells key_id_places (trees 7) c.revoked
  pub revoked_numbered : AreNumbered (trees 7)
  pub cas : Lists ca_cells ca_places (trees 9) c.cas

-- everything that is needed to find the contents again after the database is opened
pub record Kept (trees : Trees) (c : Contents) : Type 0 where
  pub sound : IsSound whole trees
  pub holds : Holds trees c

-- the database has exactly the office's tables, and they hold these contents
pub record Means (db : Database) (c : Contents) : Type 0 where
  pub schema : db.schema ≡ whole
  pub kept : Kept db.trees c

-- the same for the tables of schema 1, which have no table of CAs
pub record MeansWithoutCa (db : Database) (c : Contents) : Type 0 where
  pub schema : db.schema ≡ without_ca
  pub sound : IsSound without_ca db.trees
  pub holds : Holds (with_tree db.trees 9 []) c

-- The first table is the `office` table, and it holds these rows, whatever other tables there are.
pub record HasOffices (rows : List OfficeRow) (db : Database) : Type 0 where
  pub first : slice_get db.schema.tables 0 ≡ Some placed_office
  pub holds : Lists office_cells office_places (db.trees 0) rows
