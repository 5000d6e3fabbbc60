-- The tables as their CREATE texts define them.
use Rattle.std.specs.Prelude.{ℕ, true, false, List, [], ◌∷◌, Some, None, codes}
use Rattle.sqlite_schema.specs.declared.schema.Column.{Column}
use Rattle.sqlite_schema.specs.declared.schema.Reference.{Reference}
use Rattle.sqlite_schema.specs.declared.schema.Action.TheVariants.{NoAction}
use Rattle.sqlite_value.specs.Keys.{plain}
use Rattle.sqlite.specs.declared.types.Value.TheVariants.{Null}
use Rattle.sqlite.specs.Collation.TheVariants.{Binary}
use Rattle.sqlite.specs.Kind.{Kind}
use Rattle.sqlite.specs.Kind.TheVariants.{Integer, Text, Blob}
use Rattle.sqlite.specs.Table.{Table}
use Rattle.sqlite.specs.Schema.{Schema}
use Rattle.sqlite.specs.Change.{created}

-- a column of a STRICT table, which may be NULL
abbrev pub optional_column : List ℕ → Kind → Column
optional_column name kind = record {
  name = name;
  kind = kind;
  is_strict = true;
  not_null = false;
  default = Null;
  collation
      = Binary;
}

-- a column that is NOT NULL, or part of the primary key
abbrev pub required_column : List ℕ → Kind → Column
required_column name kind = record (optional_column name kind) { not_null = true }

-- a STRICT table with no key
abbrev pub keyless : List ℕ → List Column → Table
keyless name columns = record {
  name = name;
  tree = 0;
  columns = columns;
  key = None;
  primary = [];
  uniques = [];
  orders = [];
  checks = [];
  references = [];
  computed = [];
  stamps = record { places = []; terms = []; formats = [] };
  is_counted = false;
}

-- a table whose first column is its INTEGER PRIMARY KEY
abbrev pub by_number : List ℕ → List Column → Table
by_number name columns = record (keyless name columns) { key = Some 0; primary = 0 ∷ [] }

-- a table whose primary key is the columns at these places
abbrev pub by_key : List ℕ → List Column → List ℕ → Table
by_key name columns places = record (keyless name columns)
    { primary = places; uniques = places ∷ []; orders = plain ∷ [] }

abbrev pub office : Table
office = by_number (codes "office") (
    optional_column (codes "id") Integer ∷ required_column (codes "schema") Integer ∷ required_column (codes "ca") Blob
    ∷ required_column (codes "root") Text ∷ required_column (codes "station") Text
    ∷ required_column (codes "first") Integer ∷ required_column (codes "last") Integer
    ∷ required_column (codes "next") Integer ∷ required_column (codes "version") Integer
    ∷ required_column (codes "date") Integer ∷ [])

abbrev pub department : Table
department = by_key (codes "department") (
    required_column (codes "name") Text ∷ required_column (codes "kind") Integer ∷ required_column (codes "admins") Text
    ∷ required_column (codes "rules") Text ∷ required_column (codes "options") Text
    ∷ required_column (codes "extensions") Text ∷ required_column (codes "maxlife") Integer
    ∷ required_column (codes "namespaces") Text ∷ []) (1 ∷ [])

-- REFERENCES department, on the column at this place
abbrev pub to_department : ℕ → Reference
to_department place = record {
  columns = place ∷ [];
  parent = codes "department";
  parent_columns = [];
  on_delete = NoAction;
  on_update = NoAction;
  is_deferred = false;
}

abbrev pub cert : Table
cert = record (by_number (codes "cert") (
    optional_column (codes "serial") Integer ∷ required_column (codes "department") Text
    ∷ required_column (codes "keyid") Text ∷ required_column (codes "body") Blob
    ∷ optional_column (codes "signature") Blob ∷ [])) { references = to_department 2 ∷ [] }

abbrev pub request : Table
request = by_key (codes "request") (
    required_column (codes "caller") Text ∷ required_column (codes "key") Text ∷ required_column (codes "message") Blob
    ∷ required_column (codes "reply") Text ∷ []) (1 ∷ 2 ∷ [])

abbrev pub run : Table
run = by_number (codes "run") (optional_column (codes "lo") Integer ∷ required_column (codes "hi") Integer ∷ [])

abbrev pub revoked_keyid : Table
revoked_keyid = by_key (codes "revoked_keyid") (required_column (codes "keyid") Text ∷ []) (1 ∷ [])

abbrev pub ca : Table
ca = record (by_number (codes "ca") (
    optional_column (codes "number") Integer ∷ required_column (codes "ca") Blob
    ∷ required_column (codes "since") Integer ∷ []))
    { uniques = (2 ∷ []) ∷ []; orders = plain ∷ [] }

abbrev pub no_schema : Schema
no_schema = record { tables = []; indexes = []; views = [] }

-- the schema after each table is created
abbrev pub through_office : Schema
through_office = created no_schema office

abbrev pub through_department : Schema
through_department = created through_office department

abbrev pub through_cert : Schema
through_cert = created through_department cert

abbrev pub through_request : Schema
through_request = created through_cert request

abbrev pub through_run : Schema
through_run = created through_request run

-- the tables of schema 1, which has no table of CAs
abbrev pub without_ca : Schema
without_ca = created through_run revoked_keyid

-- all tables of the office
abbrev pub whole : Schema
whole = created without_ca ca

-- the tables with their trees; an index has the tree after its table's
abbrev pub placed_office : Table
placed_office = record office { tree = 0 }

abbrev pub placed_department : Table
placed_department = record department { tree = 1 }

abbrev pub placed_cert : Table
placed_cert = record cert { tree = 3 }

abbrev pub placed_request : Table
placed_request = record request { tree = 4 }

abbrev pub placed_run : Table
placed_run = record run { tree = 6 }

abbrev pub placed_revoked : Table
placed_revoked = record revoked_keyid { tree = 7 }

abbrev pub placed_ca : Table
placed_ca = record ca { tree = 9 }
