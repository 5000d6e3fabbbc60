-- How the trees of a database determine its schema.
use Rattle.std.specs.Prelude.{◌≡◌, []}
use Rattle.sqlite_trees.specs.Tree.{Trees}
use Rattle.sqlite_schema.specs.declared.schema.Schema.{Schema}
use Rattle.sqlite_catalog.specs.Listing.{IsSound}

-- sound trees have only one schema, if one of their schemas has no views
abbrev pub OneSchema : Type 0
OneSchema = (a b : Schema) (trees : Trees) → a.views ≡ [] → IsSound a trees → IsSound b trees → b ≡ a
