-- The tables of a register, and what their rows mean.
use Rattle.std.specs.Prelude.{◌≡◌}
use Rattle.sqlite.specs.Tree.{Trees}
use Rattle.sqlite.specs.Effect.{Database}
use Rattle.sqlite.specs.Schema.{Schema}
use Rattle.sqlite_catalog.specs.Listing.{IsSound}

-- The tables as their CREATE texts define them, when their trees hold some contents, and the contents of tables without
-- rows. `C` is the type of the contents.
pub record Tables (C : Type 0) : Type 1 where
  pub whole : Schema
  pub Holds : Trees → C → Type 0
  pub none : C

module _ {C : Type 0} (these : Tables C) where
  -- this suffices to find the contents again after an open
  pub record Kept (trees : Trees) (c : C) : Type 0 where
    pub sound : IsSound these.whole trees
    pub holds : these.Holds trees c

  -- the database has exactly these tables, and they hold these contents
  pub record Means (db : Database) (c : C) : Type 0 where
    pub schema : db.schema ≡ these.whole
    pub kept : Kept db.trees c
