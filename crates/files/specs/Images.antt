-- What the two files of a database hold, the database file and its log.
use Rattle.std.specs.Prelude.{◌⊎◌}
use Rattle.sqlite_wal.specs.Recovery.{Image}
use Rattle.sqlite_trees.specs.Tree.{Trees}
use Rattle.sqlite_catalog.specs.Listing.{IsSound}
use Rattle.sqlite.specs.Files.{HoldsDatabase, IsNothing}
use Rattle.store_sql.specs.Schema.{no_schema}

-- No rows yet: the database file is empty, or doesn't exist, or was only half made by an interrupted first open. Or the
-- files hold a database without tables.
abbrev pub HoldsNone : Image → Type 0
HoldsNone image = IsNothing image ⊎ ((trees : Trees) × ∥ HoldsDatabase image trees ∥₁ × IsSound no_schema trees)
