-- What the two files of a list guard hold: the database and its log.
use Rattle.std.specs.Prelude.{◌⊎◌, Option, None, Some}
use Rattle.sqlite_wal.specs.Recovery.{Image}
use Rattle.sqlite_trees.specs.Tree.{Trees}
use Rattle.sqlite.specs.Files.{HoldsDatabase}
use Rattle.list_guard.specs.State.{State}
use Rattle.list_sql.specs.Contents.{Kept}
use Rattle.list_sql.specs.Keeping.{IsFilled}
use Rattle.list_sql.specs.Rows.{list_contents}
use Rattle.files.specs.Images.{HoldsNone}

-- the files hold a database whose table has the rows of this state
pub record HoldsList (image : Image) (s : State) : Type 0 where
  pub trees : Trees
  pub holds : ∥ HoldsDatabase image trees ∥₁
  pub kept : Kept trees (list_contents s)

-- the list guard with this state, which a table may hold
abbrev pub HoldsKept : Image → State → Type 0
HoldsKept image s = IsFilled s × HoldsList image s

-- the list guard with one of these two states
abbrev pub HoldsOneOf : Image → State → State → Type 0
HoldsOneOf image s t = ∥ HoldsList image s ⊎ HoldsList image t ∥₁

-- what files hold: no list guard yet, or one with this state
abbrev pub Standing : Type 0
Standing = Option State

-- the files hold this
abbrev pub Holds : Image → Standing → Type 0
Holds image None = HoldsNone image
Holds image (Some s) = HoldsKept image s
