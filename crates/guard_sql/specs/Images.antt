-- What the two files of a guard hold, the database and its log.
use Rattle.std.specs.Prelude.{◌⊎◌, Option, None, Some}
use Rattle.sqlite_wal.specs.Recovery.{Image}
use Rattle.sqlite_trees.specs.Tree.{Trees}
use Rattle.sqlite.specs.Files.{HoldsDatabase}
use Rattle.guard.specs.State.{State}
use Rattle.guard_sql.specs.Contents.{Kept}
use Rattle.guard_sql.specs.Keeping.{IsGuard}
use Rattle.guard_sql.specs.Rows.{guard_contents}
use Rattle.files.specs.Images.{HoldsNone}

-- a database with the rows of this state of a guard
pub record HoldsGuard (image : Image) (s : State) : Type 0 where
  pub trees : Trees
  pub holds : ∥ HoldsDatabase image trees ∥₁
  pub kept : Kept trees (guard_contents s)

-- a guard of this state, which tables may keep
abbrev pub HoldsKept : Image → State → Type 0
HoldsKept image s = IsGuard s × HoldsGuard image s

-- the guard of the one state or that of the other
abbrev pub HoldsOneOf : Image → State → State → Type 0
HoldsOneOf image s t = ∥ HoldsGuard image s ⊎ HoldsGuard image t ∥₁

-- no guard yet, or the guard of a state
abbrev pub Standing : Type 0
Standing = Option State

-- the files hold no guard, or this one
abbrev pub Holds : Image → Standing → Type 0
Holds image None = HoldsNone image
Holds image (Some s) = HoldsKept image s
