-- The values that a column may hold, and how they are read.
use Rattle.std.specs.Prelude.{ℕ, pos, Bool, true, false, ◌&&◌, ◌==◌, List, [], length}
use Rattle.std.specs.List.{list_all, enumerate_from}
use Rattle.sqlite.specs.Order.{Row, column}
use Rattle.sqlite.specs.declared.types.Value.{Value}
use Rattle.sqlite.specs.declared.types.Value.TheVariants as value
use Rattle.rows.specs.declared.kind.Kind.{Kind}
use Rattle.rows.specs.declared.kind.Kind.TheVariants.{Blob, Number}

-- whether a column of this kind may hold the value
abbrev pub holds : Kind → Value → Bool
holds Number (value.Int (pos n)) = true
holds Blob (value.Blob b) = true
holds _ _ = false

-- whether the row has exactly columns of these kinds
abbrev pub has_kinds : List Kind → Row → Bool
has_kinds kinds row = (length row == length kinds) && list_all (λ p. holds p.1 (column row p.0))
    (enumerate_from 0 kinds)

abbrev pub blob_in : Value → List ℕ
blob_in (value.Blob b) = b
blob_in _ = []

abbrev pub number_in : Value → ℕ
number_in (value.Int (pos n)) = n
number_in _ = 0
