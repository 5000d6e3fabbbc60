-- The values that a column may hold, and reading them.
use Rattle.std.specs.Prelude.{ℕ, pos, Bool, true, false, ◌&&◌, ◌==◌, List, [], Option, Some, None, length}
use Rattle.std.specs.List.{list_all, enumerate_from}
use Rattle.sqlite.specs.Order.{Row, column}
use Rattle.sqlite.specs.declared.types.Value.{Value}
use Rattle.sqlite.specs.declared.types.Value.TheVariants as value
use Rattle.store_sql.specs.declared.kind.Kind.{Kind}
use Rattle.store_sql.specs.declared.kind.Kind.TheVariants.{Number, Text, Blob, OptionalBlob}

-- whether a column of this kind may hold the value
abbrev pub holds : Kind → Value → Bool
holds Number (value.Int (pos n)) = true
holds Text (value.Text t) = true
holds Blob (value.Blob b) = true
holds OptionalBlob (value.Blob b) = true
holds OptionalBlob value.Null = true
holds _ _ = false

-- whether the row has exactly these columns, each with a value of its kind
abbrev pub has_kinds : List Kind → Row → Bool
has_kinds kinds row = (length row == length kinds) && list_all (λ p. holds p.1 (column row p.0))
    (enumerate_from 0 kinds)

abbrev pub text_in : Value → List ℕ
text_in (value.Text t) = t
text_in _ = []

abbrev pub blob_in : Value → List ℕ
blob_in (value.Blob b) = b
blob_in _ = []

abbrev pub optional_blob_in : Value → Option (List ℕ)
optional_blob_in (value.Blob b) = Some b
optional_blob_in _ = None

abbrev pub number_in : Value → ℕ
number_in (value.Int (pos n)) = n
number_in _ = 0
