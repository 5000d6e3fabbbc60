-- The columns of the table's rows.
use Rattle.std.specs.Prelude.{pos, List, [], ◌∷◌}
use Rattle.sqlite.specs.Order.{Row}
use Rattle.sqlite.specs.declared.types.Value.TheVariants.{Int, Blob}
use Rattle.rows.specs.declared.kind.Kind.{Kind}
use Rattle.rows.specs.declared.kind.Kind.TheVariants as kind
use Rattle.list_sql.specs.declared.lists.ListRow.{ListRow}

abbrev pub list_cells : ListRow → Row
list_cells l = Int (pos l.id) ∷ Int (pos l.schema) ∷ Blob l.bytes ∷ []

-- the kinds of these columns
abbrev pub list_kinds : List Kind
list_kinds = kind.Number ∷ kind.Number ∷ kind.Blob ∷ []
