-- The columns of each table's rows.
use Rattle.std.specs.Prelude.{pos, List, [], ◌∷◌}
use Rattle.sqlite.specs.Order.{Row}
use Rattle.sqlite.specs.declared.types.Value.TheVariants.{Int, Blob}
use Rattle.rows.specs.declared.kind.Kind.{Kind}
use Rattle.rows.specs.declared.kind.Kind.TheVariants as kind
use Rattle.guard_sql.specs.declared.guards.GuardRow.{GuardRow}
use Rattle.guard_sql.specs.declared.approvals.ApprovalRow.{ApprovalRow}

abbrev pub guard_cells : GuardRow → Row
guard_cells g = Int (pos g.id) ∷ Int (pos g.schema) ∷ Blob g.ca ∷ Int (pos g.first) ∷ Int (pos g.last) ∷ []

abbrev pub approval_cells : ApprovalRow → Row
approval_cells a = Int (pos a.serial) ∷ Int (pos a.moment) ∷ Blob a.body ∷ []

-- ---- the kinds of those columns

abbrev pub guard_kinds : List Kind
guard_kinds = kind.Number ∷ kind.Number ∷ kind.Blob ∷ kind.Number ∷ kind.Number ∷ []

abbrev pub approval_kinds : List Kind
approval_kinds = kind.Number ∷ kind.Number ∷ kind.Blob ∷ []
