-- The rows that the table refuses.
use Rattle.std.specs.Prelude.{◌≡◌, ◌⊎◌}
pub use Rattle.store_sql.specs.Refusals.{HasCauseOr, HasOne, IsTooLong}
use Rattle.list_sql.specs.declared.lists.ListRow.{ListRow}
use Rattle.list_sql.specs.Cells.{list_cells}
use Rattle.list_sql.specs.Contents.{Contents}

-- the row's number is taken, or the row is too long
abbrev pub RefusesList : ListRow → Contents → Type 0
RefusesList l c = HasOne (λ k. k.id ≡ l.id) c.lists ⊎ IsTooLong (list_cells l)

-- nothing is refused
abbrev pub RefusesNone : Contents → Type 0
RefusesNone c = ⊥
