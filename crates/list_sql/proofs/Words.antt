-- The names of libraries and definitions that several proof files use.
pub use Rattle.list_sql.specs.Cells.{list_cells}
pub use Rattle.list_sql.specs.Changes.{with_list, without_rows}
pub use Rattle.list_sql.specs.Contents.{Contents, HasRows, Holds, Kept, Means, list_places, no_contents}
pub use Rattle.list_sql.specs.Refusals.{RefusesList, RefusesNone}
pub use Rattle.list_sql.specs.Schema.{list, list_at, whole}
pub use Rattle.list_sql.specs.declared.lists.ListRow.{ListRow}
pub use Rattle.list_sql.specs.declared.sql.TheConstants.{CREATE_LIST, DELETE_LISTS, EVERY_LIST, INSERT_LIST}
