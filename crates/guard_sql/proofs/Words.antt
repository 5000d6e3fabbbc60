-- Names from the libraries and the definitions, for several proof files.
pub use Rattle.guard_sql.specs.Cells.{approval_cells, guard_cells}
pub use Rattle.guard_sql.specs.Changes.{approved_under, ending_at, has_serial, with_approval, with_guard, with_last}
pub use Rattle.guard_sql.specs.Contents.{Contents, HasGuards, Holds, IsFirstFrom, IsLeastFrom, Kept, Means}
pub use Rattle.guard_sql.specs.Contents.{approval_places, guard_places, no_contents}
pub use Rattle.guard_sql.specs.Refusals.{RefusesApproval, RefusesGuard}
pub use Rattle.guard_sql.specs.Refusals.{RefusesLast}
pub use Rattle.guard_sql.specs.Schema.{approved, approved_at, guard, guard_at, through_guard, whole}
pub use Rattle.guard_sql.specs.declared.approvals.ApprovalRow.{ApprovalRow}
pub use Rattle.guard_sql.specs.declared.guards.GuardRow.{GuardRow}
pub use Rattle.guard_sql.specs.declared.sql.TheConstants.{CREATE_APPROVED, CREATE_GUARD, EVERY_GUARD, FIND_APPROVED}
pub use Rattle.guard_sql.specs.declared.sql.TheConstants.{FROM_APPROVED, INSERT_APPROVED, INSERT_GUARD, LOWER_GUARD}
