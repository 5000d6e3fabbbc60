-- When the tables refuse a write.
use Rattle.std.specs.Prelude.{◌≡◌, ◌⊎◌, ℕ, IfErr, Result}
use Rattle.sqlite.specs.State.{State}
use Rattle.store_sql.specs.declared.table_fault.Fault.{Fault}
pub use Rattle.store_sql.specs.Refusals.{HasCauseOr, HasOne, IsTooLong}
use Rattle.guard_sql.specs.declared.guards.GuardRow.{GuardRow}
use Rattle.guard_sql.specs.declared.approvals.ApprovalRow.{ApprovalRow}
use Rattle.guard_sql.specs.Cells.{approval_cells, guard_cells}
use Rattle.guard_sql.specs.Changes.{ending_at}
use Rattle.guard_sql.specs.Contents.{Contents, Means}

-- the row's id is taken, or the row is too long
abbrev pub RefusesGuard : GuardRow → Contents → Type 0
RefusesGuard g c = HasOne (λ h. h.id ≡ g.id) c.guards ⊎ IsTooLong (guard_cells g)

-- the guard's row is too long with this last serial
abbrev pub RefusesLast : ℕ → Contents → Type 0
RefusesLast last c = HasOne (λ g. (g.id ≡ 1) × IsTooLong (guard_cells (ending_at last g))) c.guards

-- the row's serial is taken, or the row is too long
abbrev pub RefusesApproval : ApprovalRow → Contents → Type 0
RefusesApproval a c = HasOne (λ b. b.serial ≡ a.serial) c.approved ⊎ IsTooLong (approval_cells a)
