-- The contents after each write.
use Rattle.std.specs.Prelude.{ℕ, Bool, cond, ◌==◌, List, ◌∷◌, map, filter}
use Rattle.guard_sql.specs.declared.guards.GuardRow.{GuardRow}
use Rattle.guard_sql.specs.declared.approvals.ApprovalRow.{ApprovalRow}
use Rattle.guard_sql.specs.Contents.{Contents}

-- ---- the guard

abbrev pub with_guard : GuardRow → Contents → Contents
with_guard g c = record c { guards = g ∷ c.guards }

abbrev pub ending_at : ℕ → GuardRow → GuardRow
ending_at last g = record g { last = last }

-- the guard's row with id 1 has this last serial
abbrev pub with_last : ℕ → Contents → Contents
with_last last c = record c { guards = map (λ g. cond (g.id == 1) (ending_at last g) g) c.guards }

-- ---- approved bodies

abbrev pub has_serial : ℕ → ApprovalRow → Bool
has_serial serial a = a.serial == serial

abbrev pub approved_under : ℕ → Contents → List ApprovalRow
approved_under serial c = filter (has_serial serial) c.approved

abbrev pub with_approval : ApprovalRow → Contents → Contents
with_approval a c = record c { approved = a ∷ c.approved }
