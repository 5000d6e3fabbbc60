-- The rows of a guard: how the tables represent a state.
use Rattle.std.specs.Prelude.{List, [], ◌∷◌, fold}
use Rattle.lines.specs.Keys.{key_blob}
use Rattle.guard.specs.declared.approved.Approved.{Approved}
use Rattle.guard.specs.declared.scope.Scope.{Scope}
use Rattle.guard.specs.State.{State}
use Rattle.guard_sql.specs.declared.guards.GuardRow.{GuardRow}
use Rattle.guard_sql.specs.declared.approvals.ApprovalRow.{ApprovalRow}
use Rattle.guard_sql.specs.Contents.{Contents}

-- the one row of the guard's own table, of schema 1
abbrev pub guard_row : Scope → GuardRow
guard_row s = record { id = 1; schema = 1; ca = key_blob s.ca; first = s.first; last = s.last }

abbrev pub approval_row : Approved → ApprovalRow
approval_row a = record { serial = a.serial; moment = a.moment; body = a.body }

abbrev pub approved_in : ApprovalRow → Approved
approved_in r = record { serial = r.serial; moment = r.moment; body = r.body }

-- a row for each body, the last that was approved first
abbrev pub newest_first : List Approved → List ApprovalRow
newest_first l = fold (λ rows a. approval_row a ∷ rows) [] l

-- all rows
abbrev pub guard_contents : State → Contents
guard_contents s = record { guards = guard_row s.scope ∷ []; approved = newest_first s.approved }
