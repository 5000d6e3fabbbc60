use Rattle.std.proofs.Common.{take}
use Rattle.sqlite.specs.Held.{state}
use Rattle.guard_sql.proofs.Several.{Written}
use Rattle.guard_sql.proofs.keeping.insert_approvals.Given as goal

-- the rows before this one have been written
abbrev pub invariant-loop-row : goal.invariant-loop-row
invariant-loop-row g l = Written l.rows (take l.row-index l.rows) (state g.S.Store l.fn.conn) (state g.S.Store l.conn)
