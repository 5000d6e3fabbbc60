use Rattle.std.proofs.Common.{All, take}
use Rattle.guard_sql.specs.Several.{IsLow}
use Rattle.guard_sql.proofs.approved_rows.are_low.Given as goal

-- the rows before this one fit
abbrev pub invariant-loop-row : goal.invariant-loop-row
invariant-loop-row l = All IsLow (take l.row-index l.rows)
