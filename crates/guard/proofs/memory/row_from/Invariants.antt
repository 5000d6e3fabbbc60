use Rattle.std.proofs.Common.{option_copied, take}
use Rattle.guard.specs.Retiring.{IsFirstFrom}
use Rattle.guard.proofs.memory.row_from.Given as goal

-- the result for the rows before this one
abbrev pub invariant-loop-row : goal.invariant-loop-row
invariant-loop-row l = IsFirstFrom l.serial (take l.row-index l.approved) (option_copied l.found)
