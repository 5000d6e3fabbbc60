use Rattle.std.proofs.Common.{◌≡◌, Some}
use Rattle.list_sql.specs.Opening.{joined}
use Rattle.list_sql.proofs.finding.list_of.Given as goal

-- the bytes of the rows with the ids up to this one
abbrev pub invariant-loop-at : goal.invariant-loop-at
invariant-loop-at l = joined l.rows l.at ≡ Some l.bytes.items
