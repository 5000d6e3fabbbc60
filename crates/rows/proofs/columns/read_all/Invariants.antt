use Rattle.rows.proofs.Words.{map, take, ◌≡◌}
use Rattle.rows.proofs.columns.read_all.Given as goal

abbrev pub invariant-loop-row : goal.invariant-loop-row
invariant-loop-row g l = map g.T.Columns.cells l.all.items ≡ take l.row-index l.rows
