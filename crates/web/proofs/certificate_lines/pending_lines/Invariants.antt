use Rattle.web.proofs.Words.{pending_lines, take, ◌≡◌}
use Rattle.web.proofs.certificate_lines.pending_lines.Given as goal

abbrev pub invariant-loop-row : goal.invariant-loop-row
invariant-loop-row l = l.out.items ≡ pending_lines (take l.row-index l.rows)
