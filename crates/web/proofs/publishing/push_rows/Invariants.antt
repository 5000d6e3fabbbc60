use Rattle.std.proofs.Common.{◌≡◌, ◌++◌, map, take}
use Rattle.web.specs.Reports.{signer_row}
use Rattle.web.proofs.publishing.push_rows.Given as goal

abbrev pub invariant-loop-ca : goal.invariant-loop-ca
invariant-loop-ca l = l.rows.items ≡ l.fn.rows.items ++ map (signer_row l.department) (take l.ca-index l.cas)
