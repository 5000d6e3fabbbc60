use Rattle.std.proofs.Common.{◌≡◌, ◌++◌, suc, drop}
use Rattle.web.specs.Reports.{ca_lines, ca_lines_from}
use Rattle.web.proofs.publishing.ca_lines.Given as goal

-- the lines so far, followed by those to come, are all lines
abbrev pub invariant-loop-ca : goal.invariant-loop-ca
invariant-loop-ca l =
    record {
      lines : l.out.items ++ ca_lines_from (suc l.number) (drop l.ca-index l.cas) ≡ ca_lines l.cas;
      number : l.number ≡ l.ca-index;
    }
