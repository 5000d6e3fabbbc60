use Rattle.web.proofs.Words.{flat_map, line_among, take, ◌++◌, ◌≡◌}
use Rattle.web.proofs.batches.put_lines.Given as goal

abbrev pub invariant-loop-certificate : goal.invariant-loop-certificate
invariant-loop-certificate l =
    l.out.items ≡ l.fn.out.items ++ flat_map (line_among l.revocations) (take l.certificate-index l.certificates)
