use Rattle.cert.proofs.Words.{[], drop, first_fault, take, ◌≡◌}
use Rattle.cert.proofs.options.first_fault_of.Given as goal

abbrev pub invariant-loop-i : goal.invariant-loop-i
invariant-loop-i l = first_fault l.field (take l.i l.pairs) (drop l.i l.pairs) ≡ first_fault l.field [] l.pairs
