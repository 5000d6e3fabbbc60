use Rattle.office.proofs.Words.{flags, take, ◌≡◌}
use Rattle.office.proofs.issuing.flags_of.Given as goal

abbrev pub invariant-loop-name : goal.invariant-loop-name
invariant-loop-name l = l.flags.items ≡ flags (take l.name-index l.names)
