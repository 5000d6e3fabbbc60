use Rattle.rows.proofs.Words.{◌≡◌}
use Rattle.rows.proofs.KindLemmas.{held_from}
use Rattle.rows.proofs.kind.are_held.Given as goal

-- the columns before this one hold values of their kinds
abbrev pub invariant-loop-at : goal.invariant-loop-at
invariant-loop-at l = held_from l.kinds l.columns 0 ≡ held_from l.kinds l.columns l.at
