use Rattle.krl.proofs.Words.{drop, ◌++◌, ◌≡◌}
use Rattle.krl.proofs.Gathering.{gathered}
use Rattle.krl.proofs.runs.gathered.Given as goal

abbrev pub invariant-loop-serial : goal.invariant-loop-serial
invariant-loop-serial l =
    l.out.items ++ gathered l.carried (drop l.serial-index l.rest)
    ≡ gathered (record { lo = l.fn.first; hi = l.fn.first }) l.rest
