use Rattle.krl.proofs.Words.{drop, ◌++◌, ◌≡◌}
use Rattle.krl.proofs.Joining.{joined}
use Rattle.krl.proofs.runs.joined.Given as goal

abbrev pub invariant-loop-run : goal.invariant-loop-run
invariant-loop-run l =
    l.out.items ++ joined l.carried.lo l.carried.hi (drop l.run-index l.runs) ≡ joined l.fn.with.lo l.fn.with.hi l.runs
