use Rattle.krl.proofs.Words.{AreRuns, AreRunsFrom, drop, ◌+◌}
use Rattle.std.specs.Prelude.{◌↔◌}
use Rattle.krl.proofs.runs.are_runs.Given as goal

abbrev pub invariant-loop-run : goal.invariant-loop-run
invariant-loop-run l = AreRunsFrom (l.last.hi + 2) (drop l.run-index l.rest) ↔ AreRuns l.runs
