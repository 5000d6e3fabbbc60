use Rattle.krl.proofs.Words.{length, ◌+◌}
use Rattle.krl.proofs.RunsRead.{ReadSoFar}
use Rattle.krl.proofs.runs_left.behind_runs.Given as goal

abbrev pub invariant-loop-run : goal.invariant-loop-run
invariant-loop-run l = ReadSoFar l.fn.left.listed.now l.fn.left.ranges.now l.last l.left.listed.now l.left.ranges.now

abbrev pub decreases-loop-run : goal.decreases-loop-run
decreases-loop-run l = length l.left.listed.now + length l.left.ranges.now
