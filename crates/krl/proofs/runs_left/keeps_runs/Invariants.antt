use Rattle.krl.proofs.Words.{AreRuns, List, None, Run, ℕ, length, ◌+◌, ◌≡◌}
use Rattle.krl.specs.Fronts.{AreSplit, behind_at, range_begin}
use Rattle.krl.proofs.RunsKept.{StillKept}
use Rattle.krl.proofs.runs_left.keeps_runs.Given as goal

abbrev pub invariant-loop-run : goal.invariant-loop-run
invariant-loop-run l =
    (rs qs : List Run) (a b : List ℕ) → AreRuns rs → AreRuns qs → behind_at range_begin a ≡ None
    → behind_at range_begin b ≡ None → AreSplit l.fn.old.listed.now l.fn.old.ranges.now rs a
    → AreSplit l.fn.new.listed.now l.fn.new.ranges.now qs b
    → StillKept rs qs a b l.old.listed.now l.old.ranges.now l.new.listed.now l.new.ranges.now

abbrev pub decreases-loop-run : goal.decreases-loop-run
decreases-loop-run l =
    (length l.old.listed.now + length l.old.ranges.now) + (length l.new.listed.now + length l.new.ranges.now)
