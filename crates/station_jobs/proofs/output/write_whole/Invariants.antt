use Rattle.std.proofs.Common.{◌≤◌, ◌-◌, ℕ, List, Option, length, take}
use Rattle.std.specs.Io.KnownBytes.{Appends}
use Rattle.station_jobs.proofs.output.write_whole.Given as goal

-- the first `at` bytes have been taken
pub record Sent (old new : Option (List ℕ)) (bytes : List ℕ) (at : ℕ) : Type 0 where
  pub sent : Appends old new (take at bytes)
  pub within : at ≤ length bytes

abbrev pub invariant-loop-at : goal.invariant-loop-at
invariant-loop-at g l = Sent (g.W.Write.contents l.fn.out) (g.W.Write.contents l.out) l.bytes l.at

abbrev pub decreases-loop-at : goal.decreases-loop-at
decreases-loop-at g l = length l.bytes - l.at
