use Rattle.std.proofs.Common.{◌≡◌, ◌≤◌, ◌-◌, ◌+◌, ℕ, List, Option, length, take}
use Rattle.std.specs.Io.KnownBytes.{Appends}
use Rattle.wire.proofs.sink.write_all.Given as goal

-- the first `at` bytes were taken, no call failed, and at most `at` bytes of room were used
pub record Sent (old new : Option (List ℕ)) (was is before left : ℕ) (bytes : List ℕ) (at : ℕ) : Type 0 where
  pub sent : Appends old new (take at bytes)
  pub within : at ≤ length bytes
  pub failed : is ≡ was
  pub room : before ≤ left + at

abbrev pub invariant-loop-at : goal.invariant-loop-at
invariant-loop-at g l =
    let sink = g.W.Sink in
    Sent (sink.taken l.fn.sink) (sink.taken l.sink) (sink.failed l.fn.sink) (sink.failed l.sink)
    (sink.room l.fn.sink) (sink.room l.sink) l.bytes l.at

abbrev pub decreases-loop-at : goal.decreases-loop-at
decreases-loop-at g l = length l.bytes - l.at
