use Rattle.std.proofs.Common.{◌≡◌, ◌≤◌, ◌-◌, ℕ, List, Option, length, take}
use Rattle.std.specs.Io.KnownBytes.{Consumes}
use Rattle.wire.proofs.source.read_full.Given as goal

-- the first `at` bytes were read, and no call failed
pub record Filled (old new : Option (List ℕ)) (was is : ℕ) (buf : List ℕ) (at : ℕ) : Type 0 where
  pub given : Consumes old new (take at buf)
  pub within : at ≤ length buf
  pub failed : is ≡ was

abbrev pub invariant-loop-at : goal.invariant-loop-at
invariant-loop-at g l =
    let source = g.S.Source in
    Filled (source.remaining l.fn.source) (source.remaining l.source) (source.failed l.fn.source)
    (source.failed l.source) l.buf l.at

abbrev pub decreases-loop-at : goal.decreases-loop-at
decreases-loop-at g l = length l.initial.buf - l.at
