use Rattle.web.proofs.Words.{Consumes, HasCome, IsAt, List, Option, Waits, WaitsBefore, length, ℕ, ◌≡◌}
use Rattle.http_requests.specs.declared.growing.Spot.{Spot}
use Rattle.web.proofs.taking.take_front.Given as goal

-- `count` bytes were taken, each while the bytes before it were undecided, and no call failed
pub record SoFar (old new : Option (List ℕ)) (was is : ℕ) (spot : Spot) (taken : List ℕ) (count : ℕ) : Type 0 where
  pub consumed : Consumes old new taken
  pub shortest : WaitsBefore taken
  pub waits : HasCome Waits taken
  pub at : IsAt spot taken
  pub size : length taken ≡ count
  pub failed : is ≡ was

abbrev pub invariant-loop-count : goal.invariant-loop-count
invariant-loop-count g l =
    let source = g.R.Source in
    SoFar (source.remaining l.fn.source) (source.remaining l.source) (source.failed l.fn.source)
    (source.failed l.source) l.spot l.taken.items l._count
