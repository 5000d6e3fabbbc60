-- A part that was stopped stops the whole transaction.
use Rattle.store.proofs.Words.{Contents, HasCleanDisk, HasStopped, Survives, Trees, inl, inr, ◌≤◌}
use Rattle.sqlite.specs.State.{State}
use Rattle.store.proofs.Causes.{failed_early, failed_late}

pub stopped_late : (P : Trees → Type 0) (a b d : State) (c : Contents) → Survives a b P → HasCleanDisk b
    → b.faults ≤ d.faults
    → HasStopped c b d → HasStopped c a d
stopped_late P a b d c one clean le (inl failed) = inl (failed_late P a b d one clean le failed)
stopped_late P a b d c one clean le (inr refused) = inr refused

pub stopped_early : (a b d : State) (c : Contents) → HasStopped c a b → b.faults ≤ d.faults → HasStopped c a d
stopped_early a b d c (inl failed) le = inl (failed_early a b d failed le)
stopped_early a b d c (inr refused) le = inr refused
