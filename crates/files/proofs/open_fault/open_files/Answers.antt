use Rattle.std.proofs.Common.{◌≡◌, ◌⊎◌, ◌∷◌, [], ℕ, Bool, true, false, cond, List, ap₂, inl, inr, subst, sym}
use Rattle.sqlite_disk.specs.Events.{Event, replay, settled}
use Rattle.sqlite_disk.specs.History.{MayLeave}
use Rattle.sqlite_wal.specs.Recovery.{Image}
use Rattle.files.proofs.open_fault.open_files.Goals as goal

abbrev image : List ℕ → List ℕ → Image
image log db = record { log = log; db = db }

abbrev seen : List ℕ → List ℕ → Bool → List Event → List ℕ
seen log db is_log history = (replay (cond is_log log db) history).seen

-- what a crash leaves of the log or of the database file, after these calls
abbrev Leaves : Bool → List ℕ → List ℕ → Bool → List Event → List ℕ → Type 0
Leaves mixes log db is_log history c =
    let m = replay (cond is_log log db) history in MayLeave mixes m.seen m.synced m.steps c

either : {A : Type 0} → A ⊎ A → A
either (inl a) = a
either (inr a) = a

-- before the first call it leaves what the file held
only_held : (mixes : Bool) (log db : List ℕ) (is_log wanted : Bool) → is_log ≡ wanted → (history : List Event) (key : ℕ)
    → history ≡ settled key ∷ [] → (c : List ℕ) → Leaves mixes log db is_log history c → c ≡ cond wanted log db
only_held mixes log db is_log wanted which history key fresh c may =
    let of_it : Leaves mixes log db wanted history c =
    subst (λ (b : Bool). Leaves mixes log db b history c) which may in
    either (subst (λ (h : List Event). Leaves mixes log db wanted h c) fresh of_it)

pub returns-in-Some-clause-fails : goal.returns-in-Some-clause-fails
returns-in-Some-clause-fails g c =
    let start = g.S.Start in
    let it = rw c.in-Some.is at c.in-Err.ensures.cause in
    record {
      opened = it.0;
      rest = c.in-Some.rest;
      held = ap₂ image (ap₂ (seen start.log start.db) it.1.0 it.1.1) (ap₂ (seen start.log start.db) it.2.0 it.2.1);
      only = λ left may.
          ap₂ image (only_held start.is_mixing start.log start.db _ true it.1.0 _ _ it.1.1 left.log may.0)
          (only_held start.is_mixing start.log start.db _ false it.2.0 _ _ it.2.1 left.db may.1);
      same = sym c.into_files-files.ensures;
      cause = λ clean. (it.3 clean).0;
      leaves = λ clean. (it.3 clean).1;
    }

pub returns-in-None-clause-fails : goal.returns-in-None-clause-fails
returns-in-None-clause-fails g c = c.in-Err.ensures.unopened c.in-None.is
