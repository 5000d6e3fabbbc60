-- How a connection to files ended.
use Rattle.std.proofs.Common.{◌≡◌, ◌≤◌, ℕ, false, true, ap, arith, inl, inr, subst, IsTrue, Option, Some, None, Result, Ok, Err}
use Rattle.sqlite_disk.specs.declared.Disk.{Ghosts}
use Rattle.sqlite_disk.specs.declared.Files.{Files}
use Rattle.sqlite_store.specs.declared.store.FileStore.{FileStore}
use Rattle.sqlite_store.specs.FileStore.{view}
use Rattle.sqlite_trees.specs.View.{IsClean}
use Rattle.sqlite_trees.specs.declared.error.StoreError.{StoreError}
use Rattle.sqlite_trees.specs.declared.error.StoreError.TheVariants.{OutOfMemory, Io, Corrupt, Full, Broken, Unstorable}
use Rattle.sqlite.specs.declared.error.Error.{Error}
use Rattle.sqlite.specs.State.{State, HasCleanDisk, IsUnchanged, Survives}
use Rattle.sqlite.specs.Held.{Held}
use Rattle.sqlite.specs.Files.{file_state, ExcusesClose, FailsToClose, IsClosed}
use Rattle.sqlite.specs.Closing.{HoldsAlone, IsCopied}
use Rattle.store_sql.specs.Calls.{Never}
use Rattle.files.specs.declared.ending.EndFault.{EndFault}
use Rattle.files.specs.declared.ending.EndFault.TheVariants.{GivenUp, Uncopied}
use Rattle.files.specs.Ending.{AreClosed, AreEnded, AreGivenUp, Excuses, IsClosedTo, IsEndOfClose, IsGivenUp}
use Rattle.files.specs.Ending.{IsGivenUpTo}

-- files copied after a call that changed nothing count as copied before it
copied_since : {D : Type 0} {g : Ghosts D} (old new : Held (FileStore D g)) (files : Files D)
    → (HasCleanDisk (file_state new) → HasCleanDisk (file_state old))
    → (HasCleanDisk (file_state new) → IsUnchanged (file_state old) (file_state new)) → IsCopied new files
    → IsCopied old files
copied_since old new files honest same copied =
    let shows = (same copied.was_clean).0 in
    let trees : (file_state new).committed.trees ≡ (file_state old).committed.trees =
    ap (λ d. d.trees) shows.committed_is in
    record {
      was_clean = honest copied.was_clean;
      was_open = shows.was_open;
      seen = subst (HoldsAlone _) trees copied.seen;
      left = λ image may. subst (HoldsAlone image) trees (copied.left image may);
    }

-- a connection abandoned after a call that commits nothing counts as abandoned before it
up_since : {D : Type 0} {g : Ghosts D} (old new : Held (FileStore D g)) (it : FileStore D g)
    → Survives (file_state old) (file_state new) Never → IsGivenUp new it → IsGivenUp old it
up_since old new it survives up = record {
  clean = omega (arith, survives.clean, up.clean);
  numbered = up.numbered;
  sound = up.sound;
  fewer = λ trees may. elim (survives.crash up.clean trees (up.fewer trees may)) [
    | inl before ↦ before
    | inr never ↦ absurd never
  ];
}

more_faults : (old : State) (a b : ℕ) (e : Error) → a ≤ b → Excuses old a e → Excuses old b e
more_faults old a b e counts (inl memory) = inl memory
more_faults old a b e counts (inr (inl shut)) = inr (inl shut)
more_faults old a b e counts (inr (inr failed)) = inr (inr (omega (arith, counts, failed)))

pub given_up_since : {D : Type 0} {g : Ghosts D} (old new : Held (FileStore D g)) (error : Error) (files : Files D)
    → Survives (file_state old) (file_state new) Never
    → (HasCleanDisk (file_state new) → Excuses (file_state old) (file_state new).faults error) → IsGivenUpTo new files
    → AreGivenUp old error files
given_up_since old new error files survives cause given = record {
  given = record {
    it = given.it;
    are_its = given.are_its;
    up = up_since old new given.it survives given.up;
    counts = omega (arith, survives.counts, given.counts);
  };
  cause = more_faults (file_state old) (file_state new).faults _ error given.counts (cause given.up.clean);
}

-- and one closed after a call that changed nothing counts as closed before it
module _ {D : Type 0} {g : Ghosts D} (old new : Held (FileStore D g)) (it : FileStore D g)
    (survives : Survives (file_state old) (file_state new) Never) (clean : HasCleanDisk (file_state new)) where
  quiet_since : IsClosed new it → IsClosed old it
  quiet_since closed = record {
    quiet = record {
      shield = λ shield. closed.quiet.shield (survives.shield shield);
      clean = omega (arith, survives.clean, closed.quiet.clean);
      counts = omega (arith, survives.counts, closed.quiet.counts);
      closes = λ is was. elim (survives.closes clean was) [
        | inl still ↦ elim (closed.quiet.closes is still) [
          | inl on ↦ inl on
          | inr failed ↦ inr (omega (arith, survives.counts, failed))
        ]
        | inr failed ↦ inr (omega (arith, closed.quiet.counts, failed))
      ];
      outcomes = λ trees may. elim (survives.crash clean trees (closed.quiet.outcomes trees may)) [
        | inl before ↦ before
        | inr never ↦ absurd never
      ];
    };
    sound = closed.sound;
  }

  excused_since : IsTrue (file_state new).is_open → (cause : StoreError) → ExcusesClose new it cause
      → ExcusesClose old it cause
  excused_since still OutOfMemory h = tt
  excused_since still Broken (inl shut) = absurd (let on : (view new.store).is_open ≡ true = still in
      let off : (view new.store).is_open ≡ false = shut in cc)
  excused_since still Broken (inr failed) = inr (omega (arith, survives.counts, failed))
  excused_since still Unstorable h = absurd h
  excused_since still Io h = omega (arith, survives.counts, h)
  excused_since still Corrupt h = omega (arith, survives.counts, h)
  excused_since still Full h = omega (arith, survives.counts, h)

  fails_since : IsTrue (file_state new).is_open → (e : Error) → FailsToClose new it e → FailsToClose old it e
  fails_since still e h = (h.0, h.1, excused_since still h.0 h.2, h.3)

closed_since : {D : Type 0} {g : Ghosts D} (old new : Held (FileStore D g)) (error : Option Error)
    (files : Files D) → Survives (file_state old) (file_state new) Never
    → (HasCleanDisk (file_state new) → IsUnchanged (file_state old) (file_state new)) → IsClosedTo new error files
    → AreClosed old error files
closed_since old new error files survives same closed =
    let was : IsClean (view closed.it) → HasCleanDisk (file_state new) =
    λ is. omega (arith, is, closed.quiet.quiet.clean) in
    record {
      it = closed.it;
      are_its = closed.are_its;
      was_open = λ is. (same (was is)).0.was_open;
      quiet = λ is. quiet_since old new closed.it survives (was is) closed.quiet;
      cause = λ e is_it is. fails_since old new closed.it survives (was is) (same (was is)).0.is_open e
          (closed.cause e is_it is);
    }

pub ended_since : {D : Type 0} {g : Ghosts D} (old new : Held (FileStore D g)) (r : Result Unit EndFault)
    (files : Files D) → Survives (file_state old) (file_state new) Never
    → (HasCleanDisk (file_state new) → IsUnchanged (file_state old) (file_state new)) → IsEndOfClose new r files
    → AreEnded old r files
ended_since old new (Ok done) files survives same ended = (
  closed_since old new None files survives same ended.0,
  λ clean. copied_since old new files (λ honest. omega (arith, survives.clean)) same (ended.1 clean),
)
ended_since old new (Err (GivenUp error)) files survives same ended = absurd ended
ended_since old new (Err (Uncopied error)) files survives same ended =
    closed_since old new (Some error) files survives same ended
