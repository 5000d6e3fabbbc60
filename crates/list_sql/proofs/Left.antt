-- What a run leaves in the files.
use Rattle.std.proofs.Common.{◌⊎◌, inl, inr, sym, subst, IsTrue, Result, Ok, Err}
use Rattle.std.proofs.Math.Logic.{∥∥₁_elim}
use Rattle.sqlite_disk.specs.declared.Disk.{Ghosts}
use Rattle.sqlite_disk.specs.declared.Files.{Files}
use Rattle.sqlite_wal.specs.Recovery.{Image}
use Rattle.sqlite_wal.specs.Files.{outcomes}
use Rattle.sqlite_wal.specs.Reads.{AreClean}
use Rattle.sqlite_wal.proofs.LogLemmas.{SeenMayStay}
use Rattle.sqlite_pool.proofs.StateLemmas.{may_leave_is}
use Rattle.sqlite_trees.specs.Tree.{Trees}
use Rattle.sqlite_store.specs.declared.store.FileStore.{FileStore}
use Rattle.sqlite_store.specs.FileStore.{state, view, recovers}
use Rattle.sqlite.specs.Held.{Held, AreDatabases}
use Rattle.sqlite.specs.Files.{HoldsDatabase, file_state}
use Rattle.sqlite.specs.Closing.{IsCopied}
use Rattle.sqlite.proofs.Theorems.{opens_again}
use Rattle.list_guard.specs.State.{State}
use Rattle.list_sql.specs.Contents.{Kept}
use Rattle.list_sql.specs.Rows.{list_contents}
use Rattle.files.specs.declared.ending.EndFault.{EndFault}
use Rattle.files.specs.declared.ending.EndFault.TheVariants.{GivenUp, Uncopied}
use Rattle.files.specs.Ending.{AreEnded}
use Rattle.list_sql.specs.Images.{HoldsOneOf}
use Rattle.list_sql.specs.Runs.{EndsWell, LeavesOneOf, LeavesWhatIsKept}

-- after a close that succeeded, each possible result of a crash holds the last commit
pub leaves_what_is_kept : {D : Type 0} {g : Ghosts D} (c : Held (FileStore D g)) (files : Files D) → IsCopied c files
    → LeavesWhatIsKept g (file_state c) files
leaves_what_is_kept c files copied s keeps image may = record {
  trees = (file_state c).committed.trees;
  holds = (copied.left image may).both;
  kept = (keeps.rows copied.was_open).committed.kept;
}

-- if the files hold trees with the rows of one of two states, they hold the list guard with one of them
holds_left : (s t : State) (image : Image) (db : Trees) → HoldsDatabase image db
    → Kept db (list_contents s) ⊎ Kept db (list_contents t) → HoldsOneOf image s t
holds_left s t image db holds (inl kept) = ∣ inl (record { trees = db; holds = ∣ holds ∣₁; kept = kept }) ∣₁
holds_left s t image db holds (inr kept) = ∣ inr (record { trees = db; holds = ∣ holds ∣₁; kept = kept }) ∣₁

-- each possible result of a crash opens with trees that the connection may leave
pub leaves_one_of : {D : Type 0} {g : Ghosts D} (c : Held (FileStore D g)) (it : FileStore D g)
    → IsTrue (view it).is_numbered → AreDatabases (recovers it)
    → ((db : Trees) → recovers it db → recovers c.store db) → LeavesOneOf (file_state c) (state it).may_leave
leaves_one_of c it numbered sound fewer s t left image may =
    ∥∥₁_elim (opens_again it numbered sound image may) squash₁
    (λ db. holds_left s t image db.0 db.2 (left db.0 (fewer db.0 db.1)))

-- a connection that ended, ended well
pub ends_well : {D : Type 0} {g : Ghosts D} → SeenMayStay g → (c : Held (FileStore D g)) (r : Result Unit EndFault)
    (files : Files D) → AreEnded c r files → EndsWell c r files
ends_well {D} {g} stays c (Ok done) files ended = λ clean.
    let copied = ended.1 clean in (copied, leaves_what_is_kept c files copied)
ends_well {D} {g} stays c (Err (GivenUp error)) files ended = λ clean.
    let up = ended clean in
    let it = up.given in (
      it.up.clean,
      λ s t left image may.
          let now : (state it.it).may_leave image =
          may_leave_is it.it.pool image (subst (λ (p : D × D). AreClean g p.0 p.1) (sym it.are_its) clean)
          (subst (λ (p : D × D). outcomes g p.0 p.1 image) (sym it.are_its) may) in
          leaves_one_of c it.it it.up.numbered it.up.sound it.up.fewer s t left image now,
      up,
    )
ends_well stays c (Err (Uncopied error)) files ended = ended
