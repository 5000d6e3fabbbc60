-- The files after a run.
use Rattle.std.proofs.Common.{List, ◌++◌, inl, inr}
use Rattle.std.proofs.Math.Logic.{∥∥₁_elim}
use Rattle.sqlite_disk.specs.declared.Disk.{Ghosts}
use Rattle.sqlite_disk.specs.declared.Files.{Files}
use Rattle.sqlite_wal.specs.Recovery.{Image}
use Rattle.sqlite_trees.specs.Tree.{Trees}
use Rattle.sqlite_store.specs.declared.store.FileStore.{FileStore}
use Rattle.sqlite_store.specs.FileStore.{state}
use Rattle.sqlite.specs.Held.{Held}
use Rattle.sqlite.specs.Files.{HoldsDatabase, file_state}
use Rattle.sqlite.specs.Closing.{IsCopied}
use Rattle.sqlite.proofs.Theorems.{opens_again}
use Rattle.office.specs.declared.opening.Opening.{Opening}
use Rattle.office.specs.declared.arrival.Arrival.{Arrival}
use Rattle.store.specs.Meaning.{IsHistory, IsLeft}
use Rattle.restart.specs.Images.{HoldsAtLeast}
use Rattle.restart.specs.Runs.{LeavesAtLeast, LeavesWhatIsTold, RunKeepsOffice}
use Rattle.files.specs.Ending.{IsGivenUp}

-- after a clean close the files hold the last commit, whatever a crash makes of them
pub leaves_what_is_told : {D : Type 0} {g : Ghosts D} (c : Held (FileStore D g)) (files : Files D) → IsCopied c files
    → LeavesWhatIsTold g (file_state c) files
leaves_what_is_told c files copied o l tells image may = record {
  history = tells.history;
  trees = (file_state c).committed.trees;
  holds = (copied.left image may).both;
  kept = (tells.rows copied.was_open).committed.kept;
}

-- files that hold what a crash may leave hold the office, or the office after one more request
holds_left : (o : Opening) (l : List Arrival) (image : Image) (db : Trees) → HoldsDatabase image db → IsHistory o l
    → IsLeft o l db → HoldsAtLeast image o l
holds_left o l image db holds history (inl kept) =
    ∣ inl (record { history = history; trees = db; holds = ∣ holds ∣₁; kept = kept }) ∣₁
holds_left o l image db holds history (inr more) =
    ∣ inr (more.0, record { history = more.1; trees = db; holds = ∣ holds ∣₁; kept = more.2 }) ∣₁

-- whatever a crash makes of the files, opening them finds trees that the connection may leave
pub leaves_at_least : {D : Type 0} {g : Ghosts D} (c : Held (FileStore D g)) (it : FileStore D g) → IsGivenUp c it
    → LeavesAtLeast (file_state c) (state it).may_leave
leaves_at_least c it up o l tells image may =
    ∥∥₁_elim (opens_again it up.numbered up.sound image may) squash₁
    (λ db. holds_left o l image db.0 db.2 tells.history (tells.left db.0 (up.fewer db.0 db.1)))

-- the history represented at the open is represented at the end, with more requests, and the close leaves that
pub run_keeps_office : {D : Type 0} {g : Ghosts D} (files : Files D) → RunKeepsOffice g files
run_keeps_office files image opened last told did copied o l held =
    let honest = did copied.was_clean in
    let tells = honest.1 copied.was_open o l (told honest.0 o l held) in
    (tells.0, leaves_what_is_told last files copied o (l ++ tells.0) tells.1)
