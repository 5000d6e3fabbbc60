-- What the files of a guard keep.
use Rattle.std.proofs.Common.{◌≡◌, Result, Ok, Err}
use Rattle.sqlite_disk.specs.declared.Disk.{Ghosts}
use Rattle.sqlite_disk.specs.declared.Files.{Files}
use Rattle.sqlite_wal.specs.Recovery.{Image}
use Rattle.sqlite_store.specs.declared.store.FileStore.{FileStore}
use Rattle.sqlite.specs.State.{HasCleanDisk}
use Rattle.sqlite.specs.Files.{file_state}
use Rattle.guard.specs.declared.scope.Scope.{Scope}
use Rattle.guard.specs.State.{State, opened}
use Rattle.guard_sql.specs.declared.store.GuardStore.{GuardStore}
use Rattle.guard_sql.specs.Keeping.{Keeps, Leaves}
use Rattle.files.specs.declared.ending.EndFault.{EndFault}
use Rattle.files.specs.declared.ending.EndFault.TheVariants.{GivenUp, Uncopied}
use Rattle.files.specs.Images.{HoldsNone}
use Rattle.station_jobs.specs.declared.station_fault.StationFault.{StationFault}
use Rattle.station_jobs.specs.declared.station_fault.StationFault.TheVariants.{Device, NoMemory}
use Rattle.guard_sql.specs.Images.{HoldsKept}
use Rattle.sshstation.specs.declared.database_files.DatabaseFiles.{DatabaseFiles}
use Rattle.sshstation.specs.declared.database_files.DatabaseFiles.TheVariants as now
use Rattle.sshstation.specs.DatabaseFiles.{AreLeftAs}
use Rattle.sshstation.specs.GuardFiles.{AreSettled, EndsGuard, FindsGuard, HaveGuard, HaveOne, IsOfFiles, IsOfSearch}
use Rattle.sshstation.specs.GuardFiles.{MakesGuard}

-- a success isn't a fault
pub is_no_fault : {X E : Type 0} (x : X) (e : E) → Ok x ≡ Err e → ⊥
is_no_fault x e same = absurd cc

-- ---- why there is no guard

pub files_searched : (e : StationFault) → IsOfFiles e → IsOfSearch e
files_searched Device h = tt
files_searched NoMemory h = tt
files_searched other h = absurd h

module _ {D : Type 0} {g : Ghosts D} where
  -- what a guard over files keeps and what a crash leaves of it
  abbrev StoresFiles : GuardStore (FileStore D g) → State → Type 0
  StoresFiles guard s =
      ((guard.scope ≡ s.scope) × Keeps (file_state guard.conn) s) × Leaves (file_state guard.conn) s s

  pub found_stores : (image : Image) (guard : GuardStore (FileStore D g)) → FindsGuard image guard
      → HasCleanDisk (file_state guard.conn) → (s : State) → HoldsKept image s → StoresFiles guard s
  found_stores image guard it clean s held =
      let is = it.found clean s held.0 (it.files.held (it.honest clean) s held.1) in
      ((is.0, is.1.keeps), is.1.crash)

  pub made_stores : (image : Image) (scope : Scope) (guard : GuardStore (FileStore D g)) → MakesGuard image scope guard
      → HasCleanDisk (file_state guard.conn) → HoldsNone image → StoresFiles guard (opened scope)
  made_stores image scope guard it clean none =
      let is = it.0.found clean (it.0.files.blank (it.0.honest clean) none) in
      ((it.1, is.keeps), is.crash)

  pub ended_honest : (guard : GuardStore (FileStore D g)) (done : Result (Unit {0}) StationFault)
      (how : Result (Unit {0}) EndFault) (files : Files D) → EndsGuard guard done (how, files)
      → AreSettled guard (how, files) → HasCleanDisk (file_state guard.conn)
  ended_honest guard done (Ok x) files ends settled = (ends.0 settled.0).0.was_clean
  ended_honest guard done (Err (GivenUp error)) files ends settled = (ends.0 settled.0).0
  ended_honest guard done (Err (Uncopied error)) files ends settled = absurd settled.1

  pub ends_honest : {S : Type 0} (guard : GuardStore (FileStore D g)) (done : Result (Unit {0}) StationFault)
      (files : DatabaseFiles S D) → AreLeftAs files (EndsGuard guard done) → AreLeftAs files (AreSettled guard)
      → HasCleanDisk (file_state guard.conn)
  ends_honest guard done (now.Left left) ends settled = ended_honest guard done left.0 left.1 ends settled
  ends_honest guard done other ends settled = absurd ends

  closed_has : (guard : GuardStore (FileStore D g)) (how : Result (Unit {0}) EndFault) (files : Files D)
      → EndsGuard guard (Ok tt) (how, files) → AreSettled guard (how, files) → (s : State)
      → (guard.scope ≡ s.scope) × Keeps (file_state guard.conn) s → HaveGuard guard s (how, files)
  closed_has guard (Ok x) files ends settled s keeps = λ image may.
      (keeps.1.guard, (ends.0 settled.0).1 s keeps.1 image may)
  closed_has guard (Err (GivenUp error)) files ends settled s keeps = let no = ends.1 in absurd cc
  closed_has guard (Err (Uncopied error)) files ends settled s keeps = absurd settled.1

  pub closes_have : {S : Type 0} (guard : GuardStore (FileStore D g)) (files : DatabaseFiles S D)
      → AreLeftAs files (EndsGuard guard (Ok tt)) → AreLeftAs files (AreSettled guard) → (s : State)
      → (guard.scope ≡ s.scope) × Keeps (file_state guard.conn) s → AreLeftAs files (HaveGuard guard s)
  closes_have guard (now.Left left) ends settled s keeps = closed_has guard left.0 left.1 ends settled s keeps
  closes_have guard other ends settled s keeps = absurd ends

  given_up_has : (guard : GuardStore (FileStore D g)) (e : StationFault) (how : Result (Unit {0}) EndFault)
      (files : Files D) → EndsGuard guard (Err e) (how, files) → AreSettled guard (how, files) → (s t : State)
      → (guard.scope ≡ s.scope) × Keeps (file_state guard.conn) s → Leaves (file_state guard.conn) s t
      → HaveOne guard s t (how, files)
  given_up_has guard e (Ok x) files ends settled s t keeps leaves = let no = ends.1 in absurd cc
  given_up_has guard e (Err (GivenUp error)) files ends settled s t keeps leaves =
      (keeps.1.guard, (ends.0 settled.0).1 s t leaves)
  given_up_has guard e (Err (Uncopied error)) files ends settled s t keeps leaves = absurd settled.1

  pub given_up_have : {S : Type 0} (guard : GuardStore (FileStore D g)) (e : StationFault) (files : DatabaseFiles S D)
      → AreLeftAs files (EndsGuard guard (Err e)) → AreLeftAs files (AreSettled guard) → (s t : State)
      → (guard.scope ≡ s.scope) × Keeps (file_state guard.conn) s → Leaves (file_state guard.conn) s t
      → AreLeftAs files (HaveOne guard s t)
  given_up_have guard e (now.Left left) ends settled s t keeps leaves =
      given_up_has guard e left.0 left.1 ends settled s t keeps leaves
  given_up_have guard e other ends settled s t keeps leaves = absurd ends
