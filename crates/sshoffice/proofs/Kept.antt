-- The facts that hold of databases in files.
use Rattle.std.proofs.Common.{Result, Ok, Err, refl, subst, sym, ◌≡◌}
use Rattle.std.specs.Prelude.{IfOk}
use Rattle.sqlite_disk.specs.declared.Disk.{Ghosts}
use Rattle.sqlite_disk.specs.declared.Files.{Files}
use Rattle.sqlite_wal.specs.Recovery.{Image}
use Rattle.sqlite_store.specs.declared.store.FileStore.{FileStore}
use Rattle.sqlite.specs.declared.error.Error.{Error}
use Rattle.sqlite.specs.Held.{Held}
use Rattle.sqlite.specs.State.{HasCleanDisk}
use Rattle.sqlite.specs.Files.{file_state, over_files}
use Rattle.restart.proofs.Left.{run_keeps_office}
use Rattle.files.specs.declared.ending.EndFault.{EndFault}
use Rattle.restart.specs.Ending.{IsEnd}
use Rattle.restart.specs.Lives.{Asked, End}
use Rattle.restart.specs.Runs.{AreRuns, DoesOver, KeepsOffice}
use Rattle.sshoffice.specs.declared.database_files.DatabaseFiles.{DatabaseFiles}
use Rattle.sshoffice.specs.declared.database_files.DatabaseFiles.TheVariants.{Connected, Failed, Left, Unopened}
use Rattle.sshoffice.specs.DatabaseFiles.{AreCleanOf, AreGivenBack, AreLeftAs, ClosesFiles, MayBecome, OpensFiles}
use Rattle.sshoffice.specs.DatabaseFiles.{OpensOnce}
use Rattle.office_jobs.specs.Whole.{Adds, IsReady}

module _ {D : Type 0} {g : Ghosts D} (image : Image) where
  files_ready : (conn : Held (FileStore D g)) → OpensFiles image conn → IsReady over_files conn
  files_ready conn it = record {
    outside = it.new.autocommit;
    unlimited = it.new.unlimited;
    rests = λ clean. let opens = (it.opened clean).0 in (opens.is_open, (opens.autocommit, opens.clean));
  }

  files_end_well : (conn last : Held (FileStore D g)) (closing : Result (Unit {0}) EndFault) (end : End)
      (files : Files D) → OpensFiles image conn → ClosesFiles last closing files → IsEnd closing end
      → AreCleanOf last files
      → HasCleanDisk (file_state last)
      × ((asked : Asked) → DoesOver over_files asked conn last → AreRuns image asked end (MayBecome last files))
  files_end_well conn last closing end files found closes is clean =
      let ended = closes.runs clean end is in (
        ended.0,
        λ asked did. ended.1 image asked conn (λ now. record {
          opened = found.opened now;
          told = found.told now;
          blank = found.blank now;
        }) did,
      )

module _ {S D : Type 0} {g : Ghosts D} (image : Image) where
  -- ---- when they are opened

  -- a connection that was opened
  pub files_opened : (before after : DatabaseFiles S D) (conn : Held (FileStore D g))
      → OpensOnce image before (Ok conn) after → OpensFiles image conn
  files_opened (Unopened start) after conn opens = opens.0
  files_opened (Failed fault) after conn opens = absurd (let none = opens.0 in cc)
  files_opened Connected after conn opens = absurd (let none = opens.0 in cc)
  files_opened (Left files) after conn opens = absurd (let none = opens.0 in cc)

  pub files_found : (before after : DatabaseFiles S D) (found : Result (Held (FileStore D g)) Error)
      → OpensOnce image before found after → IfOk found (IsReady over_files)
  files_found before after (Ok conn) opens = files_ready image conn (files_opened before after conn opens)
  files_found before after (Err e) opens = tt

  -- ---- when their connection has ended

  pub files_keep : (before opened left : DatabaseFiles S D) (conn last : Held (FileStore D g))
      → OpensOnce image before (Ok conn) opened
      → Adds over_files conn last → AreLeftAs (ClosesFiles last (Ok tt)) left → AreLeftAs (AreCleanOf last) left
      → KeepsOffice image (λ after. AreLeftAs (λ files. MayBecome last files after) left)
  files_keep before opened (Left files) conn last opens adds closes clean =
      run_keeps_office files image conn last (files_opened before opened conn opens).told adds (closes.ended.1 clean)
  files_keep before opened (Unopened start) conn last opens adds closes clean = absurd closes
  files_keep before opened (Failed fault) conn last opens adds closes clean = absurd closes
  files_keep before opened Connected conn last opens adds closes clean = absurd closes

  pub files_end : (before opened left : DatabaseFiles S D) (conn last : Held (FileStore D g))
      (closing : Result (Unit {0}) EndFault) (end : End) → OpensOnce image before (Ok conn) opened
      → AreLeftAs (ClosesFiles last closing) left → IsEnd closing end → AreLeftAs (AreCleanOf last) left
      → HasCleanDisk (file_state last)
      × ((asked : Asked) → DoesOver over_files asked conn last
      → AreRuns image asked end (λ after. AreLeftAs (λ files. MayBecome last files after) left))
  files_end before opened (Left files) conn last closing end opens closes is clean =
      files_end_well image conn last closing end files (files_opened before opened conn opens) closes is clean
  files_end before opened (Unopened start) conn last closing end opens closes is clean = absurd closes
  files_end before opened (Failed fault) conn last closing end opens closes is clean = absurd closes
  files_end before opened Connected conn last closing end opens closes is clean = absurd closes

-- what becomes of them
module _ {S D : Type 0} (g : Ghosts D) (image : Image) (start : S) where
  -- this is the value that was given, and nobody opened them
  pub not_opened : (files : DatabaseFiles S D) → files ≡ Unopened start → AreGivenBack g image start files
  not_opened files same =
      subst (λ (files : DatabaseFiles S D). AreGivenBack g image start files) (sym same) refl

  -- an open of them failed
  pub not_openable : (before after : DatabaseFiles S D) (error : Error) → before ≡ Unopened start
      → OpensOnce {g = g} image before (Err error) after → AreGivenBack g image start after
  not_openable before after error same opens =
      let fails = subst (λ (files : DatabaseFiles S D). OpensOnce {g = g} image files (Err error) after) same opens in
      subst (λ (files : DatabaseFiles S D). AreGivenBack g image start files) (sym fails.1) fails.4

  -- their connection has ended
  pub were_left : (after : DatabaseFiles S D) (Way : Files D → Type 0) → AreLeftAs Way after
      → AreGivenBack g image start after
  were_left (Left files) Way left = tt
  were_left (Unopened value) Way left = absurd left
  were_left (Failed fault) Way left = absurd left
  were_left Connected Way left = absurd left
