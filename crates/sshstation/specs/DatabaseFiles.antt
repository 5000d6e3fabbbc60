-- The files of a database: they weren't opened, or what became of them.
use Rattle.std.specs.Prelude.{◌≡◌, None, Result}
use Rattle.sqlite_disk.specs.declared.Disk.{Ghosts}
use Rattle.sqlite_disk.specs.declared.Files.{Files}
use Rattle.sqlite_wal.specs.Recovery.{Image}
use Rattle.files.specs.declared.ending.EndFault.{EndFault}
use Rattle.files.specs.Opening.{FailsToOpen}
use Rattle.sshstation.specs.declared.database_files.DatabaseFiles.{DatabaseFiles}
use Rattle.sshstation.specs.declared.database_files.DatabaseFiles.TheVariants.{Connected, Failed, Left, Unopened}

-- how the connection to files ended, and the files as they were left
abbrev pub Ended : Type 0 → Type 0
Ended D = Result (Unit {0}) EndFault × Files D

module _ {D S : Type 0} where
  -- No open was tried. This value represents what the files hold, and an open would have used it up.
  abbrev pub AreUnopened : S → DatabaseFiles S D → Type 0
  AreUnopened value files = files ≡ Unopened value

  -- the files were opened, and are left like this
  abbrev pub AreLeftAs : DatabaseFiles S D → (Ended D → Type 0) → Type 0
  AreLeftAs (Left ended) Is = Is ended
  AreLeftAs other Is = ⊥

  -- What became of files that held `image`: exactly one of these. They weren't opened, and the value that represents
  -- what they hold is still there. Or an open has failed, and left them as its fault says. Or they were opened, are
  -- closed or abandoned, and are left like this. `Idles` holds if they never were in the job's hands: it didn't try to
  -- open them, or the open didn't get them.
  abbrev pub AreGivenBack : Ghosts D → Image → (value : S) → (Idles : Type 0) → (Is : Ended D → Type 0)
      → DatabaseFiles S D → Type 0
  AreGivenBack g image value Idles Is (Unopened still) = (still ≡ value) × Idles
  AreGivenBack g image value Idles Is Connected = ⊥
  AreGivenBack g image value Idles Is (Failed fault) = FailsToOpen g image fault × (fault.files ≡ None → Idles)
  AreGivenBack g image value Idles Is (Left ended) = Is ended
