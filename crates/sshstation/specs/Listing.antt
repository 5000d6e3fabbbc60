-- The effect of the words on the files of a guard of lists: a job over them is a run in their lifetime.
use Rattle.std.specs.Prelude.{◌≡◌, ◌⊎◌, ℕ, List, Option, map, string_bytes}
use Rattle.sqlite_disk.specs.declared.Disk.{Ghosts}
use Rattle.sqlite_wal.specs.Recovery.{Image}
use Rattle.sqlite_wal.specs.Files.{outcomes}
use Rattle.sqlite_wal.specs.Reads.{AreClean}
use Rattle.command_line.specs.declared.words_fault.WordsFault.{WordsFault}
use Rattle.station_command.specs.declared.job.StationJob.{StationJob}
use Rattle.station_command.specs.declared.job.StationJob.TheVariants.{List as Listed}
use Rattle.station_command.specs.Answers.{IsFaultOf, Names}
use Rattle.list_guard.specs.State.{Question}
use Rattle.list_jobs.specs.Asking.{Asks}
use Rattle.station_jobs.specs.declared.surroundings.Surroundings as surroundings
use Rattle.list_sql.specs.Lives.{Said}
use Rattle.list_sql.specs.Runs.{RunsOn}
use Rattle.sshstation.specs.declared.database_files.DatabaseFiles.{DatabaseFiles}
use Rattle.sshstation.specs.DatabaseFiles.{AreGivenBack, AreUnopened, Ended}
use Rattle.sshstation.specs.GuardFiles.{IsWhole}

-- The files are left like this. If the disk has returned what was written, and the log was copied or copying it had not
-- begun, the job was a run in the lifetime of the files.
abbrev pub IsListed : {D : Type 0} (g : Ghosts D) → Image → Said → Ended D → Type 0
IsListed g image said left =
    AreClean g left.1.log left.1.db → IsWhole left.0 → RunsOn image said (outcomes g left.1.log left.1.db)

-- nothing was printed about a list
abbrev pub IsSilent : Said → Type 0
IsSilent (Said.judging q held holds) = holds ≡ held
IsSilent Said.none = Unit {0}

-- The job never had the files, and was silent like this. If they are left as they were, it was a run in their lifetime,
-- which judged no list.
abbrev pub Idles : Image → (Silent : Type 0) → Type 0
Idles image Silent = Silent × RunsOn image Said.none (λ left. left ≡ image)

-- a job that judges a list has printed nothing
abbrev pub PrintsNone : StationJob → (held holds : Option (List ℕ)) → Type 0
PrintsNone (Listed words) held holds = holds ≡ held
PrintsNone other held holds = Unit {0}

-- the output of a job about lists: only one that judges a list prints a line about one, by the question of its files
module _ {E F : Type 0} (world : surroundings.Ghosts E F) (around : E) (remaining : F → Option (List ℕ)) where
  abbrev pub Prints : StationJob → (held holds : Option (List ℕ)) → Said → Type 0
  Prints (Listed words) held holds said =
      (q : Question)
      × Asks world around remaining (map string_bytes words.cas.items) words.begins (string_bytes words.list) q
      × (said ≡ Said.judging q held holds)
  Prints other held holds said = said ≡ Said.none

  -- how the connection to the files of a guard of lists ended, and the files, after a job
  abbrev pub IsListedBy : {D : Type 0} (g : Ghosts D) → Image → StationJob → (held holds : Option (List ℕ))
      → Ended D → Type 0
  IsListedBy g image job held holds left = (said : Said) × Prints job held holds said × IsListed g image said left

  -- The words name a job, which was such a run if it opened the files of a guard of lists, or if it never had them and
  -- left them as they were. Or they name none, and the files are unopened.
  abbrev pub AreListed : {D S : Type 0} (g : Ghosts D) → Image → (value : S) → (words : List (List ℕ))
      → (held holds : Option (List ℕ)) → DatabaseFiles S D → Type 0
  AreListed g image value words held holds files =
      ((job : StationJob) × Names words job
      × AreGivenBack g image value (Idles image (PrintsNone job held holds)) (IsListedBy g image job held holds) files)
      ⊎ ((fault : WordsFault) × IsFaultOf words fault × AreUnopened value files)
