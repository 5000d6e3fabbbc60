-- The effect of the words over the files of a database: a job over the files of a guard is a run in their lifetime.
use Rattle.std.specs.Prelude.{◌≡◌, ◌⊎◌, ℕ, List, map, Option, Ok, string_bytes}
use Rattle.sqlite_disk.specs.declared.Disk.{Ghosts}
use Rattle.sqlite_wal.specs.Recovery.{Image}
use Rattle.sqlite_wal.specs.Files.{outcomes}
use Rattle.sqlite_wal.specs.Reads.{AreClean}
use Rattle.sqlite_store.specs.declared.store.FileStore.{FileStore}
use Rattle.command_line.specs.declared.words_fault.WordsFault.{WordsFault}
use Rattle.station_command.specs.declared.job.StationJob.{StationJob}
use Rattle.station_command.specs.declared.job.StationJob.TheVariants.{Init, Judge, Retire}
use Rattle.station_command.specs.Answers.{IsFaultOf, Names}
use Rattle.guard.specs.declared.register.Register as register
use Rattle.guard_sql.specs.declared.store.GuardStore.{GuardStore}
use Rattle.list_guard.specs.declared.register.ListRegister as lister
use Rattle.list_jobs.specs.declared.list_file.ListFile as lists
use Rattle.list_sql.specs.declared.store.ListStore.{ListStore}
use Rattle.station_jobs.specs.declared.guard_file.GuardFile as file
use Rattle.station_jobs.specs.declared.surroundings.Surroundings as surroundings
use Rattle.station_jobs.specs.Judging.{AsksGiven}
use Rattle.station_jobs.specs.Whole.{Begins, is_input}
use Rattle.guard_sql.specs.Lives.{Said}
use Rattle.guard_sql.specs.Runs.{RunsOn}
use Rattle.guard_sql.specs.Steps.{Step}
use Rattle.sshstation.specs.Doing.{DoesWords}
use Rattle.sshstation.specs.declared.database_files.DatabaseFiles.{DatabaseFiles}
use Rattle.sshstation.specs.DatabaseFiles.{AreGivenBack, AreUnopened, Ended}
use Rattle.sshstation.specs.GuardFiles.{IsWhole}
use Rattle.sshstation.specs.Listing.{AreListed}

-- what a job says about unsigned certificates (bodies), by its output before and after it; only judging says anything
abbrev pub said_by : StationJob → (held holds : Option (List ℕ)) → Said
said_by (Judge words) held holds = Said.judging held holds
said_by other held holds = Said.none

-- The files are left like this. If the disk has returned what was written, and the log was copied or copying it had not
-- begun, the job was a run in the lifetime of the files, with steps of this sort.
abbrev pub IsLived : {D : Type 0} (g : Ghosts D) → Image → (May : Step → Type 0) → Said → Ended D → Type 0
IsLived g image May said left =
    AreClean g left.1.log left.1.db → IsWhole left.0 → RunsOn image May said (outcomes g left.1.log left.1.db)

-- The job never had the files. If they are left as they were, it was a run in their lifetime, without a step.
abbrev pub Idles : Image → Said → Type 0
Idles image said = RunsOn image (λ _. ⊥) said (λ left. left ≡ image)

module _ {E F : Type 0} (world : surroundings.Ghosts E F) (around : E) (remaining : F → Option (List ℕ)) where
  -- The steps that a job may take: a guard is made with the key in a file; it is asked about the content of a file, or
  -- about bytes from the input, by the policy in its file at that time; or it is retired to a last serial.
  abbrev pub MayTake : StationJob → Step → Type 0
  MayTake (Init path ca first last) (Step.making scope) =
      (file : F) × world.has around (string_bytes ca) file × Begins (remaining file) first last (Ok scope)
  MayTake (Judge j) (Step.asking q) =
      (given : List ℕ) × AsksGiven world around remaining (is_input (map string_bytes j.bodies.items))
      (string_bytes j.policy) j.ahead given q
  MayTake (Retire path last) (Step.retiring lower) = lower ≡ last
  MayTake job step = ⊥

  -- The words name a job, which was such a run if it opened the files of a guard, or if it never had them and left them
  -- as they were. Or they name none, and the files are unopened.
  abbrev pub AreLived : {D S : Type 0} (g : Ghosts D) → Image → (value : S) → (words : List (List ℕ))
      → (held holds : Option (List ℕ)) → DatabaseFiles S D → Type 0
  AreLived g image value words held holds files =
      ((job : StationJob) × Names words job
      × AreGivenBack g image value (Idles image (said_by job held holds))
      (IsLived g image (MayTake job) (said_by job held holds)) files)
      ⊎ ((fault : WordsFault) × IsFaultOf words fault × AreUnopened value files)

-- The effect of the words in a world. The files of a guard, `files_of` its database, held `image` and were unopened
-- before: `value` represented what they held. They are `files` afterwards. The names with `lists` are for a guard of
-- lists. `input` is what can be read from the input, and the output had `held` before and has `holds` afterwards.
-- `Told` says which text the second output has taken.
pub record RunsWords {E F D L H M S T : Type 0} {g : Ghosts H} {h : Ghosts M} (world : surroundings.Ghosts E F)
    (around : E) (remaining : F → Option (List ℕ)) (guard : register.Ghosts (GuardStore (FileStore H g)))
    (file : file.Ghosts D (GuardStore (FileStore H g))) (keeper : lister.Ghosts (ListStore (FileStore M h)))
    (file_of : lists.Ghosts L (ListStore (FileStore M h))) (files_of : D → DatabaseFiles S H)
    (lists_of : L → DatabaseFiles T M) (value : S) (lists_value : T) (image lists_image : Image)
    (files : DatabaseFiles S H) (lists_files : DatabaseFiles T M) (words : List (List ℕ))
    (input held holds : Option (List ℕ)) (Told : List ℕ → Type 0) (answered : ℕ)
    : Type 0 where
  pub before : D
  pub after : D
  pub lists_before : L
  pub lists_after : L
  pub is_new : AreUnopened value (files_of before)
  pub are_new : AreUnopened lists_value (lists_of lists_before)
  pub is_left : files_of after ≡ files
  pub are_left : lists_of lists_after ≡ lists_files
  pub does : DoesWords world around remaining guard file before after keeper file_of lists_before lists_after words
      input held holds Told answered
  pub lived : AreLived world around remaining g image value words held holds files
  pub listed : AreListed world around remaining h lists_image lists_value words held holds lists_files
