-- What each job does with the guard in a file, from opening it to closing it.
use Rattle.std.specs.Prelude.{◌≡◌, ◌⊎◌, ℕ, List, Bool, IsTrue, false, map, string_bytes, Option, Result, Ok}
use Rattle.std.specs.Prelude.{Err}
use Rattle.std.specs.Io.KnownBytes.{Appends}
use Rattle.wire.specs.Streams.{AppendsBeginning}
use Rattle.values.specs.Serials.{are_serials}
use Rattle.guard.specs.declared.register.Register as register
use Rattle.guard.specs.declared.scope.Scope.{Scope}
use Rattle.station_jobs.specs.declared.guard_file.GuardFile as file
use Rattle.station_jobs.specs.declared.job.GuardJob.{GuardJob}
use Rattle.station_jobs.specs.declared.job.GuardJob.TheVariants.{Init, Judge, Bodies, Body, Retire}
use Rattle.station_jobs.specs.declared.surroundings.Surroundings as surroundings
use Rattle.station_jobs.specs.declared.station_fault.StationFault.{StationFault}
use Rattle.station_jobs.specs.declared.station_fault.StationFault.TheVariants.{NoMemory, Write}
use Rattle.station_jobs.specs.Bodies.{PrintsBody, PrintsRows}
use Rattle.station_jobs.specs.Leaving.{OfNone, OfRetiring}
use Rattle.station_jobs.specs.Whole.{Follows, JudgesIn, MakesIn, Retires, RunsIn, is_input, ready_text, retired_text}

-- a guard is only made with valid serials
abbrev pub IsLawful : GuardJob → Type 0
IsLawful (Init scope) = IsTrue (are_serials scope.first scope.last)
IsLawful other = Unit {0}

-- whether the job reads bodies from the input
abbrev pub reads_input : GuardJob → Bool
reads_input (Judge j) = is_input (map string_bytes j.bodies.now)
reads_input other = false

-- this was printed; or a prefix of it, and the output failed or memory was refused
abbrev pub Prints : (told : List ℕ) → (held holds : Option (List ℕ)) → Result (Unit {0}) StationFault → Type 0
Prints told held holds (Ok done) = Appends held holds told
Prints told held holds (Err e) = ((e ≡ Write) ⊎ (e ≡ NoMemory)) × AppendsBeginning held holds told

-- `file` says how a file is made, opened and closed. `db` is the file before the job, and `db'` the file after it.
module _ {D G : Type 0} (guard : register.Ghosts G) (file : file.Ghosts D G) (db db' : D) (path : List ℕ) where
  -- the guard was made, and the text about it was printed
  pub record InitsIn (scope : Scope) (held holds : Option (List ℕ)) (result : Result (Unit {0}) StationFault)
      : Type 0 where
    pub made : Result (Unit {0}) StationFault
    pub is_made : MakesIn guard file db db' path scope made
    pub told : Follows (λ _. Prints (ready_text scope) held holds) (holds ≡ held) made result

  -- the last serial was lowered, and the text about it was printed
  pub record LowersIn (last : ℕ) (held holds : Option (List ℕ)) (result : Result (Unit {0}) StationFault)
      : Type 0 where
    pub lowered : Result ℕ StationFault
    pub is_lowered : RunsIn guard file db db' path (OfRetiring last) (Retires last) (Unit {0}) lowered
    pub told : Follows (λ first. Prints (retired_text first last) held holds) (holds ≡ held) lowered result

-- the whole job was done, with this result
abbrev pub RunsJob : {E F D G : Type 0} → surroundings.Ghosts E F → E → (remaining : F → Option (List ℕ))
    → register.Ghosts G → file.Ghosts D G → (db db' : D) → (path : List ℕ) → GuardJob
    → (input held holds : Option (List ℕ)) → Result (Unit {0}) StationFault → Type 0
RunsJob world around remaining guard file db db' path (Init scope) input held holds result =
    InitsIn guard file db db' path scope held holds result
RunsJob world around remaining guard file db db' path (Judge j) input held holds result =
    JudgesIn world around remaining guard file db db' path j.policy.now j.ahead (map string_bytes j.bodies.now) input
    held holds result
RunsJob world around remaining guard file db db' path Bodies input held holds result =
    RunsIn guard file db db' path OfNone (λ s Left r. PrintsRows s Left held holds r) (holds ≡ held) result
RunsJob world around remaining guard file db db' path (Body serial) input held holds result =
    RunsIn guard file db db' path OfNone (λ s Left r. PrintsBody s serial held holds r × Left s r) (holds ≡ held)
    result
RunsJob world around remaining guard file db db' path (Retire last) input held holds result =
    LowersIn guard file db db' path last held holds result
