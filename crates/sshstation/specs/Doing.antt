-- What each job does with the files that it names and with the guard in a database, and the result for the words of a
-- command line.
use Rattle.std.specs.Prelude.{◌≡◌, ◌⊎◌, ◌≢◌, ℕ, List, Bool, IfErr, IfSome, IsErrAnd, OnOk, Option, Result, Ok, Err}
use Rattle.std.specs.Prelude.{false, map, string_bytes}
use Rattle.guard.specs.declared.register.Register as register
use Rattle.guard.specs.declared.scope.Scope.{Scope}
use Rattle.guard.specs.Policies.{policy_at}
use Rattle.command_line.specs.declared.words_fault.WordsFault.{WordsFault}
use Rattle.command_line.specs.declared.words_fault.WordsFault.TheVariants.{BadWords, Help, NoMemory}
use Rattle.station_command.specs.declared.job.StationJob.{StationJob}
use Rattle.station_command.specs.declared.job.StationJob.TheVariants.{Bodies, Body, Init, Judge, Lists}
use Rattle.station_command.specs.declared.job.StationJob.TheVariants.{List as Listed, Policy, Retire}
use Rattle.station_command.specs.Answers.{IsFaultOf, Names}
use Rattle.list_guard.specs.declared.register.ListRegister as lister
use Rattle.list_jobs.specs.declared.list_file.ListFile as lists
use Rattle.list_jobs.specs.Jobs.{InitsIn as MakesLists, ListsIn}
use Rattle.station_jobs.specs.declared.guard_file.GuardFile as file
use Rattle.station_jobs.specs.declared.station_fault.StationFault.{StationFault}
use Rattle.station_jobs.specs.declared.station_fault.StationFault.TheVariants.{BadPolicy, Write}
use Rattle.station_jobs.specs.declared.station_fault.StationFault.TheVariants as fault
use Rattle.station_jobs.specs.declared.surroundings.Surroundings as surroundings
use Rattle.station_jobs.specs.Bodies.{PrintsBody, PrintsRows}
use Rattle.station_jobs.specs.Faults.{IsOfAFile, IsOfAPrintedPolicy}
use Rattle.station_jobs.specs.Jobs.{InitsIn, LowersIn, Prints}
use Rattle.station_jobs.specs.Leaving.{OfNone}
use Rattle.station_jobs.specs.Names.{fault_line}
use Rattle.station_jobs.specs.Policy.{PrintsFirstNames, PrintsNames}
use Rattle.station_jobs.specs.Whole.{Begins, Follows, JudgesIn, RunsIn, is_input}
use Rattle.sshstation.specs.Ending.{result_line, status}

-- What is printed if the arguments name no job, and the status: the text that they ask for, to the output; or to the
-- second output, for which `Told` says which text it takes, clap's text about invalid arguments, or a fault's line.
abbrev pub Declines : WordsFault → (held holds : Option (List ℕ)) → (Told : List ℕ → Type 0) → (answered : ℕ) → Type 0
Declines (Help text) held holds Told answered =
    (shown : Result (Unit {0}) StationFault) × Prints (string_bytes text) held holds shown × Told (result_line shown)
    × (answered ≡ status shown)
Declines (BadWords text) held holds Told answered = (holds ≡ held) × Told (string_bytes text) × (answered ≡ 2)
Declines NoMemory held holds Told answered = (holds ≡ held) × Told (fault_line fault.NoMemory) × (answered ≡ 1)

-- whether the job reads bodies from the input
abbrev pub reads_input : StationJob → Bool
reads_input (Judge j) = is_input (map string_bytes j.bodies.items)
reads_input other = false

-- the arguments name no job that reads the input
abbrev pub LeaveInput : (words : List (List ℕ)) → Type 0
LeaveInput words = (job : StationJob) → Names words job → reads_input job ≡ false

-- Files are found by their paths; `remaining` is what can be read from a file.
module _ {E F : Type 0} (world : surroundings.Ghosts E F) (around : E) (remaining : F → Option (List ℕ)) where
  -- the scope with the key in a file at the path, or why there is none
  abbrev pub BeginsAt : (path : List ℕ) → (first last : ℕ) → Result Scope StationFault → Type 0
  BeginsAt path first last scope =
      ((file : F) × world.has around path file × Begins (remaining file) first last scope) ⊎ IsErrAnd scope IsOfAFile

  -- The names of the departments in a file at the path are printed. Or the file isn't a policy, and nothing is
  -- printed. Only if the output failed, a prefix of the names may have been printed.
  pub record PrintsPolicyOf (file : F) (held holds : Option (List ℕ)) (result : Result (Unit {0}) StationFault)
      : Type 0 where
    pub ok : OnOk result (IfSome (remaining file) (λ bytes. PrintsNames bytes held holds))
    pub bad : (line : ℕ) → result ≡ Err (BadPolicy line) → IfSome (remaining file) (λ bytes. policy_at bytes ≡ Err line)
    pub only : IfErr result IsOfAPrintedPolicy
    pub silent : IfErr result (λ e. e ≢ Write → holds ≡ held)
    pub cut : result ≡ Err Write → IfSome (remaining file) (λ bytes. PrintsFirstNames bytes held holds)

  abbrev pub PrintsPolicyAt : (path : List ℕ) → (held holds : Option (List ℕ)) → Result (Unit {0}) StationFault → Type 0
  PrintsPolicyAt path held holds result =
      ((file : F) × world.has around path file × PrintsPolicyOf file held holds result)
      ⊎ (IsErrAnd result IsOfAFile × (holds ≡ held))

  -- `file` says how a guard's database is made, opened and closed. It is `db` before the job, and `db'` after it.
  module _ {D G : Type 0} (guard : register.Ghosts G) (file : file.Ghosts D G) (db db' : D) where
    -- the guard with the key in the file was made; or the file has no key, and nothing was made or printed
    pub record InitsAt (path ca : List ℕ) (first last : ℕ) (held holds : Option (List ℕ))
        (result : Result (Unit {0}) StationFault) : Type 0 where
      pub scope : Result Scope StationFault
      pub begins : BeginsAt ca first last scope
      pub made : Follows (λ scope. InitsIn guard file db db' path scope held holds) ((db' ≡ db) × (holds ≡ held)) scope
          result

    -- the whole job was done, with this result
    abbrev pub DoesJob : StationJob → (input held holds : Option (List ℕ)) → Result (Unit {0}) StationFault → Type 0
    DoesJob (Init path ca first last) input held holds result =
        InitsAt (string_bytes path) (string_bytes ca) first last held holds result
    DoesJob (Judge j) input held holds result =
        JudgesIn world around remaining guard file db db' (string_bytes j.db) (string_bytes j.policy) j.ahead
        (map string_bytes j.bodies.items) input held holds result
    DoesJob (Bodies path) input held holds result =
        RunsIn guard file db db' (string_bytes path) OfNone
        (λ s Left r. PrintsRows s Left held holds r) (holds ≡ held) result
    DoesJob (Body path serial) input held holds result =
        RunsIn guard file db db' (string_bytes path) OfNone
        (λ s Left r. PrintsBody s serial held holds r × Left s r) (holds ≡ held) result
    DoesJob (Policy path) input held holds result =
        PrintsPolicyAt (string_bytes path) held holds result × (db' ≡ db)
    DoesJob (Retire path last) input held holds result =
        LowersIn guard file db db' (string_bytes path) last held holds result
    DoesJob (Lists path) input held holds result = db' ≡ db
    DoesJob (Listed words) input held holds result = db' ≡ db

    -- The same for a file with a guard of lists, which only the jobs on lists open.
    module _ {L K : Type 0} (keeper : lister.Ghosts K) (file_of : lists.Ghosts L K) (l l' : L) where
      abbrev pub DoesList : StationJob → (held holds : Option (List ℕ)) → Result (Unit {0}) StationFault → Type 0
      DoesList (Lists path) held holds result = MakesLists file_of l l' (string_bytes path) held holds result
      DoesList (Listed words) held holds result =
          ListsIn world around remaining keeper file_of l l' (string_bytes words.db) (map string_bytes words.cas.items)
          words.begins (string_bytes words.list) held holds result
      DoesList other held holds result = l' ≡ l

      -- The job that the words name was done, its status returned, and its fault told, if there is one. Or they name
      -- none, and no database was opened.
      abbrev pub DoesWords : (words : List (List ℕ)) → (input held holds : Option (List ℕ)) → (Told : List ℕ → Type 0)
          → (answered : ℕ) → Type 0
      DoesWords words input held holds Told answered =
          ((job : StationJob) × (result : Result (Unit {0}) StationFault) × Names words job
          × DoesJob job input held holds result × DoesList job held holds result × Told (result_line result)
          × (answered ≡ status result))
          ⊎ ((fault : WordsFault) × IsFaultOf words fault × (db' ≡ db) × (l' ≡ l)
          × Declines fault held holds Told answered)
