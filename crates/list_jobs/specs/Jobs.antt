-- Whole jobs, from opening a list guard's file to closing it.
use Rattle.std.specs.Prelude.{◌≡◌, ◌⊎◌, ℕ, List, Bool, codes, map, string_bytes, IfErr, Option, Result, Ok, Err}
use Rattle.list_guard.specs.declared.register.ListRegister as register
use Rattle.list_guard.specs.Machine.{Question}
use Rattle.list_jobs.specs.declared.job.ListJob.{ListJob}
use Rattle.list_jobs.specs.declared.job.ListJob.TheVariants.{Init, List as Lists}
use Rattle.list_jobs.specs.declared.list_file.ListFile as file
use Rattle.station_jobs.specs.declared.surroundings.Surroundings as surroundings
use Rattle.station_jobs.specs.declared.station_fault.StationFault.{StationFault}
use Rattle.station_jobs.specs.declared.station_fault.StationFault.TheVariants.{Write}
use Rattle.list_jobs.specs.Asking.{Asks, IsFaultOf}
use Rattle.list_jobs.specs.Stating.{IsPrinted, States}

-- Two steps: the second used the result of the first. If the first failed, its fault is the result of both.
abbrev pub Follows : {A : Type 0} → (Used : A → Result (Unit {0}) StationFault → Type 0) → (Nothing : Type 0)
    → Result A StationFault → Result (Unit {0}) StationFault → Type 0
Follows Used Nothing (Ok x) result = Used x result
Follows Used Nothing (Err e) result = (result ≡ Err e) × Nothing

-- A fault of the job comes first. If the job succeeded, a fault of the closing is the result.
abbrev pub closed : (done closing : Result (Unit {0}) StationFault) → Result (Unit {0}) StationFault
closed (Err e) closing = Err e
closed (Ok done) closing = closing

-- A job over the file at the path `at`, which is `db` before it and `db'` after it.
module _ {D G : Type 0} (file : file.Ghosts D G) (db db' : D) (at : List ℕ) where
  -- this was done over the guard, which was then closed
  pub record RunsOver (Did : G → G → Result (Unit {0}) StationFault → Type 0) (opened : D) (guard : G)
      (result : Result (Unit {0}) StationFault) : Type 0 where
    pub outcome : Result (Unit {0}) StationFault
    pub last : G
    pub did : Did guard last outcome
    pub closing : Result (Unit {0}) StationFault
    pub is_closed : file.closes opened last closing db'
    pub came : result ≡ closed outcome closing

  -- The guard was opened once, and this was done over it. Or it couldn't be opened, and nothing was done.
  pub record RunsIn (Did : G → G → Result (Unit {0}) StationFault → Type 0) (Nothing : Type 0)
      (result : Result (Unit {0}) StationFault) : Type 0 where
    pub found : Result G StationFault
    pub opened : D
    pub is_opened : file.opens db at found opened
    pub ran : Follows (RunsOver Did opened) ((db' ≡ opened) × Nothing) found result

  -- a list guard was made, and closed
  pub record MakesIn (result : Result (Unit {0}) StationFault) : Type 0 where
    pub found : Result G StationFault
    pub opened : D
    pub is_made : file.makes db at found opened
    pub ran : Follows (λ guard r. file.closes opened guard r db') (db' ≡ opened) found result

  -- it was made, and this was reported, or a prefix of it if the output failed
  pub record InitsIn (held holds : Option (List ℕ)) (result : Result (Unit {0}) StationFault) : Type 0 where
    pub made : Result (Unit {0}) StationFault
    pub is_made : MakesIn made
    pub told : Follows (λ _ r. IsPrinted (codes "lists ready\n") held holds r × IfErr r (λ e. e ≡ Write))
        (holds ≡ held) made result

-- the question was read from these files, or it is a fault of reading them
abbrev pub IsRead : {E F : Type 0} → surroundings.Ghosts E F → E → (remaining : F → Option (List ℕ))
    → (cas : List (List ℕ)) → Bool → (path : List ℕ) → Result Question StationFault → Type 0
IsRead world around remaining cas begins path (Ok q) = Asks world around remaining cas begins path q
IsRead world around remaining cas begins path (Err e) = IsFaultOf world around remaining cas e

-- The question was read, and then the guard was opened and the list judged. Or the question couldn't be read, and then
-- no guard was looked for or opened, and nothing was printed.
pub record ListsIn {E F D G : Type 0} (world : surroundings.Ghosts E F) (around : E) (remaining : F → Option (List ℕ))
    (guard : register.Ghosts G) (file : file.Ghosts D G) (db db' : D) (at : List ℕ) (cas : List (List ℕ))
    (begins : Bool) (path : List ℕ) (held holds : Option (List ℕ)) (result : Result (Unit {0}) StationFault)
    : Type 0 where
  pub asked : Result Question StationFault
  pub read : IsRead world around remaining cas begins path asked
  pub judged : Follows
      (λ q. RunsIn file db db' at (States world around guard q held holds) (holds ≡ held))
      ((db' ≡ db) × (holds ≡ held)) asked result

-- the whole job was done, with this result
abbrev pub RunsJob : {E F D G : Type 0} → surroundings.Ghosts E F → E → (remaining : F → Option (List ℕ))
    → register.Ghosts G → file.Ghosts D G → (db db' : D) → (at : List ℕ) → ListJob → (held holds : Option (List ℕ))
    → Result (Unit {0}) StationFault → Type 0
RunsJob world around remaining guard file db db' at Init held holds result = InitsIn file db db' at held holds result
RunsJob world around remaining guard file db db' at (Lists l) held holds result =
    ListsIn world around remaining guard file db db' at (map string_bytes l.cas.now) l.begins l.list.now held holds
    result
