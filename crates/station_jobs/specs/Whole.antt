-- Whole jobs, from opening a guard's file to closing it.
use Rattle.std.specs.Prelude.{◌≡◌, ◌<◌, ◌^◌, ◌++◌, ◌∷◌, [], ℕ, List, Bool, false, true, codes, decimal, bytes_eq}
use Rattle.std.specs.Prelude.{Option, Some, None, IfErr, IfSome, Result, Ok, Err}
use Rattle.lines.specs.Digests.{fingerprint_text}
use Rattle.station_jobs.specs.KeyFiles.{IsKeyFault, IsKeyText}
use Rattle.lines.specs.declared.key_line.KeyLine.{KeyLine}
use Rattle.message.specs.declared.department.Department.{Department}
use Rattle.guard.specs.declared.register.Register as register
use Rattle.guard.specs.declared.retiring.RetireFault.TheVariants as retiring
use Rattle.guard.specs.declared.scope.Scope.{Scope}
use Rattle.guard.specs.Machine.{State, Question, opened}
use Rattle.guard.specs.Retirement.{retirement}
use Rattle.guard.specs.Retiring.{with_last}
use Rattle.guard.specs.Scopes.{made_scope}
use Rattle.station_jobs.specs.declared.guard_file.GuardFile as file
use Rattle.station_jobs.specs.declared.policy_file.PolicyText.{PolicyText}
use Rattle.station_jobs.specs.declared.surroundings.Surroundings as surroundings
use Rattle.station_jobs.specs.declared.station_fault.StationFault.{StationFault}
use Rattle.station_jobs.specs.declared.station_fault.StationFault.TheVariants.{BadPolicy, BadSerials, SerialApproved}
use Rattle.station_jobs.specs.Faults.{IsOfAPolicy, IsOfARegister, IsOfBodies, IsOfJudging}
use Rattle.station_jobs.specs.Input.{JudgesInput}
use Rattle.station_jobs.specs.Judging.{AsksGiven, IsBadPolicyAt, IsPolicyAt, Judges}
use Rattle.station_jobs.specs.Leaving.{Leaves, OfBodies, OfNone, Outlasts, Step}
use Rattle.station_jobs.specs.Reported.{PassesOn}

-- ---- steps

-- Two steps: the second one used the result of the first. If the first one failed, its fault is the result of both.
abbrev pub Follows : {A B : Type 0} → (Used : A → Result B StationFault → Type 0) → (Nothing : Type 0)
    → Result A StationFault → Result B StationFault → Type 0
Follows Used Nothing (Ok x) result = Used x result
Follows Used Nothing (Err e) result = (result ≡ Err e) × Nothing

-- A fault of the job is kept; if the job succeeded, a fault of closing is returned.
abbrev pub closed : {A : Type 0} → Result A StationFault → (closing : Result (Unit {0}) StationFault)
    → Result A StationFault
closed (Err e) closing = Err e
closed (Ok x) (Ok done) = Ok x
closed (Ok x) (Err e) = Err e

-- ---- what the files of a guard keep

-- an open register keeps this state, and a crash leaves it too
abbrev pub Stores : {G : Type 0} → register.Ghosts G → G → State → Type 0
Stores guard g s = guard.keeps g s × guard.leaves g s s

module _ {D G : Type 0} (guard : register.Ghosts G) (file : file.Ghosts D G) where
  -- An opened guard is the one that the files held, and a new one has approved nothing yet. After a successful close
  -- the files hold what was kept, whatever a crash leaves of them. After a guard was abandoned, they hold what a crash
  -- left. All of this assumes a disk that has returned what was written.
  pub record KeepsFiles : Type 0 where
    pub opens : (db db' : D) (path : List ℕ) (g : G) → file.opens db path (Ok g) db' → guard.is_honest g
        → (s : State) → file.held s → Stores guard g s
    pub makes : (db db' : D) (path : List ℕ) (scope : Scope) (g : G) → file.makes db path scope (Ok g) db'
        → guard.is_honest g → file.is_blank → Stores guard g (opened scope)
    pub honest : (db db' : D) (g : G) (r : Result (Unit {0}) StationFault) → file.closes db g r db'
        → file.is_settled db' g → guard.is_honest g
    pub closes : (db db' : D) (g : G) → file.closes db g (Ok tt) db' → file.is_settled db' g
        → (s : State) → guard.keeps g s → file.has db' g s
    pub gives_up : (db db' : D) (g : G) (e : StationFault) → file.closes db g (Err e) db' → file.is_settled db' g
        → (s t : State) → guard.keeps g s → guard.leaves g s t → file.has_one db' g s t

  -- After a successful close the files hold the guard with this state, whatever a crash leaves of them. If the guard
  -- was abandoned, they hold this guard, or after a fault perhaps the next one, after a step that the job may take.
  abbrev pub LeavesFiles : {A : Type 0} → (May : Step → Type 0) → D → G → (closing : Result (Unit {0}) StationFault)
      → State → Result A StationFault → Type 0
  LeavesFiles May db' last (Ok done) t outcome = file.has db' last t
  LeavesFiles May db' last (Err e) t outcome = Outlasts May (file.has_one db' last) t outcome

-- ---- a guard opened and closed

-- what is done over a guard, from each state that it keeps; a guard that is honest afterwards was honest before
abbrev pub Does : {G A : Type 0} → register.Ghosts G → (May : Step → Type 0)
    → (State → (Left : State → Result A StationFault → Type 0) → Result A StationFault → Type 0) → G → G
    → Result A StationFault → Type 0
Does guard May Did old new result =
    (guard.is_honest new → guard.is_honest old)
    × (guard.is_honest new → (s : State) → guard.keeps old s → Did s (Leaves guard May old new s) result)

-- `file` says how a file is made, opened and closed. `db` is the file before the job, and `db'` the file after it.
module _ {D G : Type 0} (guard : register.Ghosts G) (file : file.Ghosts D G) (db db' : D) where
  -- `Did` was done over the guard, which was then closed. So it was done from the guard that the files held to the one
  -- that they hold now, if the disk has returned what was written. In any case a fault that the guard's register
  -- reported is the result.
  pub record RunsOver {A : Type 0} (May : Step → Type 0)
      (Did : State → (Left : State → Result A StationFault → Type 0) → Result A StationFault → Type 0) (opened : D)
      (g : G) (result : Result A StationFault) : Type 0 where
    pub outcome : Result A StationFault
    pub last : G
    pub did : Does guard May Did g last outcome
    pub reported : PassesOn (guard.reported g) (guard.reported last) outcome
    pub closing : Result (Unit {0}) StationFault
    pub is_closed : file.closes opened last closing db'
    pub came : result ≡ closed outcome closing
    pub files : file.is_settled db' last → (s : State) → file.held s
        → Did s (LeavesFiles guard file May db' last closing) outcome

  -- The guard at the path was opened once, and `Did` was done over it. Or it wasn't opened, and nothing was done.
  pub record RunsIn {A : Type 0} (path : List ℕ) (May : Step → Type 0)
      (Did : State → (Left : State → Result A StationFault → Type 0) → Result A StationFault → Type 0)
      (Nothing : Type 0) (result : Result A StationFault) : Type 0 where
    pub found : Result G StationFault
    pub opened : D
    pub is_opened : file.opens db path found opened
    pub ran : Follows (RunsOver May Did opened) ((db' ≡ opened) × Nothing) found result

  -- The new guard was closed. If the files held none before, they hold it now.
  pub record ClosesNew (scope : Scope) (made : D) (g : G) (result : Result (Unit {0}) StationFault) : Type 0 where
    pub is_closed : file.closes made g result db'
    pub files : file.is_settled db' g → file.is_blank
        → LeavesFiles guard file {A = Unit {0}} OfNone db' g result (opened scope) (Ok tt)

  -- a guard with this scope was made at the path, and closed
  pub record MakesIn (path : List ℕ) (scope : Scope) (result : Result (Unit {0}) StationFault) : Type 0 where
    pub found : Result G StationFault
    pub made : D
    pub is_made : file.makes db path scope found made
    pub ran : Follows (ClosesNew scope made) (db' ≡ made) found result

-- ---- judging

-- a `-` as the only body stands for the bodies of the input
abbrev pub is_input : (bodies : List (List ℕ)) → Bool
is_input (body ∷ []) = bytes_eq body (codes "-")
is_input bodies = false

-- what was judged: the named bodies, or those of the input
abbrev pub JudgesGiven : Bool → State → (Left : State → Result (Unit {0}) StationFault → Type 0)
    → (Asked : List ℕ → Question → Type 0) → (bodies : List (List ℕ)) → (input held holds : Option (List ℕ))
    → Result (Unit {0}) StationFault → Type 0
JudgesGiven true s Left Asked bodies input held holds r = JudgesInput s Left Asked input held holds r
JudgesGiven false s Left Asked bodies input held holds r = Judges 1 s Left Asked bodies held holds r

-- how many bodies come together
abbrev pub most_of : Bool → ℕ
most_of true = 64
most_of false = 1

-- the faults of judging named bodies, or those of the input, if the policy is invalid only at such a line
abbrev pub IsOfGiven : (Bad : ℕ → Type 0) → Bool → StationFault → Type 0
IsOfGiven Bad true e = IsOfJudging Bad e
IsOfGiven Bad false e = IsOfBodies e

-- the policy in a file at the path, or why there is none
abbrev pub IsReadAs : {E F : Type 0} → surroundings.Ghosts E F → E → (remaining : F → Option (List ℕ)) → (path : List ℕ)
    → Result (List Department) StationFault → Type 0
IsReadAs world around remaining path (Ok policy) = IsPolicyAt world around remaining path policy
IsReadAs world around remaining path (Err e) =
    IsOfAPolicy e × ((line : ℕ) → e ≡ BadPolicy line → IsBadPolicyAt world around remaining path line)

-- the departments, without the text from which they were read
abbrev pub departments_of : Result PolicyText StationFault → Result (List Department) StationFault
departments_of (Ok known) = Ok known.policy
departments_of (Err e) = Err e

-- The policy was read, then the guard was opened and the bodies were judged, with a fault that judging may have. Or
-- there is no policy; then no guard was looked for or opened, and nothing is printed.
pub record JudgesIn {E F D G : Type 0} (world : surroundings.Ghosts E F) (around : E) (remaining : F → Option (List ℕ))
    (guard : register.Ghosts G) (file : file.Ghosts D G) (db db' : D) (path policy : List ℕ) (ahead : ℕ)
    (bodies : List (List ℕ)) (input held holds : Option (List ℕ)) (result : Result (Unit {0}) StationFault)
    : Type 0 where
  pub known : Result (List Department) StationFault
  pub read : IsReadAs world around remaining policy known
  pub judged : Follows
      (λ _. RunsIn guard file db db' path
      (OfBodies (most_of (is_input bodies)) (AsksGiven world around remaining (is_input bodies) policy ahead))
      (λ s Left r. JudgesGiven (is_input bodies) s Left
      (AsksGiven world around remaining (is_input bodies) policy ahead) bodies input held holds r × IfErr r (IsOfGiven (IsBadPolicyAt world around remaining policy) (is_input bodies))) (holds ≡ held))
      ((db' ≡ db) × (holds ≡ held)) known result

-- ---- the last serial

-- The last serial was lowered, and the first one was returned. Or what was kept is left.
abbrev pub RetiresTo : ℕ → State → (Left : State → Type 0) → Result ℕ StationFault → Type 0
RetiresTo last s Left (Ok first) =
    (retirement s last ≡ Ok (with_last s last)) × Left (with_last s last) × (first ≡ s.scope.first)
RetiresTo last s Left (Err BadSerials) = (retirement s last ≡ Err retiring.BadSerials) × Left s
RetiresTo last s Left (Err SerialApproved) = (retirement s last ≡ Err retiring.SerialApproved) × Left s
RetiresTo last s Left (Err other) = IsOfARegister other × Left s

-- the serials of a guard are below 2^63
abbrev pub Retires : ℕ → State → (Left : State → Result ℕ StationFault → Type 0) → Result ℕ StationFault → Type 0
Retires last s Left result = s.scope.last < 2 ^ 63 → RetiresTo last s (λ t. Left t result) result

abbrev pub retired_text : ℕ → ℕ → List ℕ
retired_text first last = codes "retired " ++ (decimal first ++ (32 ∷ (decimal last ++ (10 ∷ []))))

-- ---- making a guard

-- the scope with the key of this file, or why there is none
abbrev pub Begins : Option (List ℕ) → (first last : ℕ) → Result Scope StationFault → Type 0
Begins file first last (Ok s) =
    (k : KeyLine) × IfSome file (λ text. IsKeyText text k) × (made_scope k.key first last ≡ Some s)
Begins file first last (Err BadSerials) =
    (k : KeyLine) × IfSome file (λ text. IsKeyText text k) × (made_scope k.key first last ≡ None)
Begins file first last (Err e) = IsKeyFault file e

-- the text with these serials and this fingerprint
abbrev pub ready_line : ℕ → ℕ → (fingerprint : List ℕ) → List ℕ
ready_line first last fingerprint =
    codes "guard ready "
    ++ (decimal first ++ (32 ∷ (decimal last ++ (codes "\nca " ++ (fingerprint ++ (10 ∷ []))))))

-- the text for a guard, with the fingerprint of its CA
abbrev pub ready_text : Scope → List ℕ
ready_text s = ready_line s.first s.last (fingerprint_text s.ca)
