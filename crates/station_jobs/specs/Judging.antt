-- Judging unsigned certificates (bodies) in order, and printing the answers.
use Rattle.std.specs.Prelude.{◌≡◌, ◌≤◌, ◌++◌, ◌∷◌, [], ℕ, List, Bool, true, false, All, length, map, take, Option, IfSome}
use Rattle.std.specs.Prelude.{Result, Ok, Err}
use Rattle.std.specs.List.{flat_map}
use Rattle.std.specs.Io.KnownBytes.{Appends}
use Rattle.message.specs.declared.department.Department.{Department}
use Rattle.guard.specs.declared.judging.Answer.{Answer}
use Rattle.guard.specs.AnswerLines.{answer_line}
use Rattle.guard.specs.Judged.{Answers, IsKept}
use Rattle.guard.specs.Machine.{State, Question, after}
use Rattle.guard.specs.Policies.{policy_at}
use Rattle.station_jobs.specs.declared.surroundings.Surroundings.{Ghosts}
use Rattle.station_jobs.specs.declared.station_fault.StationFault.{StationFault}

-- ---- questions

-- Files are found by their paths, and there is a clock. `remaining` is what can be read from a file.
module _ {E F : Type 0} (world : Ghosts E F) (around : E) (remaining : F → Option (List ℕ)) where
  -- a file at the path is read as this policy
  pub record IsPolicyAt (path : List ℕ) (policy : List Department) : Type 0 where
    pub file : F
    pub found : world.has around path file
    pub read : IfSome (remaining file) (λ bytes. policy_at bytes ≡ Ok policy)

  -- a file at the path isn't a policy, and this is its first invalid line
  abbrev pub IsBadPolicyAt : (path : List ℕ) → (line : ℕ) → Type 0
  IsBadPolicyAt path line =
      (file : F) × world.has around path file × IfSome (remaining file) (λ bytes. policy_at bytes ≡ Err line)

  -- the question is about the whole content of a file at the path, at a time of the clock
  pub record Asks (ByPolicy : List Department → Type 0) (ahead : ℕ) (path : List ℕ) (q : Question) : Type 0 where
    pub file : F
    pub found : world.has around path file
    pub body : IfSome (remaining file) (λ bytes. q.body ≡ bytes)
    pub policy : ByPolicy q.policy
    pub moment : world.shows around q.moment
    pub ahead_of : q.ahead ≡ ahead

  -- the same, by the policy that a file has at the time
  abbrev pub AsksNow : (policy : List ℕ) → (ahead : ℕ) → (path : List ℕ) → Question → Type 0
  AsksNow policy ahead = Asks (IsPolicyAt policy) ahead

  -- the question is about these bytes, at a time of the clock
  pub record AsksOf (ByPolicy : List Department → Type 0) (ahead : ℕ) (body : List ℕ) (q : Question) : Type 0 where
    pub is : q.body ≡ body
    pub policy : ByPolicy q.policy
    pub moment : world.shows around q.moment
    pub ahead_of : q.ahead ≡ ahead

  -- by the policy that a file has at the time, of bodies that are given, or of those at paths
  abbrev pub AsksGiven : Bool → (policy : List ℕ) → (ahead : ℕ) → (given : List ℕ) → Question → Type 0
  AsksGiven true policy ahead = AsksOf (IsPolicyAt policy) ahead
  AsksGiven false policy ahead = AsksNow policy ahead

-- ---- answers

-- a body that was judged: what was given, its path or the body itself, the question, and the answer
pub record Judgement : Type 0 where
  pub given : List ℕ
  pub question : Question
  pub answer : Answer

-- each answer is the reference model's, after the earlier questions
abbrev pub AreAnswered : State → List Judgement → Type 0
AreAnswered s [] = Unit {0}
AreAnswered s (j ∷ js) = Answers j.answer s j.question × AreAnswered (after s j.question) js

-- the state after the questions
abbrev pub left_by : State → List Judgement → State
left_by s [] = s
left_by s (j ∷ js) = left_by (after s j.question) js

-- the lines of the answers
abbrev pub lines_of : List Judgement → List ℕ
lines_of js = flat_map (λ j. answer_line j.answer) js

-- What was judged is what was given: all, or after a fault the first ones.
abbrev pub Covers : (given judged : List (List ℕ)) → Result (Unit {0}) StationFault → Type 0
Covers given judged (Ok done) = judged ≡ given
Covers given judged (Err e) = (rest : List (List ℕ)) × (given ≡ judged ++ rest)

-- All lines are printed; after a fault, the last ones, at most so many, may be missing or cut short.
abbrev pub IsPrinted : (most : ℕ) → List Judgement → (held holds : Option (List ℕ)) → Result (Unit {0}) StationFault
    → Type 0
IsPrinted most js held holds (Ok done) = Appends held holds (lines_of js)
IsPrinted most js held holds (Err e) =
    (whole : List Judgement) × (last : List Judgement) × (count : ℕ) × (js ≡ whole ++ last) × (length last ≤ most)
    × Appends held holds (lines_of whole ++ take count (lines_of last))

-- The bodies that were given were judged in order, from this state on, and the answers were printed. What is left is
-- what the model keeps, and this includes each body whose answer was to sign it. At most so many lines come together.
pub record Judges (most : ℕ) (s : State) (Left : State → Result (Unit {0}) StationFault → Type 0)
    (Asked : List ℕ → Question → Type 0) (given : List (List ℕ)) (held holds : Option (List ℕ))
    (result : Result (Unit {0}) StationFault) : Type 0 where
  pub judged : List Judgement
  pub asked : All (λ j. Asked j.given j.question) judged
  pub answered : AreAnswered s judged
  pub left : Left (left_by s judged) result
  pub kept : All (λ j. IsKept j.answer (left_by s judged) j.question.body) judged
  pub in_order : Covers given (map (λ j. j.given) judged) result
  pub printed : IsPrinted most judged held holds result
