-- The steps of judging unsigned certificates (bodies).
use Rattle.std.specs.Prelude.{◌≡◌, ◌⊎◌, ℕ, List, Option, IfSome, take, Result, Ok, Err}
use Rattle.std.specs.List.{flat_map}
use Rattle.std.specs.Io.KnownBytes.{Appends}
use Rattle.wire.specs.Streams.{AppendsBeginning}
use Rattle.guard.specs.declared.judging.Answer.{Answer}
use Rattle.guard.specs.AnswerLines.{answer_line}
use Rattle.guard.specs.Judged.{AreAnswers}
use Rattle.guard.specs.Machine.{State, Question, after_all}
use Rattle.station_jobs.specs.declared.surroundings.Surroundings.{Ghosts}
use Rattle.station_jobs.specs.declared.station_fault.StationFault.{StationFault}

-- the body is that of a file at the path, read until it is too long for a body, and the time is the clock's
pub record Weighs {E F : Type 0} (world : Ghosts E F) (around : E) (remaining : F → Option (List ℕ)) (path : List ℕ)
    (body : List ℕ) (moment : ℕ) : Type 0 where
  pub file : F
  pub found : world.has around path file
  pub body_of : IfSome (remaining file) (λ bytes. body ≡ take 16385 bytes)
  pub moment_of : world.shows around moment

-- how the lines of answers were printed: whole, or after a fault a prefix of them
abbrev pub IsLinePrinted : List ℕ → (held holds : Option (List ℕ)) → Result (Unit {0}) StationFault → Type 0
IsLinePrinted line held holds (Ok done) = Appends held holds line
IsLinePrinted line held holds (Err e) = AppendsBeginning held holds line

-- The answers were the reference model's, and what is left is what the model keeps.
pub record Answered (s : State) (Left : State → Result (Unit {0}) StationFault → Type 0) (questions : List Question)
    (held holds : Option (List ℕ)) (result : Result (Unit {0}) StationFault) : Type 0 where
  pub answers : List Answer
  pub are : AreAnswers answers s questions
  pub left : Left (after_all s questions) result
  pub printed : IsLinePrinted (flat_map answer_line answers) held holds result

-- the result is a fault
abbrev pub NotOk : Result (Unit {0}) StationFault → Type 0
NotOk (Ok done) = ⊥
NotOk (Err e) = Unit {0}

-- The questions were answered like this. Or the register didn't answer, what it kept is left, and nothing is printed.
abbrev pub AnswersAll : State → (Left : State → Result (Unit {0}) StationFault → Type 0) → List Question
    → (held holds : Option (List ℕ)) → Result (Unit {0}) StationFault → Type 0
AnswersAll s Left questions held holds result =
    Answered s Left questions held holds result ⊎ (NotOk result × Left s result × (holds ≡ held))

-- the result without its value
abbrev pub done_of : {A : Type 0} → Result A StationFault → Result (Unit {0}) StationFault
done_of (Ok x) = Ok tt
done_of (Err e) = Err e
