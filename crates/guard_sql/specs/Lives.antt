-- The whole lifetime of a guard's two files: runs of a program in sequence, from no file on.
use Rattle.std.specs.Prelude.{◌≡◌, ◌++◌, ◌∷◌, [], ℕ, List, All, fold, length, take, Option, Some, None}
use Rattle.std.specs.List.{flat_map}
use Rattle.std.specs.Io.KnownBytes.{Appends}
use Rattle.sqlite_wal.specs.Recovery.{Image}
use Rattle.lines.specs.Digests.{digest_text}
use Rattle.guard.specs.declared.judging.Answer.{Answer}
use Rattle.guard.specs.declared.judging.Answer.TheVariants as answer
use Rattle.guard.specs.AnswerLines.{answer_line}
use Rattle.guard.specs.State.{body_of}
use Rattle.guard_sql.specs.Images.{Holds, Standing}
use Rattle.guard_sql.specs.Steps.{Step, guard_after, next_guard}

-- ---- a run

-- What a run printed of bodies (unsigned certificates): it judged some, and its output held this before and that after
-- it. Or it judged none.
pub data Said : Type 0 where
  judging : (held holds : Option (List ℕ)) → Said
  none : Said

-- One run: what the files held when it opened them, the steps of their guard, what the run printed, and what was left
-- in the files, perhaps by a crash.
pub record Run : Type 0 where
  pub found : Image
  pub steps : List Step
  pub said : Said
  pub left : Image

-- ---- the printed answers

-- an answer, and the body that it is for
abbrev pub Answered : Type 0
Answered = Answer × List ℕ

-- The lines of these answers were printed, in order. After a fault the last lines may be missing, and one may be cut
-- off.
abbrev pub AreSaid : List Answered → Said → Type 0
AreSaid answers (Said.judging held holds) =
    (count : ℕ) × Appends held holds (take count (flat_map (λ (a : Answered). answer_line a.0) answers))
AreSaid answers Said.none = answers ≡ []

-- the body that is approved under a serial
abbrev pub body_in : Standing → ℕ → Option (List ℕ)
body_in None serial = None
body_in (Some s) serial = body_of s serial

-- a body with the answer `Sign` is approved under the serial of the answer, whose digest is that of this body
abbrev pub IsBacked : Standing → Answer → List ℕ → Type 0
IsBacked p (answer.Sign serial digest) body = (body_in p serial ≡ Some body) × (digest ≡ digest_text body)
IsBacked p (answer.NotABody e) body = Unit {0}
IsBacked p (answer.Refuse r) body = Unit {0}

abbrev pub AreBacked : Standing → List Answered → Type 0
AreBacked p answers = All (λ (a : Answered). IsBacked p a.0 a.1) answers

-- what a run printed is true
abbrev pub Backs : Standing → Said → Type 0
Backs p said = (answers : List Answered) × AreSaid answers said × AreBacked p answers

-- ---- the guard in the files

-- the guard after a run
abbrev pub after_run : Standing → Run → Standing
after_run before run = fold next_guard before run.steps

-- A run of a program that keeps a guard, by its contract, over files that hold this guard or none: they are left with
-- the guard after the run's steps, and what the run printed is true of it.
pub record IsRun (before : Standing) (run : Run) : Type 0 where
  pub found : Holds run.found before
  pub left : Holds run.left (after_run before run)
  pub backs : Backs (after_run before run) run.said

-- runs of the program, each of which found what the previous one had left
abbrev pub Follow : Image → Standing → List Run → Image → Type 0
Follow first before [] last = last ≡ first
Follow first before (run ∷ runs) last =
    (run.found ≡ first) × IsRun before run × Follow run.left (after_run before run) runs last

-- ---- a lifetime

-- Files that were empty or missing at first, and what runs of the program have made of them.
pub record Life (runs : List Run) (last : Image) : Type 0 where
  pub first : Image
  pub empty : length first.db ≡ 0
  pub follow : Follow first None runs last

-- the steps of all runs, and the guard after them
abbrev pub steps_of : List Run → List Step
steps_of runs = flat_map (λ run. run.steps) runs

abbrev pub guard_of : List Run → Standing
guard_of runs = guard_after (steps_of runs)

-- the files hold the guard after the steps of the runs, and what each of the runs printed is true of it
pub record BacksAll (runs : List Run) (last : Image) : Type 0 where
  pub holds : Holds last (guard_of runs)
  pub backs : All (λ run. Backs (guard_of runs) run.said) runs

-- After every such lifetime the files hold the guard after its steps, with each body for which a run printed that it
-- may be signed, under its serial.
abbrev pub LivesKeep : Type 0
LivesKeep = (runs : List Run) (last : Image) → Life runs last → BacksAll runs last

-- A run over the files that such a lifetime left, and over their guard, extends it.
abbrev pub RunsGoOn : Type 0
RunsGoOn =
    (runs : List Run) (run : Run) → Life runs run.found → IsRun (guard_of runs) run → Life (runs ++ run ∷ []) run.left

-- a run with steps of this sort, and what holds of it
abbrev pub SomeRun : Image → (May : Step → Type 0) → Said → Image → (Run → Type 0) → Type 0
SomeRun found May said left Holding =
    ∥ ((steps : List Step) × All May steps
    × Holding (record { found = found; steps = steps; said = said; left = left })) ∥₁

-- After any lifetime that left the files that were found, there is a run with steps of this sort that extends it.
abbrev pub GoesOn : Image → (May : Step → Type 0) → Said → Image → Type 0
GoesOn found May said left =
    (runs : List Run) → Life runs found
    → SomeRun found May said left (λ run. Life (runs ++ run ∷ []) left × BacksAll (runs ++ run ∷ []) left)
