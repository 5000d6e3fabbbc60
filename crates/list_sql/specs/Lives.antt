-- The whole lifetime of a list guard's two files: a sequence of runs of a program.
use Rattle.std.specs.Prelude.{◌≡◌, ◌⊎◌, ◌++◌, ℕ, List, [], ◌∷◌, Option, Some, None, take}
use Rattle.std.specs.Io.KnownBytes.{Appends}
use Rattle.std.specs.List.{AllByRecursion}
use Rattle.sqlite_wal.specs.Recovery.{Image}
use Rattle.lines.specs.Digests.{digest_text}
use Rattle.krl.specs.Contents.{KrlContents, Publishes}
use Rattle.list_guard.specs.declared.refusal.Refusal.{Refusal}
use Rattle.list_guard.specs.History.{Call, ComesLater, Grow, Lives, stated}
use Rattle.list_guard.specs.Refusals.{refusal_name}
use Rattle.list_guard.specs.State.{Question, State, opened}
use Rattle.list_guard.specs.Statements.{refused_line, statement_line}
use Rattle.list_sql.specs.Images.{Holds, Standing}

-- ---- one run

-- What a run printed: it judged a list by this question, and its output had this before and has that after it. Or it
-- judged no list.
pub data Said : Type 0 where
  judging : Question → (held holds : Option (List ℕ)) → Said
  none : Said

-- One run: what the files held when it opened them, what it printed, and what it left in the files, perhaps by a crash.
pub record Run : Type 0 where
  pub found : Image
  pub said : Said
  pub left : Image

-- ---- what was printed

-- If a list is stated, its statement was printed, with its digest and its version. If none is, a refusal was. After a
-- fault the line may be cut off, or missing.
abbrev pub IsTold : Option (List ℕ) → (held holds : Option (List ℕ)) → Type 0
IsTold (Some list) held holds =
    (c : KrlContents) × Publishes list c × (moment : ℕ) × (count : ℕ)
    × Appends held holds (take count (statement_line (digest_text list) c.head.version moment))
IsTold None held holds = (r : Refusal) × (count : ℕ) × Appends held holds (take count (refused_line (refusal_name r)))

-- the calls on the list guard of a run that printed this
abbrev pub AreSaid : List Call → Said → Type 0
AreSaid calls (Said.judging q held holds) =
    (told : Option (List ℕ)) × (calls ≡ record { asked = q; told = told } ∷ []) × IsTold told held holds
AreSaid calls Said.none = calls ≡ []

-- the calls of several runs, in order
abbrev pub AreSaidBy : List Call → List Run → Type 0
AreSaidBy calls [] = calls ≡ []
AreSaidBy calls (run ∷ runs) =
    (first : List Call) × (others : List Call) × (calls ≡ first ++ others) × AreSaid first run.said
    × AreSaidBy others runs

-- ---- what is kept

-- Over a list guard, each call gets the reference model's answer, or fails. Without one, no list is stated, and a list
-- guard that has approved nothing may be made.
abbrev pub Goes : Standing → List Call → Standing → Type 0
Goes (Some s) calls after = (t : State) × Lives s calls t × (after ≡ Some t)
Goes None calls after = (stated calls ≡ []) × ((after ≡ None) ⊎ (after ≡ Some opened))

-- a run of a program that keeps a list guard: from whatever the files held, calls that are as printed led to what they
-- now hold
abbrev pub IsRun : Run → Type 0
IsRun run = (before : Standing) → Holds run.found before
    → ∥ ((calls : List Call) × (after : Standing) × AreSaid calls run.said × Goes before calls after
    × Holds run.left after) ∥₁

-- a sequence of such runs, each of which found what the one before had left
abbrev pub Follow : Image → List Run → Image → Type 0
Follow first [] last = last ≡ first
Follow first (run ∷ runs) last = IsRun run × (run.found ≡ first) × Follow run.left runs last

-- ---- a life

-- these lists grow, and each is later than the list that had been approved before them, if there was one
abbrev pub GrowFrom : Standing → List (List ℕ) → Type 0
GrowFrom None lists = Grow lists
GrowFrom (Some s) lists =
    ((kept : List ℕ) → s.last ≡ Some kept → AllByRecursion (ComesLater kept) lists) × Grow lists

-- the lists that the runs stated, by what they printed, grow
abbrev pub StatedGrow : Standing → List Run → Type 0
StatedGrow before runs = ∥ ((calls : List Call) × AreSaidBy calls runs × GrowFrom before (stated calls)) ∥₁

-- After every sequence of runs, the lists that were stated never revoke less, versions never go back, and lists of one
-- version are equal, byte by byte.
abbrev pub LivesGrow : Type 0
LivesGrow =
    (first last : Image) (runs : List Run) (before : Standing) → Holds first before → Follow first runs last
    → StatedGrow before runs

-- A run after any others is one of them, and the lists that they and it stated grow.
abbrev pub GoesOn : Run → Type 0
GoesOn run = (first : Image) (runs : List Run) (before : Standing) → Holds first before → Follow first runs run.found
    → Follow first (runs ++ run ∷ []) run.left × StatedGrow before (runs ++ run ∷ [])

-- this holds for each run of the program
abbrev pub RunsGoOn : Type 0
RunsGoOn = (run : Run) → IsRun run → GoesOn run
