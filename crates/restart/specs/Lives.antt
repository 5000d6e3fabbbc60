-- Whole lifetimes of an office's two files: runs of the program, one after the other.
use Rattle.std.specs.Prelude.{◌≡◌, ◌⊎◌, List, [], ◌∷◌, ◌++◌, length, All, Option, None, Some}
use Rattle.sqlite_wal.specs.Recovery.{Image}
use Rattle.office.specs.declared.opening.Opening.{Opening}
use Rattle.office.specs.declared.arrival.Arrival.{Arrival}
use Rattle.web.specs.declared.exchange.Exchange.{Exchange}
use Rattle.web.specs.declared.exchange.Given.{Given}
use Rattle.web.specs.declared.exchange.Given.TheVariants.{Fault}
use Rattle.web.specs.Runs.{AllDue}
use Rattle.restart.specs.Images.{Holds, Standing}

-- ---- a run

-- a run's input and output: the office that it has to create, if any, its exchanges in order, and the responses given
pub record Asked : Type 0 where
  pub founds : Option Opening
  pub exchanges : List Exchange
  pub given : List Given

-- It closed its files cleanly, or it was cut off: by a crash, by a failed disk, or since memory was refused at its end.
pub data End : Type 0 where
  closed : End
  cut : End

-- One run: the files that it found, its input and output, how it ended, and the files that it left.
pub record Run : Type 0 where
  pub found : Image
  pub asked : Asked
  pub end : End
  pub left : Image

-- ---- the specification of runs

-- no response was given
abbrev pub GivesNone : Asked → Type 0
GivesNone asked = All (λ given. given ≡ Fault) asked.given

-- A run that closed its files left them with this history. An interrupted one may have stored one more request.
abbrev pub Ends : End → List Arrival → List Arrival → Type 0
Ends End.closed l after = after ≡ l
Ends End.cut l after = (after ≡ l) ⊎ ((a : Arrival) × (after ≡ l ++ a ∷ []))

-- An office's status before a run, and after it. Each exchange over an office was given the response specified after
-- all requests before it, or a fault. Without an office no response was given, and there is one afterwards only if the
-- run had to create it.
abbrev pub IsDue : Asked → End → Standing → Standing → Type 0
IsDue asked end None None = GivesNone asked
IsDue asked end None (Some q) = GivesNone asked × (asked.founds ≡ Some q.0) × (q.1 ≡ [])
IsDue asked end (Some p) None = ⊥
IsDue asked end (Some p) (Some q) =
    (q.0 ≡ p.0) × (l : List Arrival) × AllDue p.0 p.1 asked.exchanges asked.given l × Ends end l q.1

-- the same for each run, from the status that the run before it left
abbrev pub AreDue : Standing → List Run → Standing → Type 0
AreDue before [] after = after ≡ before
AreDue before (run ∷ runs) after = (next : Standing) × IsDue run.asked run.end before next × AreDue next runs after

-- ---- a lifetime

-- A run of the program, according to its contract: whatever status the files held, the responses were those specified,
-- and the files that are left hold the status after them.
abbrev pub IsRun : Run → Type 0
IsRun run = (before : Standing) → Holds run.found before
    → ∥ ((after : Standing) × IsDue run.asked run.end before after × Holds run.left after) ∥₁

-- runs of the program, each of which found the files that the one before had left
abbrev pub Follow : Image → List Run → Image → Type 0
Follow first [] last = last ≡ first
Follow first (run ∷ runs) last = IsRun run × (run.found ≡ first) × Follow run.left runs last

-- Files that at first were empty or didn't exist, and the runs of the program on them.
pub record Life (runs : List Run) (last : Image) : Type 0 where
  pub first : Image
  pub empty : length first.db ≡ 0
  pub follow : Follow first runs last

-- in each lifetime all runs are as specified
abbrev pub LivesAreDue : Type 0
LivesAreDue = (runs : List Run) (last : Image) → Life runs last → ∥ ((after : Standing) × AreDue None runs after) ∥₁

-- Runs on files that hold any status, whoever made these files, are as specified from it on. The files that the last of
-- them left hold the status after them.
abbrev pub RunsAreDue : Type 0
RunsAreDue = (runs : List Run) (first last : Image) → Follow first runs last
    → (before : Standing) → Holds first before
    → ∥ ((after : Standing) × AreDue before runs after × Holds last after) ∥₁

-- A run after any lifetime is as specified, too, and the lifetime goes on with it.
abbrev pub GoesOn : Run → Type 0
GoesOn run = (runs : List Run) → Life runs run.found
    → Life (runs ++ run ∷ []) run.left × ∥ ((after : Standing) × AreDue None (runs ++ run ∷ []) after) ∥₁

-- the same for each run of the program
abbrev pub RunsGoOn : Type 0
RunsGoOn = (run : Run) → IsRun run → GoesOn run
