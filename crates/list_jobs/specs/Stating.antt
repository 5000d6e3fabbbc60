-- Judging one list, and printing the line of the answer.
use Rattle.std.specs.Prelude.{◌≡◌, ◌⊎◌, ℕ, List, Option, None, Some, Result, Ok, Err, IfErr}
use Rattle.std.specs.Io.KnownBytes.{Appends}
use Rattle.wire.specs.Streams.{AppendsBeginning}
use Rattle.list_guard.specs.declared.judging.Answer.{Answer}
use Rattle.list_guard.specs.declared.judging.Answer.TheVariants as answer
use Rattle.list_guard.specs.declared.register.ListRegister as register
use Rattle.list_guard.specs.declared.register.RegisterFault.{RegisterFault}
use Rattle.list_guard.specs.declared.register.RegisterFault.TheVariants as list
use Rattle.list_guard.specs.Judged.{Answers, IsShort, left_by}
use Rattle.list_guard.specs.Machine.{State, Question, IsApproved, IsLawful, with_last}
use Rattle.list_guard.specs.Reported.{LastFault}
use Rattle.list_guard.specs.Statements.{answer_line}
use Rattle.station_jobs.specs.declared.surroundings.Surroundings as surroundings
use Rattle.station_jobs.specs.declared.station_fault.StationFault.{StationFault}
use Rattle.station_jobs.specs.declared.station_fault.StationFault.TheVariants as fault
use Rattle.station_jobs.specs.Faults.{IsOfAnAnswer}
use Rattle.station_jobs.specs.Reported.{IsOwn}

-- the text was printed, or after a fault a beginning of it
abbrev pub IsPrinted : List ℕ → (held holds : Option (List ℕ)) → Result (Unit {0}) StationFault → Type 0
IsPrinted text held holds (Ok done) = Appends held holds text
IsPrinted text held holds (Err e) = AppendsBeginning held holds text

-- the list that an answer states, if it approves one
abbrev pub stated_by : Answer → Question → Option (List ℕ)
stated_by (answer.Approve digest version) q = Some q.list
stated_by (answer.Refuse r) q = None

-- The answer is the reference model's, at a time of the clock. `Left` holds of the stated list and the state after it,
-- and the line of the answer was printed.
pub record Stated (s : State) (Left : Option (List ℕ) → State → Type 0) (shows : ℕ → Type 0) (q : Question)
    (held holds : Option (List ℕ)) (result : Result (Unit {0}) StationFault) : Type 0 where
  pub answer : Answer
  pub moment : ℕ
  pub shown : shows moment
  pub answers : Answers answer s q
  pub left : Left (stated_by answer q) (left_by answer s q)
  pub printed : IsPrinted (answer_line answer moment) held holds result
  pub only : IfErr result IsOfAnAnswer

-- The question was answered. Or there was a fault, of which `Lost` holds, and nothing was printed.
abbrev pub StatesOne : State → (Left : Option (List ℕ) → State → Type 0) → (Lost : StationFault → Type 0)
    → (shows : ℕ → Type 0) → Question → (held holds : Option (List ℕ)) → Result (Unit {0}) StationFault → Type 0
StatesOne s Left Lost shows q held holds result =
    Stated s Left shows q held holds result
    ⊎ ((e : StationFault) × (result ≡ Err e) × Lost e × (holds ≡ held))

-- the causes of not judging a list: the clock gave no valid time, memory was refused, or the database has failed
abbrev pub IsUnjudged : (failed : Type 0) → StationFault → Type 0
IsUnjudged failed fault.Clock = Unit {0}
IsUnjudged failed fault.NoMemory = Unit {0}
IsUnjudged failed fault.Device = failed
IsUnjudged failed other = ⊥

-- A register keeps this state, and a crash leaves exactly that.
abbrev pub Stores : {G : Type 0} → register.Ghosts G → G → State → Type 0
Stores guard g s = guard.keeps g s × guard.leaves g s s

-- It keeps this state. The fault has its cause if the state has a published list or none, and the list is short enough.
abbrev pub Loses : {G : Type 0} → register.Ghosts G → G → State → Question → StationFault → Type 0
Loses guard g s q e = guard.keeps g s × (IsLawful s → IsShort q.list → IsUnjudged (guard.has_failed g) e)

-- a crash leaves what was kept, or the list, if it is approved
abbrev pub LeavesOne : State → (leaves : State → State → Type 0) → Question → Type 0
LeavesOne s leaves q = leaves s s ⊎ (IsApproved s q × leaves s (with_last q.list))

-- a register's fault as a fault of the station
abbrev pub register_fault : RegisterFault → StationFault
register_fault list.Device = fault.Device
register_fault list.Damaged = fault.Damaged
register_fault list.NoMemory = fault.NoMemory

-- `before` and `after` are the faults that the register had reported last. The fault is the one that the register
-- reported. Or the register reported none, and judging has the fault by itself.
abbrev pub PassesOn : (before after : LastFault) → Result (Unit {0}) StationFault → Type 0
PassesOn before after (Ok done) = after ≡ before
PassesOn before after (Err e) =
    ((reported : RegisterFault) × (after ≡ Some reported) × (e ≡ register_fault reported))
    ⊎ ((after ≡ before) × IsOwn e)

-- The faults of judging one list: of the clock, of the register, and of printing the answer.
abbrev pub IsOfAStatement : StationFault → Type 0
IsOfAStatement fault.Clock = Unit {0}
IsOfAStatement fault.Write = Unit {0}
IsOfAStatement fault.Device = Unit {0}
IsOfAStatement fault.Damaged = Unit {0}
IsOfAStatement fault.NoMemory = Unit {0}
IsOfAStatement other = ⊥

-- a list was judged over a register, and the line of the answer printed
pub record States {E F G : Type 0} (world : surroundings.Ghosts E F) (around : E) (guard : register.Ghosts G)
    (q : Question) (held holds : Option (List ℕ)) (old new : G) (result : Result (Unit {0}) StationFault)
    : Type 0 where
  -- a register that is honest afterwards was honest before
  pub honest : guard.is_honest new → guard.is_honest old
  pub states : guard.is_honest new → (s : State) → Stores guard old s
      → StatesOne s (λ _ t. Stores guard new t) (Loses guard new s q) (world.shows around) q held holds result
  -- a crash, also in the middle of it
  pub crash : guard.is_honest new → (s : State) → Stores guard old s → LeavesOne s (guard.leaves new) q
  -- whatever it keeps, a fault that it reported is the result
  pub reported : PassesOn (guard.reported old) (guard.reported new) result
  -- a fault is of the clock, of the register, or of printing the answer
  pub only : IfErr result IsOfAStatement
