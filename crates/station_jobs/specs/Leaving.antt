-- What a call over a register leaves: when it returns, and after a crash.
use Rattle.std.specs.Prelude.{ℕ, List, ◌≡◌, ◌⊎◌, ◌<◌, ◌≤◌, ◌^◌, All, IfErr, length, Result, Ok, Err}
use Rattle.guard.specs.declared.register.Register.{Ghosts}
use Rattle.guard.specs.Machine.{State, Question, after_all}
use Rattle.guard.specs.Retirement.{retirement}
use Rattle.station_jobs.specs.declared.station_fault.StationFault.{StationFault}
use Rattle.station_jobs.specs.declared.station_fault.StationFault.TheVariants.{Damaged, Device}

-- one step of a job over a guard: questions about bodies that are kept together, or a retirement to a last serial
pub data Step : Type 0 where
  asking : List Question → Step
  retiring : ℕ → Step

-- a job that only reads
abbrev pub OfNone : Step → Type 0
OfNone step = ⊥

-- these questions, together
abbrev pub OfQuestions : List Question → Step → Type 0
OfQuestions questions (Step.asking asked) = asked ≡ questions
OfQuestions questions (Step.retiring last) = ⊥

-- so many questions together, or fewer, each asked of something that was given
abbrev pub OfBodies : (most : ℕ) → (Asked : List ℕ → Question → Type 0) → Step → Type 0
OfBodies most Asked (Step.asking questions) =
    (length questions ≤ most) × All (λ q. (given : List ℕ) × Asked given q) questions
OfBodies most Asked (Step.retiring last) = ⊥

-- one retirement, to this last serial
abbrev pub OfRetiring : ℕ → Step → Type 0
OfRetiring last (Step.asking q) = ⊥
OfRetiring last (Step.retiring lower) = lower ≡ last

-- the same state, or the one after a step that the job may take: each body stays
abbrev pub IsNext : (May : Step → Type 0) → State → State → Type 0
IsNext May s next =
    (next ≡ s)
    ⊎ (((questions : List Question) × May (Step.asking questions) × (next ≡ after_all s questions))
    ⊎ ((last : ℕ) × May (Step.retiring last) × (retirement s last ≡ Ok next)))

-- A crash leaves this state, or after a fault perhaps the next one.
abbrev pub Outlasts : {A : Type 0} → (May : Step → Type 0) → (leaves : State → State → Type 0) → State
    → Result A StationFault → Type 0
Outlasts May leaves t (Ok x) = leaves t t
Outlasts May leaves t (Err e) = (next : State) × IsNext May t next × leaves t next

-- the database is reported as failed only if it has failed, and no damage is reported
abbrev pub HasCause : (failed : Type 0) → StationFault → Type 0
HasCause failed Device = failed
HasCause failed Damaged = ⊥
HasCause failed other = Unit {0}

-- A register that kept the state `s` now keeps `t`. If a crash would have left `s`, it now leaves `t`, or after a fault
-- perhaps the next state. A fault has its cause if the last serial is below 2^63, as every guard's is.
pub record Leaves {G A : Type 0} (guard : Ghosts G) (May : Step → Type 0) (old new : G) (s t : State)
    (result : Result A StationFault) : Type 0 where
  pub kept : guard.keeps new t
  pub lasts : guard.leaves old s s → Outlasts May (guard.leaves new) t result
  pub cause : s.scope.last < 2 ^ 63 → IfErr result (HasCause (guard.has_failed new))

-- it keeps the state that it kept, and a crash leaves this state too
abbrev pub Stays : {G : Type 0} → Ghosts G → (old new : G) → State → Type 0
Stays guard old new s = Leaves {A = Unit {0}} guard OfNone old new s s (Ok tt)
