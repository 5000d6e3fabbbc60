-- The steps in the life of a guard, and what holds of it after any list of them.
use Rattle.std.specs.Prelude.{◌≡◌, ◌≤◌, ◌++◌, ◌∷◌, ℕ, All, List, fold, Option, Some, None}
use Rattle.cert.specs.declared.fields.CertFields.{CertFields}
use Rattle.guard.specs.declared.approved.Approved.{Approved}
use Rattle.guard.specs.declared.scope.Scope.{Scope}
use Rattle.guard.specs.History.{MaySign}
use Rattle.guard.specs.Machine.{State, Question, after, opened, row_of}
use Rattle.guard.specs.Retirement.{if_retired, retirement}

-- One step: a guard is made with a scope, answers a question, or is retired to a last serial.
pub data Step : Type 0 where
  making : Scope → Step
  asking : Question → Step
  retiring : ℕ → Step

-- the state after a step; a guard is made only once
abbrev pub stepped : State → Step → State
stepped s (Step.making scope) = s
stepped s (Step.asking q) = after s q
stepped s (Step.retiring last) = if_retired s (retirement s last)

-- the guard after a step, if there is one
abbrev pub next_guard : Option State → Step → Option State
next_guard None (Step.making scope) = Some (opened scope)
next_guard None other = None
next_guard (Some s) step = Some (stepped s step)

-- the guard after a list of steps, if one was made
abbrev pub guard_after : List Step → Option State
guard_after steps = fold next_guard None steps

-- The row is that of a question among the steps, and the guard could sign its body then: one of the profile for its CA
-- and one of its serials at that time, permitted by the policy that was given, within its time.
pub record WasAskedIn (steps : List Step) (a : Approved) : Type 0 where
  pub before : List Step
  pub question : Question
  pub later : List Step
  pub state : State
  pub fields : CertFields
  pub among : steps ≡ before ++ Step.asking question ∷ later
  pub guard : guard_after before ≡ Some state
  pub may : MaySign state.scope question fields
  pub row : a ≡ row_of question fields

-- The row is that of a question among the steps that a guard took from this state on, and the guard could sign its body
-- then.
pub record WasAskedFrom (s : State) (steps : List Step) (a : Approved) : Type 0 where
  pub before : List Step
  pub question : Question
  pub later : List Step
  pub fields : CertFields
  pub among : steps ≡ before ++ Step.asking question ∷ later
  pub may : MaySign (fold stepped s before).scope question fields
  pub row : a ≡ row_of question fields

-- After steps from this state on, its bodies are followed by bodies that were asked for in them.
abbrev pub AddsAsked : State → List Step → Type 0
AddsAsked s steps =
    (rows : List Approved) × ((fold stepped s steps).approved ≡ s.approved ++ rows) × All (WasAskedFrom s steps) rows

-- A later state of a guard: of the same CA and from the same first serial on, up to no higher last one. It has each
-- body that was approved, followed by bodies under serials up to the earlier last one.
pub record IsLater (s later : State) : Type 0 where
  pub ca : later.scope.ca ≡ s.scope.ca
  pub first : later.scope.first ≡ s.scope.first
  pub last : later.scope.last ≤ s.scope.last
  pub rows : List Approved
  pub approved : later.approved ≡ s.approved ++ rows
  pub within : All (λ a. a.serial ≤ s.scope.last) rows
