-- The effect of a call on the office that a register means.
use Rattle.std.specs.Prelude.{◌≤◌, List, [], ◌∷◌, ◌++◌, length, IfOk, IfErr, Result, Ok, Err}
use Rattle.office.specs.declared.opening.Opening.{Opening}
use Rattle.office.specs.declared.arrival.Arrival.{Arrival}
use Rattle.office.specs.declared.arrival.Outcome.{Outcome}
use Rattle.office.specs.declared.arrival.Outcome.TheVariants.{Accepted, Repeated, Refused}
use Rattle.office.specs.declared.store_fault.StoreFault.{StoreFault}
use Rattle.office.specs.Faults.{IsOfARegister}

-- `P` holds of each office and history that the register means
abbrev pub WhereMeant : {S : Type 0} → (means : S → Opening → List Arrival → Type 0) → S
    → (Opening → List Arrival → Type 0) → Type 0
WhereMeant means old P = (o : Opening) (l : List Arrival) → means old o l → P o l

-- the answer fits every office and history that the register meant before
abbrev pub AnswersBy : {S X E : Type 0} → (means : S → Opening → List Arrival → Type 0) → S → Result X E
    → (Opening → List Arrival → X → Type 0) → Type 0
AnswersBy means old result P = IfOk result (λ x. (o : Opening) (l : List Arrival) → means old o l → P o l x)

-- the register still means every history that it meant before
abbrev pub MeansTheSame : {S : Type 0} → (means : S → Opening → List Arrival → Type 0) → (old new : S) → Type 0
MeansTheSame means old new = (o : Opening) (l : List Arrival) → means old o l → means new o l

-- the register means every history that it meant before, followed by this arrival
abbrev pub MeansOneMore : {S : Type 0} → (means : S → Opening → List Arrival → Type 0) → Arrival → (old new : S)
    → Type 0
MeansOneMore means arrival old new = (o : Opening) (l : List Arrival) → means old o l → means new o (l ++ arrival ∷ [])

-- a fact that holds unless the arrival is accepted now: it is a repeat, or is refused, or the call fails
abbrev pub UnlessAccepted : {E : Type 0} → Result Outcome E → Type 0 → Type 0
UnlessAccepted (Ok (Accepted reply)) P = Unit {0}
UnlessAccepted (Ok (Repeated reply)) P = P
UnlessAccepted (Ok (Refused refusal)) P = P
UnlessAccepted (Err e) P = P

-- if the arrival is accepted now, its reply has at most 99 bytes
abbrev pub IsShortIfAccepted : Outcome → Type 0
IsShortIfAccepted (Accepted reply) = length reply ≤ 99
IsShortIfAccepted (Repeated reply) = Unit {0}
IsShortIfAccepted (Refused refusal) = Unit {0}

-- a call repairs nothing: a register that has lost its honesty, or that a failed disk has shut, stays so
pub record FailuresPersist {S : Type 0} (is_honest is_open : S → Type 0) (old new : S) : Type 0 where
  pub honest : is_honest new → is_honest old
  pub was_open : is_honest new → is_open new → is_open old

-- a reading call: failures persist, the register means what it meant, and while it is open its stored rows are
-- unchanged
pub record Preserves {S : Type 0} (is_honest is_open : S → Type 0) (is_as_before : S → S → Type 0)
    (means : S → Opening → List Arrival → Type 0) (old new : S) : Type 0 where
  pub honest : is_honest new → is_honest old
  pub was_open : is_honest new → is_open new → is_open old
  pub same : is_honest new → MeansTheSame means old new
  pub before : is_honest new → is_open new → is_as_before old new

-- a register that meant a history fails only for lack of memory or because the database failed
abbrev pub FailsAsARegister : {S X : Type 0} → (means : S → Opening → List Arrival → Type 0) → S → Result X StoreFault
    → Type 0
FailsAsARegister means old result =
    IfErr result (λ e. (o : Opening) (l : List Arrival) → means old o l → IsOfARegister e)

-- the database failed in a call on a register that still meant every history that it had meant before
pub record FailsWithin {S : Type 0} (means : S → Opening → List Arrival → Type 0) (fails : S → S → Type 0) (old new : S)
    : Type 0 where
  pub before : S
  pub same : (o : Opening) (l : List Arrival) → means old o l → means before o l
  pub failed : fails before new
