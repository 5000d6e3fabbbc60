-- What a guard needs for lowering its last serial.
use Rattle.std.specs.Prelude.{ℕ, ◌<◌, ◌≤◌, List, All, Contains, Option, Some, None}
use Rattle.guard.specs.declared.approved.Approved.{Approved}
use Rattle.guard.specs.State.{State}

-- the row with the least serial of those at or above `from`; or there is none
abbrev pub IsFirstFrom : ℕ → List Approved → Option Approved → Type 0
IsFirstFrom from rows (Some a) =
    Contains rows a × (from ≤ a.serial) × All (λ b. from ≤ b.serial → a.serial ≤ b.serial) rows
IsFirstFrom from rows None = All (λ b. b.serial < from) rows

-- the same for the rows of a state
abbrev pub IsRowFrom : State → ℕ → Option Approved → Type 0
IsRowFrom s from row = IsFirstFrom from s.approved row

-- the state with this last serial
abbrev pub with_last : State → ℕ → State
with_last s last = record s { scope = record s.scope { last = last } }

-- at or above the first serial, and at or below the last one
abbrev pub IsLowered : State → ℕ → Type 0
IsLowered s last = (s.scope.first ≤ last) × (last ≤ s.scope.last)
