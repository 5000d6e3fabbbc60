-- The CA and the serials of a guard.
use Rattle.std.specs.Prelude.{ℕ, List, if◌then◌else◌, Option, Some, None}
use Rattle.values.specs.Serials.{are_serials}
use Rattle.guard.specs.declared.scope.Scope.{Scope}

-- the scope, if the serials are valid for an office
abbrev pub made_scope : List ℕ → ℕ → ℕ → Option Scope
made_scope ca first last =
    if are_serials first last then Some (record { ca = ca; first = first; last = last }) else None
