-- Lowering the last serial, for example for a CA that a new one replaces.
use Rattle.std.specs.Prelude.{◌≡◌, ◌||◌, ℕ, Bool, nat_lt, if◌then◌else◌, Result, Ok, Err}
use Rattle.std.specs.List.{list_any}
use Rattle.guard.specs.declared.retiring.RetireFault.{RetireFault}
use Rattle.guard.specs.declared.retiring.RetireFault.TheVariants.{BadSerials, SerialApproved, Register}
use Rattle.guard.specs.Judged.{HasCause}
use Rattle.guard.specs.Machine.{State}
use Rattle.guard.specs.Retiring.{with_last}

-- an unsigned certificate (body) is approved under a serial above this one
abbrev pub is_approved_over : State → ℕ → Bool
is_approved_over s last = list_any (λ a. nat_lt last a.serial) s.approved

-- the state with this last serial: not above the old one, not below the first one, and with nothing approved above it
abbrev pub retirement : State → ℕ → Result State RetireFault
retirement s last =
    if nat_lt last s.scope.first || nat_lt s.scope.last last then Err BadSerials
    else if is_approved_over s last then Err SerialApproved
    else Ok (with_last s last)

-- the retired state, or the old one
abbrev pub if_retired : State → Result State RetireFault → State
if_retired s (Ok t) = t
if_retired s (Err e) = s

-- the result, and the state that is kept then: the retired one, or after a fault the old one
abbrev pub Retires : State → ℕ → (keeps : State → Type 0) → Result (Unit {0}) RetireFault → Type 0
Retires s last keeps (Ok done) = (retirement s last ≡ Ok (with_last s last)) × keeps (with_last s last)
Retires s last keeps (Err (Register e)) = keeps s
Retires s last keeps (Err e) = (retirement s last ≡ Err e) × keeps s

-- what a fault implies: a fault of the register has its cause
abbrev pub HasRetireCause : Type 0 → RetireFault → Type 0
HasRetireCause failed (Register e) = HasCause e failed
HasRetireCause failed BadSerials = Unit {0}
HasRetireCause failed SerialApproved = Unit {0}
