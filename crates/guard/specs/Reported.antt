-- Which fault a register has reported last, and that a call over it returns this one.
use Rattle.std.specs.Prelude.{◌≡◌, ◌⊎◌, Option, Some, Result, Ok, Err}
use Rattle.guard.specs.declared.register.RegisterFault.{RegisterFault}
use Rattle.guard.specs.declared.register.RegisterFault.TheVariants as register
use Rattle.guard.specs.declared.retiring.RetireFault.{RetireFault}
use Rattle.guard.specs.declared.retiring.RetireFault.TheVariants as retiring

-- the fault that a register has reported last; it may have reported none so far
abbrev pub LastFault : Type 0
LastFault = Option RegisterFault

-- the same after a call with this result
abbrev pub reported_by : {A : Type 0} → LastFault → Result A RegisterFault → LastFault
reported_by before (Ok x) = before
reported_by before (Err e) = Some e

-- a fault that a call over a register may have by itself
abbrev pub IsOwn : RegisterFault → Type 0
IsOwn register.NoMemory = Unit {0}
IsOwn other = ⊥

-- The fault is the one that the register reported. Or the register reported none, and the call has the fault by itself.
abbrev pub PassesOn : {A : Type 0} → (before after : LastFault) → Result A RegisterFault → Type 0
PassesOn before after (Ok x) = after ≡ before
PassesOn before after (Err e) = (after ≡ Some e) ⊎ ((after ≡ before) × IsOwn e)

-- the same for a retirement, which needs no memory of its own
abbrev pub RetirePassesOn : (before after : LastFault) → Result (Unit {0}) RetireFault → Type 0
RetirePassesOn before after (Err (retiring.Register e)) = after ≡ Some e
RetirePassesOn before after other = after ≡ before
