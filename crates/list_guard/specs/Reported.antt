-- Which fault a register has reported last, and that judging over it returns this one.
use Rattle.std.specs.Prelude.{◌≡◌, ◌⊎◌, Option, Some, Result, Ok, Err}
use Rattle.list_guard.specs.declared.register.RegisterFault.{RegisterFault}
use Rattle.list_guard.specs.declared.register.RegisterFault.TheVariants.{Damaged}

-- the fault that a register has reported last; it may have reported none so far
abbrev pub LastFault : Type 0
LastFault = Option RegisterFault

-- the same after a call with this result
abbrev pub reported_by : {A : Type 0} → LastFault → Result A RegisterFault → LastFault
reported_by before (Ok x) = before
reported_by before (Err e) = Some e

-- the fault of judging by itself: the kept list isn't a published list
abbrev pub IsOwn : RegisterFault → Type 0
IsOwn Damaged = Unit {0}
IsOwn other = ⊥

-- The fault is the one that the register reported. Or the register reported none, and judging has the fault by itself.
abbrev pub PassesOn : {A : Type 0} → (before after : LastFault) → Result A RegisterFault → Type 0
PassesOn before after (Ok x) = after ≡ before
PassesOn before after (Err e) = (after ≡ Some e) ⊎ ((after ≡ before) × IsOwn e)
