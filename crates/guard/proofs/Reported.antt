-- Faults that a register reported, from one call to the next.
use Rattle.std.proofs.Common.{◌≡◌, Ok, Err, Result, inl, subst}
use Rattle.guard.specs.declared.register.RegisterFault.{RegisterFault}
use Rattle.guard.specs.Reported.{LastFault, PassesOn, reported_by}

-- a call of the register alone
pub reported_once : {A : Type 0} (before after : LastFault) (r : Result A RegisterFault)
    → after ≡ reported_by before r → PassesOn before after r
reported_once before after (Ok x) is = is
reported_once before after (Err e) is = inl is

-- a call after others that reported nothing
pub reported_then : {A : Type 0} (first before after : LastFault) (r : Result A RegisterFault) → before ≡ first
    → PassesOn before after r → PassesOn first after r
reported_then first before after r same is = subst (λ (it : LastFault). PassesOn it after r) same is
