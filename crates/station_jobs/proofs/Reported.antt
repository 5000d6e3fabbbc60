-- Faults that a register reported, from one call to the next.
use Rattle.std.proofs.Common.{◌≡◌, ◌⊎◌, Ok, Err, Result, Some, inl, inr, refl, subst, sym}
use Rattle.std.specs.Prelude.{IfErr}
use Rattle.guard.specs.declared.register.RegisterFault.{RegisterFault}
use Rattle.guard.specs.declared.register.RegisterFault.TheVariants as register
use Rattle.guard.specs.declared.retiring.RetireFault.{RetireFault}
use Rattle.guard.specs.declared.retiring.RetireFault.TheVariants as retiring
use Rattle.guard.specs.Reported.{LastFault, RetirePassesOn}
use Rattle.guard.specs.Reported.{IsOwn as IsOfGuard}
use Rattle.station_jobs.specs.declared.station_fault.StationFault.{StationFault}
use Rattle.station_jobs.specs.declared.station_fault.StationFault.TheVariants.{BadPolicy, Clock, Damaged, File, Input, NoMemory}
use Rattle.station_jobs.specs.declared.station_fault.StationFault.TheVariants.{Write}
use Rattle.station_jobs.specs.Faults.{IsOfABody, IsOfAFile, IsOfAPolicy, IsOfARow, IsOfAnAnswer, IsOfAnInput, of_register}
use Rattle.station_jobs.specs.Faults.{of_retiring}
use Rattle.station_jobs.specs.Reported.{IsOwn, IsPassedOn, PassesOn}

-- ---- the register's faults

-- a fault that the register has just reported
pub reported_fault : (before after : LastFault) (e : RegisterFault) → after ≡ Some e
    → IsPassedOn before after (of_register e)
reported_fault before after e is = inl (e, is, refl)

-- a fault of a question
pub reported_of_a_question : (before after : LastFault) (e : RegisterFault)
    → (after ≡ Some e) ⊎ ((after ≡ before) × IsOfGuard e) → IsPassedOn before after (of_register e)
reported_of_a_question before after e (inl is) = inl (e, is, refl)
reported_of_a_question before after register.NoMemory (inr is) = inr (is.0, tt)
reported_of_a_question before after other (inr is) = absurd is.1

-- a fault of a retirement
pub reported_of_retiring : (before after : LastFault) (e : RetireFault) → RetirePassesOn before after (Err e)
    → IsPassedOn before after (of_retiring e)
reported_of_retiring before after (retiring.Register e) is = inl (e, is, refl)
reported_of_retiring before after retiring.BadSerials is = inr (is, tt)
reported_of_retiring before after retiring.SerialApproved is = inr (is, tt)

-- a call after others that reported nothing
pub reported_then : (first before after : LastFault) (e : StationFault) → before ≡ first → IsPassedOn before after e
    → IsPassedOn first after e
reported_then first before after e same is = subst (λ (it : LastFault). IsPassedOn it after e) same is

-- ---- the job's own faults

pub own_body : (e : StationFault) → IsOfABody e → IsOwn e
own_body File h = tt
own_body NoMemory h = tt
own_body Clock h = tt
own_body other h = absurd h

pub own_file : (e : StationFault) → IsOfAFile e → IsOwn e
own_file File h = tt
own_file NoMemory h = tt
own_file other h = absurd h

pub own_input : (e : StationFault) → IsOfAnInput e → IsOwn e
own_input Input h = tt
own_input File h = tt
own_input NoMemory h = tt
own_input other h = absurd h

pub own_policy : (e : StationFault) → IsOfAPolicy e → IsOwn e
own_policy File h = tt
own_policy NoMemory h = tt
own_policy (BadPolicy line) h = tt
own_policy other h = absurd h

pub own_row : (whole : Type 0) (e : StationFault) → IsOfARow whole e → IsOwn e
own_row whole Write h = tt
own_row whole NoMemory h = tt
own_row whole Damaged h = tt
own_row whole other h = absurd h

own_answer : (e : StationFault) → IsOfAnAnswer e → IsOwn e
own_answer Write h = tt
own_answer NoMemory h = tt
own_answer other h = absurd h

-- an answer was printed, or it couldn't be
pub unreported_answer : {A : Type 0} (before after : LastFault) (r : Result A StationFault) → after ≡ before
    → IfErr r IsOfAnAnswer → PassesOn before after r
unreported_answer before after (Ok x) same only = same
unreported_answer before after (Err e) same only = inr (same, own_answer e only)

-- bytes were printed, or they couldn't be
pub unreported_bytes : {A : Type 0} (before after : LastFault) (r : Result A StationFault) → after ≡ before
    → IfErr r (λ e. e ≡ Write) → PassesOn before after r
unreported_bytes before after (Ok x) same only = same
unreported_bytes before after (Err e) same only = inr (same, subst IsOwn (sym only) tt)
