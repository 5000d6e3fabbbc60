-- A fault that a register reports is the result of what is done over it.
use Rattle.std.specs.Prelude.{◌≡◌, ◌⊎◌, Some, Result, Ok, Err}
use Rattle.guard.specs.declared.register.RegisterFault.{RegisterFault}
use Rattle.guard.specs.Reported.{LastFault}
use Rattle.station_jobs.specs.declared.station_fault.StationFault.{StationFault}
use Rattle.station_jobs.specs.declared.station_fault.StationFault.TheVariants as fault
use Rattle.station_jobs.specs.Faults.{of_register}

-- a fault that a job may have by itself: never a failure of the database
abbrev pub IsOwn : StationFault → Type 0
IsOwn fault.Device = ⊥
IsOwn other = Unit {0}

-- `before` and `after` are the faults that the register had reported last. The job's fault is the one that the register
-- reported. Or the register reported none, and the job has the fault by itself.
abbrev pub IsPassedOn : (before after : LastFault) → StationFault → Type 0
IsPassedOn before after e =
    ((reported : RegisterFault) × (after ≡ Some reported) × (e ≡ of_register reported)) ⊎ ((after ≡ before) × IsOwn e)

-- the same for a result: a job that was done had no fault of the register
abbrev pub PassesOn : {A : Type 0} → (before after : LastFault) → Result A StationFault → Type 0
PassesOn before after (Ok x) = after ≡ before
PassesOn before after (Err e) = IsPassedOn before after e
