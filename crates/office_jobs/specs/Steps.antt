-- Steps of a job, in sequence.
use Rattle.std.specs.Prelude.{◌≡◌, Result, Ok, Err}
use Rattle.office_jobs.specs.declared.job_fault.JobFault.{JobFault}

-- Two steps: the second used the result of the first. If the first failed, its fault is the result of both.
abbrev pub Follows : {A B : Type 0} → (Used : A → Result B JobFault → Type 0) → (Nothing : Type 0) → Result A JobFault
    → Result B JobFault → Type 0
Follows Used Nothing (Ok x) result = Used x result
Follows Used Nothing (Err e) result = (result ≡ Err e) × Nothing
