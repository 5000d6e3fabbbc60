-- The end of a job.
use Rattle.std.specs.Prelude.{◌≡◌, ◌<◌, ◌+◌, ℕ, Result, Ok, Err}
use Rattle.sqlite.specs.declared.error.Error.{Error}
use Rattle.sqlite.specs.declared.error.Error.TheVariants.{SqliteFailure}
use Rattle.sqlite.specs.declared.error.ErrorCode.TheVariants.{OutOfMemory}
use Rattle.office.specs.declared.store_fault.StoreFault.TheVariants.{Device}
use Rattle.files.specs.declared.ending.EndFault.{EndFault}
use Rattle.files.specs.declared.ending.EndFault.TheVariants.{GivenUp, Uncopied}
use Rattle.office_jobs.specs.declared.job_fault.JobFault.{JobFault}
use Rattle.office_jobs.specs.declared.job_fault.JobFault.TheVariants.{NoMemory, Store, Write}

-- the fault of a database that was not opened or closed
abbrev pub of_database : Error → JobFault
of_database (SqliteFailure OutOfMemory) = NoMemory
of_database other = Store Device

-- the fault of a database that was given up, or whose log wasn't copied
abbrev pub of_end : EndFault → JobFault
of_end (GivenUp error) = of_database error
of_end (Uncopied error) = of_database error

-- A fault of the job is kept; if the job succeeded, a fault of the closing is reported.
abbrev pub closed : {A : Type 0} → Result A JobFault → (closing : Result (Unit {0}) EndFault) → Result A JobFault
closed (Err e) closing = Err e
closed (Ok x) (Ok done) = Ok x
closed (Ok x) (Err fault) = Err (of_end fault)

-- the status of this result
abbrev pub status : {A : Type 0} → Result A JobFault → ℕ
status (Ok x) = 0
status (Err e) = 1

-- How often calls of an output have failed after a job that printed to it: once more if the fault is the output's.
abbrev pub failures_after : {A : Type 0} → ℕ → Result A JobFault → ℕ
failures_after before (Err Write) = before + 1
failures_after before other = before

-- A job that was done had no call of the output fail, and all of its output was flushed. `Write` is its fault only if
-- such a call failed.
abbrev pub Heeds : {A : Type 0} → (before after : ℕ) → (flushed : Type 0) → Result A JobFault → Type 0
Heeds before after flushed (Ok x) = (after ≡ before) × flushed
Heeds before after flushed (Err Write) = before < after
Heeds before after flushed (Err other) = Unit {0}
