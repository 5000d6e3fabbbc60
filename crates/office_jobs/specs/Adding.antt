-- What a job adds to the history that the tables represent.
use Rattle.std.specs.Prelude.{ℕ, List, IsTrue, Option, Result}
use Rattle.sqlite_trees.specs.declared.store.Store.{Ghosts}
use Rattle.sqlite.specs.Held.{Held, state}
use Rattle.sqlite.specs.State.{HasCleanDisk}
use Rattle.restart.specs.Runs.{AddsArrivals}
use Rattle.office_jobs.specs.declared.job.OfficeJob.{OfficeJob}
use Rattle.office_jobs.specs.declared.job_fault.JobFault.{JobFault}
use Rattle.office_jobs.specs.Jobs.{DoesOfficeJob}
use Rattle.office_jobs.specs.Serving.{Heard, ServesOffice}

module _ {S : Type 0} (g : Ghosts S) (new : Held S) where
  -- For a job over an open connection: each history that the tables represented is represented with arrivals after it.
  abbrev pub JobsAddArrivals : Type 0
  JobsAddArrivals =
      (old : Held S) → IsTrue (state g old).is_open
      → (job : OfficeJob) (held holds : Option (List ℕ)) (r : Result (Unit {0}) JobFault)
      → DoesOfficeJob job (state g old) (state g new) held holds r → AddsArrivals (state g old) (state g new)

  -- the same for a server, if the disk has been faithful
  abbrev pub ServersAddArrivals : Type 0
  ServersAddArrivals =
      (old : Held S) → IsTrue (state g old).is_open
      → (connections : ℕ) (nonces : Option (List ℕ)) (heard : Heard) (said : List ℕ) (held holds : Option (List ℕ))
      (r : Result ℕ JobFault) → ServesOffice connections nonces heard said (state g old) (state g new) held holds r
      → HasCleanDisk (state g new) → AddsArrivals (state g old) (state g new)
