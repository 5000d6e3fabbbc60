-- What a job adds to the history that the tables represent.
use Rattle.office_jobs.proofs.Words.{AddsArrivals, Applies, Arrival, Bool, DoesOfficeJob, Err, Exchange, Given, HasCleanDisk, Heard}
use Rattle.office_jobs.proofs.Words.{IsReport, IsTrue, JobFault, KeepsTelling, List, PrintsKrl, MakesOffice}
use Rattle.office_jobs.proofs.Words.{MigratesOffice, OfficeJob, OfficePrints, Ok, Opening, Option, Report, Result}
use Rattle.office_jobs.proofs.Words.{ServesOffice, State, Tells, [], false, subst, sym, true, whole, ℕ, ◌≢◌}
use Rattle.std.proofs.Common.{append-nil}
use Rattle.web.specs.Runs.{Serves as AllServed}
use Rattle.restart.proofs.Adding.{arrivals_stay}
use Rattle.office_jobs.specs.declared.job.OfficeJob.TheVariants as job
use Rattle.office_jobs.specs.declared.job_fault.JobFault.TheVariants as fault
use Rattle.office_jobs.specs.declared.reporting.Report.TheVariants as report

-- tables that represent what they represented before add nothing
adds_none : (old new : State) → KeepsTelling old new → AddsArrivals old new
adds_none old new tells o l told = ([], subst (Tells new o) (sym (append-nil l)) (tells o l told))

-- exchanges add their arrivals
adds_run : (old new : State) (keeps : Opening → List Arrival → Type 0) (exchanges : List Exchange) (given : List Given)
    → AllServed (Tells old) (Tells new) keeps exchanges given → AddsArrivals old new
adds_run old new keeps exchanges given served o l told =
    let run = served o l told in
    let more = arrivals_stay o l exchanges given run.0 run.1 in
    (more.0, subst (Tells new o) more.1 run.2)

-- ---- each job

module _ (old new : State) (was : IsTrue old.is_open) where
  -- no office is made in a database that has one
  not_new : old.now.schema ≢ whole → AddsArrivals old new
  not_new none o l told = absurd (none (told.rows was).now.schema)

  made : (opening : Opening) (r : Result Unit JobFault) → MakesOffice opening old new r → AddsArrivals old new
  made opening (Ok done) h = not_new h.unlike
  made opening (Err fault.NoMemory) h = adds_none old new h.tells
  made opening (Err (fault.Store e)) h = adds_none old new h.tells
  made opening (Err fault.File) h = absurd h
  made opening (Err fault.Write) h = absurd h
  made opening (Err fault.Socket) h = absurd h
  made opening (Err (fault.Connection x)) h = absurd h
  made opening (Err fault.Mismatch) h = absurd h
  made opening (Err (fault.BadExchange k)) h = absurd h
  made opening (Err (fault.Line x)) h = absurd h
  made opening (Err (fault.Opening x)) h = absurd h
  made opening (Err (fault.List x)) h = absurd h
  made opening (Err fault.Fault) h = absurd h

  moved : (r : Result Unit JobFault) → MigratesOffice old new r → AddsArrivals old new
  moved (Ok done) h = not_new h.unlike
  moved (Err fault.NoMemory) h = adds_none old new h.tells
  moved (Err (fault.Store e)) h = adds_none old new h.tells
  moved (Err fault.File) h = absurd h
  moved (Err fault.Write) h = absurd h
  moved (Err fault.Socket) h = absurd h
  moved (Err (fault.Connection x)) h = absurd h
  moved (Err fault.Mismatch) h = absurd h
  moved (Err (fault.BadExchange k)) h = absurd h
  moved (Err (fault.Line x)) h = absurd h
  moved (Err (fault.Opening x)) h = absurd h
  moved (Err (fault.List x)) h = absurd h
  moved (Err fault.Fault) h = absurd h

  printed : (exchanges : List Exchange) (held holds : Option (List ℕ)) (is_fault : Bool)
      → OfficePrints old new exchanges held holds is_fault → AddsArrivals old new
  printed exchanges held holds is_fault h = adds_run old new _ exchanges h.prints.given h.prints.serves

  applied : (exchanges : List Exchange) (held holds : Option (List ℕ)) (r : Result Unit JobFault)
      → Applies exchanges old new held holds r → AddsArrivals old new
  applied exchanges held holds (Ok done) h = printed exchanges held holds false h
  applied exchanges held holds (Err fault.Fault) h = printed exchanges held holds true h
  applied exchanges held holds (Err fault.Write) h = adds_run old new _ exchanges h.prints.given h.prints.serves
  applied exchanges held holds (Err fault.NoMemory) h = adds_none old new h.1.tells
  applied exchanges held holds (Err (fault.Store e)) h = adds_none old new h.0.tells
  applied exchanges held holds (Err fault.File) h = absurd h
  applied exchanges held holds (Err fault.Socket) h = absurd h
  applied exchanges held holds (Err (fault.Connection x)) h = absurd h
  applied exchanges held holds (Err fault.Mismatch) h = absurd h
  applied exchanges held holds (Err (fault.BadExchange k)) h = absurd h
  applied exchanges held holds (Err (fault.Line x)) h = absurd h
  applied exchanges held holds (Err (fault.Opening x)) h = absurd h
  applied exchanges held holds (Err (fault.List x)) h = absurd h

  listed : (held holds : Option (List ℕ)) (r : Result Unit JobFault) → PrintsKrl old new held holds r → AddsArrivals old new
  listed held holds (Ok done) h = adds_none old new (λ o l told. (h.1.3 o l told).tells)
  listed held holds (Err fault.Write) h = adds_none old new (λ o l told. (h.1.3 o l told).tells)
  listed held holds (Err fault.NoMemory) h = adds_none old new h.1.tells
  listed held holds (Err (fault.Store e)) h = adds_none old new h.1.tells
  listed held holds (Err fault.File) h = absurd h
  listed held holds (Err fault.Socket) h = absurd h
  listed held holds (Err (fault.Connection x)) h = absurd h
  listed held holds (Err fault.Mismatch) h = absurd h
  listed held holds (Err (fault.BadExchange k)) h = absurd h
  listed held holds (Err (fault.Line x)) h = absurd h
  listed held holds (Err (fault.Opening x)) h = absurd h
  listed held holds (Err (fault.List x)) h = absurd h
  listed held holds (Err fault.Fault) h = absurd h

  reported : (which : Report) (held holds : Option (List ℕ)) (r : Result Unit JobFault)
      → IsReport which old new held holds r → AddsArrivals old new
  reported which held holds (Ok done) h = adds_none old new (λ o l told. (h.2.is o l told).1.tells)
  reported which held holds (Err fault.Write) h = adds_none old new (λ o l told. (h.2.is o l told).1.tells)
  reported which held holds (Err fault.NoMemory) h = adds_none old new h.tells
  reported which held holds (Err (fault.Store e)) h = adds_none old new h.tells
  reported which held holds (Err fault.File) h = absurd h
  reported which held holds (Err fault.Socket) h = absurd h
  reported which held holds (Err (fault.Connection x)) h = absurd h
  reported which held holds (Err fault.Mismatch) h = absurd h
  reported which held holds (Err (fault.BadExchange k)) h = absurd h
  reported which held holds (Err (fault.Line x)) h = absurd h
  reported which held holds (Err (fault.Opening x)) h = absurd h
  reported which held holds (Err (fault.List x)) h = absurd h
  reported which held holds (Err fault.Fault) h = absurd h

  pub done : (job : OfficeJob) (held holds : Option (List ℕ)) (r : Result Unit JobFault)
      → DoesOfficeJob job old new held holds r → AddsArrivals old new
  done (job.Init opening) held holds r h = made opening.now r h.0
  done (job.Apply exchanges) held holds r h = applied exchanges.now held holds r h.applies
  done job.Krl held holds r h = listed held holds r h
  done job.Signers held holds r h = reported report.Signers held holds r h.came
  done job.Table held holds r h = reported report.Table held holds r h.came
  done job.Migrate held holds r h = moved r h.0

  pub served : (connections : ℕ) (source : Option (List ℕ)) (heard : Heard) (said : List ℕ)
      (held holds : Option (List ℕ)) (r : Result ℕ JobFault)
      → ServesOffice connections source heard said old new held holds r → HasCleanDisk new → AddsArrivals old new
  served connections source heard said held holds (Ok status) h clean =
      λ o l told. let more = h.4.served clean o l told in (more.more, more.history)
  served connections source heard said held holds (Err fault.Socket) h clean = adds_none old new (h.4 clean).1
  served connections source heard said held holds (Err fault.Write) h clean = adds_none old new (h.4 clean).1
  served connections source heard said held holds (Err fault.NoMemory) h clean = adds_none old new (h.3 clean).tells
  served connections source heard said held holds (Err (fault.Store e)) h clean =
      adds_none old new (h.3 clean).tells
  served connections source heard said held holds (Err fault.File) h clean = absurd h
  served connections source heard said held holds (Err (fault.Connection x)) h clean = absurd h
  served connections source heard said held holds (Err fault.Mismatch) h clean = absurd h
  served connections source heard said held holds (Err (fault.BadExchange k)) h clean = absurd h
  served connections source heard said held holds (Err (fault.Line x)) h clean = absurd h
  served connections source heard said held holds (Err (fault.Opening x)) h clean = absurd h
  served connections source heard said held holds (Err (fault.List x)) h clean = absurd h
  served connections source heard said held holds (Err fault.Fault) h clean = absurd h
