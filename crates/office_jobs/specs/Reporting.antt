-- A report of the office in a database, printed.
use Rattle.std.specs.Prelude.{◌≡◌, ℕ, List, Option, Result, Ok, Err}
use Rattle.std.specs.Io.KnownBytes.{Appends}
use Rattle.wire.specs.Streams.{AppendsBeginning}
use Rattle.sqlite.specs.State.{State as Connection}
use Rattle.http_requests.specs.declared.resource.Resource.{Resource}
use Rattle.http_requests.specs.declared.resource.Resource.TheVariants as resource
use Rattle.http_requests.specs.declared.response.MediaType.TheVariants.{PlainText}
use Rattle.http_requests.specs.Responses.{response_text}
use Rattle.office.specs.declared.opening.Opening.{Opening}
use Rattle.office.specs.declared.arrival.Arrival.{Arrival}
use Rattle.office.specs.declared.store_fault.StoreFault.TheVariants as store
use Rattle.office.specs.State.{State}
use Rattle.office.specs.History.{state}
use Rattle.store.specs.Transactions.{IsAsBefore}
use Rattle.store.specs.Meaning.{Stores, Tells}
use Rattle.web.specs.Forms.{MayShow}
use Rattle.web.specs.Reports.{signers_report, table_report}
use Rattle.office_jobs.specs.declared.job_fault.JobFault.{JobFault}
use Rattle.office_jobs.specs.declared.job_fault.JobFault.TheVariants.{NoMemory, Store, Write}
use Rattle.office_jobs.specs.declared.reporting.Report.{Report}
use Rattle.office_jobs.specs.declared.reporting.Report.TheVariants.{Signers, Table}
use Rattle.office_jobs.specs.Opening.{IsUnprinted}

-- the resource of a report; the report is the body of its response
abbrev pub resource_of : Report → Resource
resource_of Signers = resource.Signers
resource_of Table = resource.Table

-- a report of an office
abbrev pub report_text : Report → State → List ℕ
report_text Signers s = signers_report s
report_text Table s = table_report s

-- This text is the body of a response to a GET of the resource, made of some rows, whatever the tables mean. It is the
-- report of the office after the history that they represented, and they durably represent it.
pub record IsReportOf (report : Report) (old new : Connection) (text : List ℕ) : Type 0 where
  pub form : MayShow (resource_of report) (response_text 200 PlainText text)
  pub is : (o : Opening) (l : List Arrival) → Tells old o l → (text ≡ report_text report (state o l)) × Stores new o l

-- such a text is printed
abbrev pub IsReported : Report → (old new : Connection) → (held holds : Option (List ℕ)) → Type 0
IsReported report old new held holds =
    (text : List ℕ) × Appends held holds text × IsReportOf report old new text

-- a call of the output failed, and a beginning of such a text is printed
abbrev pub IsPartReported : Report → (old new : Connection) → (held holds : Option (List ℕ)) → Type 0
IsPartReported report old new held holds =
    (text : List ℕ) × AppendsBeginning held holds text × IsReportOf report old new text

-- the outcome, apart from the fact that no table has changed
abbrev pub IsReport : Report → (old new : Connection) → (held holds : Option (List ℕ)) → Result (Unit {0}) JobFault
    → Type 0
IsReport report old new held holds (Ok done) = IsReported report old new held holds
IsReport report old new held holds (Err Write) = IsPartReported report old new held holds
IsReport report old new held holds (Err NoMemory) = IsUnprinted old new held holds store.NoMemory
IsReport report old new held holds (Err (Store e)) = IsUnprinted old new held holds e
IsReport report old new held holds (Err other) = ⊥

-- No table has changed, whatever the tables mean, and this is the outcome of the report.
pub record Reports (report : Report) (old new : Connection) (held holds : Option (List ℕ))
    (result : Result (Unit {0}) JobFault) : Type 0 where
  pub before : IsAsBefore old new
  pub came : IsReport report old new held holds result
