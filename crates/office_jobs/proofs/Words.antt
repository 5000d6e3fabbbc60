-- Names from the libraries and the definitions, for several proof files.
pub use Rattle.exchanges.specs.Reading.{rest_after}
pub use Rattle.exchanges.specs.declared.running.RunFault.{RunFault}
pub use Rattle.headline.specs.Headline.{OfficePrints, OfficePrintsPart}
pub use Rattle.http_requests.specs.Asks.{Asks, get}
pub use Rattle.http_requests.specs.Responses.{response_text}
pub use Rattle.http_requests.specs.declared.resource.Resource.TheVariants.{RevocationList, Signers, Table}
pub use Rattle.http_requests.specs.declared.response.MediaType.TheVariants.{PlainText}
pub use Rattle.lines.specs.declared.key_line.KeyLine.{KeyLine}
pub use Rattle.office.specs.Faults.{IsOfARegister}
pub use Rattle.office.specs.declared.arrival.Arrival.{Arrival}
pub use Rattle.office.specs.declared.opening.Opening.{Opening}
pub use Rattle.office.specs.declared.store_fault.StoreFault.{StoreFault}
pub use Rattle.restart.specs.Lives.{Asked}
pub use Rattle.restart.specs.Runs.{AddsArrivals}
pub use Rattle.files.specs.declared.ending.EndFault.{EndFault}
pub use Rattle.server.specs.Books.{Book}
pub use Rattle.sqlite.proofs.Callers.{memory_is_clean}
pub use Rattle.sqlite.specs.Held.{Held, state}
pub use Rattle.sqlite.specs.State.{HasCleanDisk, State}
pub use Rattle.sqlite.specs.Steps.{over_memory}
pub use Rattle.std.proofs.Common.{All, Bool, Bor, Err, List, None, Ok, Option, Result, Some, [], ap, append_assoc}
pub use Rattle.std.proofs.Common.{arith, codes, decimal, false, inl, inr, length, length-append, refl, subst, sym, true}
pub use Rattle.std.proofs.Common.{ℕ, ◌++◌, ◌+◌, ◌<◌, ◌^◌, ◌∙◌, ◌∷◌, ◌≡◌, ◌≢◌, ◌≤◌}
pub use Rattle.std.proofs.lemmas.Result.{IfErr-weaker}
pub use Rattle.std.specs.Io.KnownBytes.{Appends}
pub use Rattle.std.specs.List.{list_any}
pub use Rattle.std.specs.Prelude.{IfErr, IfOk, IfSome, IsTrue, OnOk}
pub use Rattle.std.specs.declared.io.ErrorKind.{ErrorKind}
pub use Rattle.store.specs.Meaning.{DiskFailed, IsBlank, KeepsTelling, Stores, Tells}
pub use Rattle.store.specs.Migrating.{IsExcused}
pub use Rattle.store.specs.Transactions.{IsAsBefore}
pub use Rattle.store_sql.specs.Look.{is_office_table}
pub use Rattle.store_sql.specs.Schema.{whole}
pub use Rattle.values.specs.declared.limits.TheConstants.{LAST_SERIAL}
pub use Rattle.wire.specs.Streams.{AppendsBeginning}
pub use Rattle.web.specs.declared.exchange.Exchange.{Exchange}
pub use Rattle.web.specs.declared.exchange.Given.{Given}
pub use Rattle.office_jobs.specs.Applying.{Applies, AppliesAll}
pub use Rattle.office_jobs.specs.Asked.{AsksExchanges, AsksOffice, AsksServing}
pub use Rattle.office_jobs.specs.Ending.{Heeds, failures_after}
pub use Rattle.office_jobs.specs.Faults.{IsOfATrial, IsOfExchanges, IsUnwritten, of_store, run_result}
pub use Rattle.office_jobs.specs.Finding.{OpensFor, OpensThere}
pub use Rattle.office_jobs.specs.Jobs.{DoesOfficeJob}
pub use Rattle.office_jobs.specs.Listing.{PrintsKrl}
pub use Rattle.office_jobs.specs.Making.{IsUnmade, MakesOffice, MigratesOffice}
pub use Rattle.office_jobs.specs.Opening.{IsOpened, IsUnopened, IsUnprinted}
pub use Rattle.office_jobs.specs.Reading.{IsKeyText}
pub use Rattle.office_jobs.specs.Reporting.{IsReport, Reports, resource_of}
pub use Rattle.office_jobs.specs.Serving.{Heard, MeetsOver, ServesOffice}
pub use Rattle.office_jobs.specs.Steps.{Follows}
pub use Rattle.office_jobs.specs.TrialOffice.{opening_of}
pub use Rattle.office_jobs.specs.Whole.{heard_of}
pub use Rattle.office_jobs.specs.declared.job.OfficeJob.{OfficeJob}
pub use Rattle.office_jobs.specs.declared.job_fault.JobFault.{JobFault}
pub use Rattle.office_jobs.specs.declared.job_fault.JobFault.TheVariants.{BadExchange, Fault, File, NoMemory, Write}
pub use Rattle.office_jobs.specs.declared.reporting.Report.{Report}
pub use Rattle.office_jobs.specs.declared.world.World.{Ghosts}
