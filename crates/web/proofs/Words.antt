-- Names from the libraries and the definitions, for several proof files.
pub use Rattle.http_requests.proofs.OneAsk.{one_of}
pub use Rattle.http_requests.specs.Asks.{Ask, Asks}
pub use Rattle.http_requests.specs.Places.{IsAt}
pub use Rattle.http_requests.specs.Plans.{Plans}
pub use Rattle.http_requests.specs.Reading.{HasCome, WaitsBefore}
pub use Rattle.http_requests.specs.declared.plan.Plan.TheVariants.{Refused}
pub use Rattle.http_requests.specs.declared.progress.Progress.TheVariants.{Waits}
pub use Rattle.office.proofs.Registers.{preserves_both}
pub use Rattle.office.specs.Faults.{HasRegisterCause, IsOfARegister}
pub use Rattle.office.specs.History.{due, state}
pub use Rattle.office.specs.Shows.{IsOffice}
pub use Rattle.office.specs.State.{State}
pub use Rattle.office.specs.declared.arrival.Arrival.{Arrival}
pub use Rattle.office.specs.declared.certificate.Certificate.{Certificate}
pub use Rattle.office.specs.declared.opening.Opening.{Opening}
pub use Rattle.office.specs.declared.store_fault.StoreFault.{StoreFault}
pub use Rattle.office.specs.declared.store_fault.StoreFault.TheVariants.{AlreadyAnOffice, Damaged, Device, NoMemory}
pub use Rattle.office.specs.declared.store_fault.StoreFault.TheVariants.{NotAnOffice, WrongSchema}
pub use Rattle.std.proofs.Common.{Bool, List, None, Option, Some, [], ap, append_assoc, arith, drop, get_or, inl, inr}
pub use Rattle.std.proofs.Common.{length, length-append, map, refl, subst, suc, sym, take, ℕ, ◌++◌, ◌+◌, ◌<◌, ◌∙◌, ◌∷◌}
pub use Rattle.std.proofs.Common.{◌≡◌, ◌≤◌}
pub use Rattle.std.specs.Io.KnownBytes.{Consumes}
pub use Rattle.std.specs.List.{flat_map}
pub use Rattle.std.specs.Prelude.{Err, IfErr, IfOk, Ok, Result, Vec}
pub use Rattle.std.specs.declared.alloc.Global.{Global}
pub use Rattle.web.specs.Answers.{AsksNoChange, IsAnswered, Keeps, arrival_by}
pub use Rattle.web.specs.Batches.{line_among, line_as}
pub use Rattle.web.specs.Reports.{pending_lines, table_report}
pub use Rattle.web.specs.Requests.{request_ask}
pub use Rattle.web.specs.declared.exchange.Exchange.{Exchange}
pub use Rattle.web.specs.declared.exchange.Given.{Given}
pub use Rattle.web.specs.declared.exchange.Given.TheVariants.{Answer}
