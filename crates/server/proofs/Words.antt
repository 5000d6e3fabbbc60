-- Names from the libraries and the definitions, for several proof files.
pub use Rattle.http_requests.specs.Asks.{Ask}
pub use Rattle.office.specs.declared.arrival.Arrival.{Arrival}
pub use Rattle.office.specs.declared.opening.Opening.{Opening}
pub use Rattle.office.specs.declared.registry.Registry.{Ghosts}
pub use Rattle.std.proofs.Common.{Err, List, None, Ok, OnOk, Option, Result, [], ap, arith, inl, inr, length}
pub use Rattle.std.proofs.Common.{length-append, refl, subst, sym, ℕ, ◌++◌, ◌+◌, ◌∙◌, ◌∷◌, ◌≡◌, ◌≤◌}
pub use Rattle.std.proofs.KnownBytes.{Appends-trans, Consumes-nil}
pub use Rattle.std.proofs.lemmas.List.{append-nil}
pub use Rattle.std.specs.Io.KnownBytes.{Appends, Consumes, Keeps}
pub use Rattle.std.specs.Prelude.{map}
pub use Rattle.values.specs.declared.limits.TheConstants.{LATEST_MOMENT}
pub use Rattle.waiting.specs.Knowing.{MeansKnown}
pub use Rattle.web.specs.Answers.{with_ask}
pub use Rattle.web.specs.Runs.{AllDue}
pub use Rattle.server.specs.Books.{Book, WhereTold}
pub use Rattle.server.specs.Connections.{AreServed, Extends, MeetsTold, Talk, TellsVisit, Visit, ServesConnections}
pub use Rattle.server.specs.Connections.{Visits}
pub use Rattle.server.specs.Connections.{answered, closed, cut, exchange_of, given_of}
pub use Rattle.server.specs.declared.connection_fault.Fault.{Fault}
