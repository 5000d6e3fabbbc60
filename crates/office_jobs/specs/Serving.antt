-- An office in a database, served at a port.
use Rattle.std.specs.Prelude.{◌≡◌, ◌≤◌, ℕ, List, [], length, map, flat_map, All, IsTrue, Option, Some, None, Result}
use Rattle.std.specs.Prelude.{Ok, Err}
use Rattle.std.specs.declared.io.ErrorKind.{ErrorKind}
use Rattle.std.specs.Io.KnownBytes.{Appends, Consumes}
use Rattle.wire.specs.Streams.{AppendsBeginning}
use Rattle.sqlite.specs.State.{HasCleanDisk, State}
use Rattle.office.specs.declared.store_fault.StoreFault.TheVariants as store
use Rattle.web.specs.Runs.{Serves as AllServed}
use Rattle.server.specs.Books.{Book}
use Rattle.server.specs.Connections.{ChangesNothing, Extends, TellsAll, Visit, drawn_of, exchange_of, given_of}
use Rattle.server.specs.Connections.{visit_lines}
use Rattle.server.specs.Names.{listening_line, no_memory_line}
use Rattle.store.specs.Transactions.{IsAsBefore}
use Rattle.store.specs.Meaning.{KeepsTelling, Tells}
use Rattle.office_jobs.specs.declared.job_fault.JobFault.{JobFault}
use Rattle.office_jobs.specs.declared.job_fault.JobFault.TheVariants.{NoMemory, Socket, Store, Write}
use Rattle.office_jobs.specs.Opening.{IsUnopened}

-- What `connections` connections did, in order, between the old and the new tables. Each got its specified response, or
-- a fault, and `said` has the lines of the faults. If one was answered since the last fault, the tables represent the
-- history and the connection is open. If each visit with a message was refused or closed, the database is unchanged,
-- whatever its tables mean.
pub record MeetsOver (connections : ℕ) (book book' : Option Book) (nonces nonces' : Option (List ℕ)) (said : List ℕ)
    (old new : State) : Type 0 where
  pub visits : List Visit
  pub all : length visits ≡ connections
  pub told : TellsAll visits book book'
  pub drawn : Consumes nonces nonces' (flat_map drawn_of visits)
  pub lines : said ≡ visit_lines 1 visits
  pub served : HasCleanDisk new → AllServed (Tells old) (Tells new) (λ o l. Tells new o l × IsTrue new.is_open)
      (map exchange_of visits) (map given_of visits)
  pub reads : HasCleanDisk new → All ChangesNothing visits → IsAsBefore old new

-- The connections in the listener's book were handled, each with the specified response or a fault. Or there was no
-- memory to begin with, and nothing has changed. `said` has the lines of the faults, whatever the disk has returned.
pub record IsServed (connections : ℕ) (book : Option Book) (nonces : Option (List ℕ)) (said : List ℕ)
    (old new : State) (status : ℕ) : Type 0 where
  pub met : status ≡ 0
      → (book' : Option Book) × (left : Option (List ℕ)) × MeetsOver connections book book' nonces left said old new
  pub unmet : status ≡ 1 → HasCleanDisk new → IsAsBefore old new × KeepsTelling old new
  pub lacking : status ≡ 1 → said ≡ no_memory_line
  pub served : HasCleanDisk new → Extends connections (Tells old) (Tells new)
  pub lawful : status ≤ 1

-- The result of listening: nobody tried, or there is a listener with this book at a port, or there is none.
abbrev pub Heard : Type 0
Heard = Option (Result (Option Book × ℕ) ErrorKind)

-- The outcome. Nobody listens before the office is open. Then the line of the port is printed, and the listener's
-- connections are served. `said` has the lines of their faults: none if nobody was served. Only what is said of the
-- tables assumes a disk that has returned what was written.
abbrev pub ServesOffice : (connections : ℕ) → (source : Option (List ℕ)) → Heard → (said : List ℕ) → (old new : State)
    → (held holds : Option (List ℕ)) → Result ℕ JobFault → Type 0
ServesOffice connections source heard said old new held holds (Ok status) =
    (book : Option Book) × (port : ℕ) × (heard ≡ Some (Ok (book, port))) × Appends held holds (listening_line port)
    × IsServed connections book source said old new status
ServesOffice connections source heard said old new held holds (Err Socket) =
    (kind : ErrorKind) × (heard ≡ Some (Err kind)) × (holds ≡ held) × (said ≡ [])
    × (HasCleanDisk new → IsAsBefore old new × KeepsTelling old new)
ServesOffice connections source heard said old new held holds (Err Write) =
    (at : Option Book × ℕ) × (heard ≡ Some (Ok at)) × AppendsBeginning held holds (listening_line at.1) × (said ≡ [])
    × (HasCleanDisk new → IsAsBefore old new × KeepsTelling old new)
ServesOffice connections source heard said old new held holds (Err NoMemory) =
    (heard ≡ None) × (holds ≡ held) × (said ≡ []) × (HasCleanDisk new → IsUnopened old new store.NoMemory)
ServesOffice connections source heard said old new held holds (Err (Store e)) =
    (heard ≡ None) × (holds ≡ held) × (said ≡ []) × (HasCleanDisk new → IsUnopened old new e)
ServesOffice connections source heard said old new held holds (Err _) = ⊥
