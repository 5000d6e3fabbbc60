-- What a job's run was asked and what it gave, determined from its result and from what was printed.
use Rattle.std.specs.Prelude.{◌≡◌, ◌∷◌, ℕ, List, [], length, map, flat_map, false, true, Option, Some, None, Result, Ok}
use Rattle.std.specs.Prelude.{Err}
use Rattle.std.specs.Io.KnownBytes.{Appends, Consumes}
use Rattle.wire.specs.Streams.{AppendsBeginning}
use Rattle.http_requests.specs.declared.resource.Resource.{Resource}
use Rattle.http_requests.specs.declared.resource.Resource.TheVariants as resource
use Rattle.http_requests.specs.declared.response.MediaType.{MediaType}
use Rattle.http_requests.specs.declared.response.MediaType.TheVariants.{Bytes, PlainText}
use Rattle.http_requests.specs.Asks.{Asks, get}
use Rattle.http_requests.specs.Responses.{response_text}
use Rattle.office.specs.declared.opening.Opening.{Opening}
use Rattle.web.specs.declared.exchange.Exchange.{Exchange}
use Rattle.web.specs.declared.exchange.Given.{Given}
use Rattle.web.specs.declared.exchange.Given.TheVariants as given
use Rattle.web.specs.declared.exchange.Given.TheVariants.{Answer}
use Rattle.exchanges.specs.Printing.{all_given_text, has_fault}
use Rattle.server.specs.Books.{Book}
use Rattle.server.specs.Connections.{TellsAll, Visit, drawn_of, exchange_of, given_of}
use Rattle.restart.specs.Lives.{Asked, GivesNone}
use Rattle.office_jobs.specs.declared.job.OfficeJob.{OfficeJob}
use Rattle.office_jobs.specs.declared.job.OfficeJob.TheVariants.{Apply, Init, Krl, Migrate, Signers, Table}
use Rattle.office_jobs.specs.declared.job_fault.JobFault.{JobFault}
use Rattle.office_jobs.specs.declared.job_fault.JobFault.TheVariants.{Fault, Write}
use Rattle.office_jobs.specs.Serving.{Heard}

-- ---- runs that gave no response

-- every exchange got a fault
abbrev pub IsIdle : Asked → Type 0
IsIdle asked = asked.given ≡ map (λ _. given.Fault) asked.exchanges

-- ---- jobs

-- no exchange, and no new office
abbrev pub nothing_asked : Asked
nothing_asked = record { founds = None; exchanges = []; given = [] }

-- a new office with this opening
abbrev pub founding_asked : Opening → Asked
founding_asked opening = record { founds = Some opening; exchanges = []; given = [] }

-- All responses and faults of the exchanges are printed, and `Fault` means that some are faults. Or the output failed,
-- and a beginning of them is printed. Or no response was given, and nothing is printed.
abbrev pub IsGiven : (held holds : Option (List ℕ)) → Result (Unit {0}) JobFault → Asked → Type 0
IsGiven held holds (Ok done) asked = Appends held holds (all_given_text asked.given) × (has_fault asked.given ≡ false)
IsGiven held holds (Err Fault) asked = Appends held holds (all_given_text asked.given) × (has_fault asked.given ≡ true)
IsGiven held holds (Err Write) asked = AppendsBeginning held holds (all_given_text asked.given)
IsGiven held holds (Err other) asked = GivesNone asked × (holds ≡ held)

-- these exchanges were asked, with these responses and faults
pub record AsksExchanges (exchanges : List Exchange) (held holds : Option (List ℕ)) (r : Result (Unit {0}) JobFault)
    (asked : Asked) : Type 0 where
  pub founds : asked.founds ≡ None
  pub are_its : asked.exchanges ≡ exchanges
  pub given : IsGiven held holds r asked

-- The body of the response is printed, or a beginning of it if the output failed. Or the request got a fault, and
-- nothing is printed.
abbrev pub IsShown : MediaType → (held holds : Option (List ℕ)) → Result (Unit {0}) JobFault → List Given → Type 0
IsShown media held holds (Ok done) gave =
    (body : List ℕ) × Appends held holds body × (gave ≡ Answer (response_text 200 media body) ∷ [])
IsShown media held holds (Err Write) gave =
    (body : List ℕ) × AppendsBeginning held holds body × (gave ≡ Answer (response_text 200 media body) ∷ [])
IsShown media held holds (Err other) gave = (gave ≡ given.Fault ∷ []) × (holds ≡ held)

-- A GET of this resource was asked, with this response or fault. The body of the response has this type.
pub record AsksResource (wanted : Resource) (media : MediaType) (held holds : Option (List ℕ))
    (r : Result (Unit {0}) JobFault) (asked : Asked) : Type 0 where
  pub founds : asked.founds ≡ None
  pub get_of : Exchange
  pub asks : Asks get_of.request (get wanted)
  pub one : asked.exchanges ≡ get_of ∷ []
  pub shown : IsShown media held holds r asked.given

-- What a job asks of the office in a database. The list and the reports print the response to a GET. A migration has no
-- exchanges.
abbrev pub AsksOffice : OfficeJob → (held holds : Option (List ℕ)) → Result (Unit {0}) JobFault → Asked → Type 0
AsksOffice (Init opening) held holds r asked = asked ≡ founding_asked opening.now
AsksOffice (Apply exchanges) held holds r asked = AsksExchanges exchanges.now held holds r asked
AsksOffice Krl held holds r asked = AsksResource resource.RevocationList Bytes held holds r asked
AsksOffice Signers held holds r asked = AsksResource resource.Signers PlainText held holds r asked
AsksOffice Table held holds r asked = AsksResource resource.Table PlainText held holds r asked
AsksOffice Migrate held holds r asked = asked ≡ nothing_asked

-- ---- servers

-- what visits asked and got
abbrev pub asked_in_visits : List Visit → Asked
asked_in_visits visits = record { founds = None; exchanges = map exchange_of visits; given = map given_of visits }

-- These were the visits of `connections` connections, as in the listener's book, with the source's next nonces.
pub record AreVisited (connections : ℕ) (book : Option Book) (nonces : Option (List ℕ)) (asked : Asked)
    : Type 0 where
  pub visits : List Visit
  pub all : length visits ≡ connections
  pub after : Option Book
  pub told : TellsAll visits book after
  pub left : Option (List ℕ)
  pub drawn : Consumes nonces left (flat_map drawn_of visits)
  pub are_its : asked ≡ asked_in_visits visits

-- Connections were served: each of them if the status is 0, otherwise none.
pub record AsksServer (connections : ℕ) (nonces : Option (List ℕ)) (heard : Heard) (status : ℕ) (asked : Asked)
    : Type 0 where
  pub book : Option Book
  pub port : ℕ
  pub at : heard ≡ Some (Ok (book, port))
  pub met : status ≡ 0 → AreVisited connections book nonces asked
  pub unmet : status ≡ 1 → asked ≡ nothing_asked

-- What a server was asked. A server that couldn't serve was asked nothing.
abbrev pub AsksServing : ℕ → (nonces : Option (List ℕ)) → Heard → Result ℕ JobFault → Asked → Type 0
AsksServing connections source heard (Ok status) asked = AsksServer connections source heard status asked
AsksServing connections source heard (Err e) asked = asked ≡ nothing_asked
