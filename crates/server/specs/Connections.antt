-- What connections do to a listener, to a nonce source and to a register.
use Rattle.std.specs.Prelude.{◌≡◌, ◌≤◌, ◌+◌, ℕ, List, [], ◌∷◌, ◌++◌, length, take, map, flat_map}
use Rattle.std.specs.Prelude.{All, Option, Some, Result, Ok, Err, false, true}
use Rattle.std.specs.Io.KnownBytes.{Appends, Consumes}
use Rattle.office.specs.declared.opening.Opening.{Opening}
use Rattle.office.specs.declared.arrival.Arrival.{Arrival}
use Rattle.office.specs.declared.registry.Registry.{Ghosts}
use Rattle.web.specs.declared.exchange.Exchange.{Exchange}
use Rattle.web.specs.declared.exchange.Given.{Given}
use Rattle.web.specs.declared.exchange.Given.TheVariants as given
use Rattle.web.specs.Answers.{GetsNoChange, Keeps}
use Rattle.web.specs.Forms.{HasForm}
use Rattle.web.specs.Runs.{Serves}
use Rattle.web.specs.declared.serve_fault.ServeFault.TheVariants.{Write}
use Rattle.web.specs.Faults.{IfServed}
use Rattle.web.specs.Nonces.{IsDrawn}
use Rattle.web.specs.Requests.{IsOneRequest}
use Rattle.web.specs.Served.{LeavesRows}
use Rattle.server.specs.declared.connection_fault.Fault.{Fault}
use Rattle.server.specs.declared.connection_fault.Fault.TheVariants.{Socket, Clock, Serving}
use Rattle.server.specs.Books.{Coming, Book, IsMet, WhereTold, Written}
use Rattle.server.specs.Names.{connection_line}

-- a request that was served, at a valid time and with a whole nonce, and its response, of the form that it asks for
pub record Talk : Type 0 where
  pub exchange : Exchange
  pub response : List ℕ
  pub lawful : exchange.moment ≤ 253402300799
  pub size : length exchange.nonce ≡ 32
  pub form : HasForm exchange.request response

-- A fault after which nothing was written, and the nonce bytes that were drawn before it. `Write` comes after a prefix
-- of the response.
abbrev pub IsSilent : Fault → (drawn : List ℕ) → Type 0
IsSilent Socket drawn = drawn ≡ []
IsSilent Clock drawn = drawn ≡ []
IsSilent (Serving Write) drawn = ⊥
IsSilent (Serving fault) drawn = IsDrawn {A = Unit {0}} (Err fault) drawn

-- a connection on which nothing was written
pub record Silence : Type 0 where
  pub fault : Fault
  pub drawn : List ℕ
  pub silent : IsSilent fault drawn

-- What one connection did: it was answered, or it was cut off after a prefix of the response, or it was closed without
-- any bytes written.
pub data Visit : Type 0 where
  answered : Talk → Visit
  cut : Talk → Visit
  closed : Silence → Visit

-- a fact that holds if the connection was given its response, even if the response was cut off
abbrev pub IfGiven : {A : Type 0} → Result A Fault → Type 0 → Type 0
IfGiven (Ok a) P = P
IfGiven (Err Socket) P = Unit {0}
IfGiven (Err Clock) P = Unit {0}
IfGiven (Err (Serving fault)) P = IfServed {A = Unit {0}} (Err fault) P

-- the visit ends with this result
abbrev pub EndsWith : {A : Type 0} → Visit → Result A Fault → Type 0
EndsWith (answered talk) (Ok a) = Unit {0}
EndsWith (answered talk) (Err fault) = ⊥
EndsWith (cut talk) (Ok a) = ⊥
EndsWith (cut talk) (Err fault) = fault ≡ Serving Write
EndsWith (closed silence) (Ok a) = ⊥
EndsWith (closed silence) (Err fault) = silence.fault ≡ fault

-- ---- the listener

-- The request is a prefix of what the connection sent, its time is that of the connection, and this was written on it.
pub record IsHeld (talk : Talk) (written : Written) (old new : Book) : Type 0 where
  pub left : List ℕ
  pub one : IsOneRequest (Some left) talk.exchange.request
  pub met : IsMet old new (record { sent = talk.exchange.request ++ left; moment = talk.exchange.moment }) written

-- The book after a connection on which nothing was written. The book contains the times as well, so its listener's
-- clock doesn't fail.
abbrev pub TellsFault : Fault → (old new : Book) → Type 0
TellsFault Socket old new = (old.coming ≡ []) × (new ≡ old)
TellsFault Clock old new = ⊥
TellsFault (Serving fault) old new =
    (next : Coming) × IsMet old new next (record { bytes = []; whole = false })

-- The book after a visit. A connection is ended as one with a whole response exactly if it was answered.
abbrev pub TellsVisit : Visit → (old new : Book) → Type 0
TellsVisit (answered talk) old new = IsHeld talk (record { bytes = talk.response; whole = true }) old new
TellsVisit (cut talk) old new =
    (count : ℕ) × IsHeld talk (record { bytes = take count talk.response; whole = false }) old new
TellsVisit (closed silence) old new = TellsFault silence.fault old new

-- the same for a sequence of visits
abbrev pub TellsAll : List Visit → (old new : Option Book) → Type 0
TellsAll [] old new = new ≡ old
TellsAll (visit ∷ visits) old new = (mid : Option Book) × WhereTold (TellsVisit visit) old mid × TellsAll visits mid new

-- accepting fails only with these two faults
abbrev pub IsOfAccepting : Fault → Type 0
IsOfAccepting Socket = Unit {0}
IsOfAccepting Clock = Unit {0}
IsOfAccepting (Serving fault) = ⊥

-- ---- the nonces and the register

-- the exchange of a visit; if it was closed, only the nonce bytes drawn are known
abbrev pub exchange_of : Visit → Exchange
exchange_of (answered talk) = talk.exchange
exchange_of (cut talk) = talk.exchange
exchange_of (closed silence) = record { request = []; moment = 0; nonce = silence.drawn }

-- what the register gave to it
abbrev pub given_of : Visit → Given
given_of (answered talk) = given.Answer talk.response
given_of (cut talk) = given.Answer talk.response
given_of (closed silence) = given.Fault

-- the nonce bytes that a visit drew
abbrev pub drawn_of : Visit → List ℕ
drawn_of visit = (exchange_of visit).nonce

-- A register whose disk has been faithful gave the visits' exchanges the specified responses, or faults, whatever it
-- meant before. If it has answered since the last fault, it is open, and so keeps the history that it then means.
abbrev pub AreServed : {S : Type 0} → Ghosts S → (old new : S) → List Visit → Type 0
AreServed register old new visits = register.is_honest new → Serves (register.means old) (register.means new)
    (Keeps register.means register.is_open new) (map exchange_of visits) (map given_of visits)

-- the visit has changed no stored row: it was closed, or its request is no message, or was refused
abbrev pub ChangesNothing : Visit → Type 0
ChangesNothing (answered talk) = GetsNoChange talk.exchange.request talk.response
ChangesNothing (cut talk) = GetsNoChange talk.exchange.request talk.response
ChangesNothing (closed silence) = Unit {0}

-- if that holds of every visit, the stored rows are unchanged, whatever they mean
abbrev pub AreRead : {S : Type 0} → Ghosts S → (old new : S) → List Visit → Type 0
AreRead register old new visits = All ChangesNothing visits → LeavesRows register old new

-- ---- visits

-- what one connection did, which ended with this result
pub record Visits {A S : Type 0} (result : Result A Fault) (book book' : Option Book) (nonces nonces' : Option (List ℕ))
    (register : Ghosts S) (old new : S) : Type 0 where
  pub visit : Visit
  pub ends : EndsWith visit result
  pub told : WhereTold (TellsVisit visit) book book'
  pub drawn : Consumes nonces nonces' (drawn_of visit)
  pub served : AreServed register old new (visit ∷ [])
  pub reads : AreRead register old new (visit ∷ [])

-- What `count` connections did, in order. The nonces that they drew, concatenated, are a prefix of the nonce source:
-- each nonce is the next 32 bytes, none is used twice, and nothing is skipped except what was drawn before a fault.
pub record ServesConnections {S : Type 0} (count : ℕ) (book book' : Option Book) (nonces nonces' : Option (List ℕ))
    (register : Ghosts S) (old new : S) : Type 0 where
  pub visits : List Visit
  pub all : length visits ≡ count
  pub told : TellsAll visits book book'
  pub drawn : Consumes nonces nonces' (flat_map drawn_of visits)
  pub served : AreServed register old new visits
  pub reads : AreRead register old new visits

-- ---- what is printed

-- the line for a connection with this result: none if it was answered
abbrev pub fault_line : {A : Type 0} → (number : ℕ) → Result A Fault → List ℕ
fault_line number (Ok a) = []
fault_line number (Err fault) = connection_line number fault

-- the line for a visit
abbrev pub visit_line : (number : ℕ) → Visit → List ℕ
visit_line number (answered talk) = []
visit_line number (cut talk) = connection_line number (Serving Write)
visit_line number (closed silence) = connection_line number silence.fault

-- the lines for visits in order, which are counted from this number on
abbrev pub visit_lines : (number : ℕ) → List Visit → List ℕ
visit_lines number [] = []
visit_lines number (visit ∷ visits) = visit_line number visit ++ visit_lines (number + 1) visits

-- What `count` connections did. If the second output hasn't failed meanwhile, it has taken exactly their lines.
pub record MeetsTold {S : Type 0} (count : ℕ) (book book' : Option Book) (nonces nonces' : Option (List ℕ))
    (register : Ghosts S) (old new : S) (failed failed' : ℕ) (taken taken' : Option (List ℕ)) : Type 0 where
  pub meets : ServesConnections count book book' nonces nonces' register old new
  pub lines : failed' ≡ failed → Appends taken taken' (visit_lines 1 meets.visits)

-- ---- what is added to the history

-- an arrival with a valid time and a whole nonce
pub record IsTimely (arrival : Arrival) : Type 0 where
  pub moment : arrival.moment ≤ 253402300799
  pub nonce : length arrival.nonce ≡ 32

-- the meaning holds of the history with at most `most` more arrivals
pub record IsExtended (most : ℕ) (l : List Arrival) (means : List Arrival → Type 0) : Type 0 where
  pub more : List Arrival
  pub count : length more ≤ most
  pub timely : All IsTimely more
  pub history : means (l ++ more)

-- the effect of at most `most` connections: each adds its arrival, or nothing
abbrev pub Extends : (most : ℕ) (before after : Opening → List Arrival → Type 0) → Type 0
Extends most before after = (o : Opening) (l : List Arrival) → before o l → IsExtended most l (after o)
