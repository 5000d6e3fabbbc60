-- The promises of an office over its tables, in terms of the reference model.
use Rattle.std.specs.Prelude.{◌≡◌, ℕ, List, [], ◌∷◌, ◌++◌, Bool, IfErr, IfOk, IsTrue, OnErr, OnOk, Option, Some}
use Rattle.std.specs.Prelude.{Result, Ok, Err, Vec, slice_get, false, true}
use Rattle.std.specs.Io.KnownBytes.{Appends}
use Rattle.std.specs.declared.alloc.Global.{Global}
use Rattle.wire.specs.Streams.{AppendsBeginning}
use Rattle.sqlite.specs.State.{State}
use Rattle.lines.specs.Keys.{key_blob}
use Rattle.krl.specs.Format.{RevocationList, revokes}
use Rattle.http_requests.specs.declared.resource.Resource.TheVariants.{RevocationList as the_list}
use Rattle.http_requests.specs.declared.response.MediaType.TheVariants.{Bytes}
use Rattle.http_requests.specs.Asks.{Ask, Asks, get}
use Rattle.http_requests.specs.Responses.{response_text}
use Rattle.office.specs.declared.opening.Opening.{Opening}
use Rattle.office.specs.declared.arrival.Arrival.{Arrival}
use Rattle.office.specs.declared.ca.Ca.{Ca}
use Rattle.office.specs.declared.certificate.Certificate.{Certificate}
use Rattle.office.specs.declared.store_fault.StoreFault.{StoreFault}
use Rattle.office.specs.Openings.{IsOpening}
use Rattle.office.specs.Faults.{IsOfARegister}
use Rattle.office.specs.State.{body_of, certificate_of}
use Rattle.office.specs.Publication as publication
use Rattle.office.specs.History.{state}
use Rattle.office_laws.specs.Bodies.{IsBodyFor}
use Rattle.office_laws.specs.Lists.{AreExactList, IsExact}
use Rattle.office_laws.specs.Signers.{signer_of}
use Rattle.store.specs.Arriving.{IsStopped}
use Rattle.store.specs.Transactions.{IsAsBefore}
use Rattle.store.specs.Meaning.{RegisterHasFailed, KeepsTelling, Stores, Tells}
use Rattle.web.specs.declared.exchange.Exchange.{Exchange}
use Rattle.web.specs.declared.exchange.Given.{Given}
use Rattle.web.specs.declared.exchange.Given.TheVariants.{Answer, Fault}
use Rattle.web.specs.Answers.{IsAnswered, ListFits, with_ask}
use Rattle.web.specs.Causes.{StopsAt}
use Rattle.web.specs.Forms.{IsListText}
use Rattle.exchanges.specs.declared.running.RunFault.{RunFault}
use Rattle.exchanges.specs.declared.running.RunFault.TheVariants as run
use Rattle.exchanges.specs.Printing.{Prints, PrintsBeginning}
use Rattle.headline.specs.declared.publish_fault.PublishFault.{PublishFault}
use Rattle.headline.specs.declared.publish_fault.PublishFault.TheVariants.{Store, Write}

-- ---- serials and bodies, after every history

-- a certificate's unsigned part (its body) stays the same after every longer history
abbrev pub BodiesStay : Type 0
BodiesStay = (o : Opening) (l later : List Arrival) (serial : ℕ) (body : List ℕ)
    → body_of (state o l) serial ≡ Some body
    → body_of (state o (l ++ later)) serial ≡ Some body

-- the body of a serial names that serial, and the CA with the greatest number when the serial was assigned
abbrev pub BodiesNameTheirSigners : Type 0
BodiesNameTheirSigners = (o : Opening) (l : List Arrival) → IsOpening o → (serial : ℕ) (c : Certificate)
    → certificate_of (state o l) serial ≡ Some c → IsBodyFor serial (signer_of (state o l) serial) c

-- ---- the list

-- the bytes of the list that an office publishes after a history
abbrev pub list_bytes : Opening → List Arrival → List ℕ
list_bytes o l = publication.published_list (state o l)

-- These bytes are the published list, and the length of each section fits in 32 bits. They can be divided into sections
-- in only one way, and then revoke what accepted messages named, and nothing else.
pub record IsList (o : Opening) (l : List Arrival) (bytes : List ℕ) : Type 0 where
  pub same : bytes ≡ list_bytes o l
  pub fits : ListFits (state o l)
  pub exact : AreExactList bytes o l

-- the response with such a list
pub record IsListResponse (o : Opening) (l : List Arrival) (response : List ℕ) : Type 0 where
  pub body : List ℕ
  pub text : response ≡ response_text 200 Bytes body
  pub list : IsList o l body

-- a later list revokes, under each CA that the office had at the earlier one, everything that the earlier one revokes
abbrev pub ListsForgetNothing : Type 0
ListsForgetNothing = (o : Opening) (l later : List Arrival) (old new : RevocationList)
    → IsExact o l old → IsExact o (l ++ later) new
    → (place : ℕ) (ca : Ca) → slice_get (state o l).cas place ≡ Some ca → (serial : ℕ) (key_id : List ℕ)
    → revokes (key_blob ca.key) serial key_id old ≡ true → revokes (key_blob ca.key) serial key_id new ≡ true

-- lists of the same version are equal, byte for byte
abbrev pub EqualVersionsAreEqualLists : Type 0
EqualVersionsAreEqualLists = (o : Opening) (l later : List Arrival)
    → (state o l).version ≡ (state o (l ++ later)).version
    → list_bytes o l ≡ list_bytes o (l ++ later)

-- ---- over tables

-- The response to a request is the specified one. The tables then represent the history with the request's arrival, if
-- it has one, and durably represent it if the request used them.
abbrev pub OfficeAnswers : (old new : State) → (request : List ℕ) → ℕ → (nonce response : List ℕ) → Type 0
OfficeAnswers old new request moment nonce response =
    IsAnswered (Tells old) (Tells new) (Stores new) request moment nonce response

-- if a call answers, its answer is the specified one
abbrev pub AnswersDue : (request : List ℕ) → ℕ → (nonce : List ℕ) → (old new : State)
    → Result (Vec ℕ Global) StoreFault → Type 0
AnswersDue request moment nonce old new r = IfOk r (λ v. OfficeAnswers old new request moment nonce v.items)

-- if a GET of the list is answered, the answer is the list of each history that the tables represented
abbrev pub AnswersList : (request : List ℕ) → (old new : State) → Result (Vec ℕ Global) StoreFault → Type 0
AnswersList request old new r = Asks request (get the_list)
    → IfOk r (λ v. (o : Opening) (l : List Arrival) → Tells old o l → IsListResponse o l v.items)

-- after a fault the tables represent what they represented before
abbrev pub KeepsTellingOnErr : (old new : State) → Result (Vec ℕ Global) StoreFault → Type 0
KeepsTellingOnErr old new r = OnErr r (KeepsTelling old new)

-- if the tables represent a history, each fault is one that a register may return
abbrev pub FailsAsRegister : (old new : State) → Result (Vec ℕ Global) StoreFault → Type 0
FailsAsRegister old new r = IfErr r (λ e. (o : Opening) (l : List Arrival) → Tells old o l → IsOfARegister e)

-- The database failed while it answered this request, or its rules refused a row of the request's arrival.
abbrev pub OfficeStops : {S : Type 0} → (S → State) → (request : List ℕ) → ℕ → (nonce : List ℕ) → S → S → Type 0
OfficeStops of request moment nonce old new =
    StopsAt (λ s. Tells (of s)) (λ a b. RegisterHasFailed (of a) (of b)) (λ a b x. IsStopped (of a) (of b) x)
    request moment nonce old new

-- while the connection is open, the database is as it was, whatever its tables mean
abbrev pub IsAsBeforeWhereOpen : (old new : State) → Type 0
IsAsBeforeWhereOpen old new = IsTrue new.is_open → IsAsBefore old new

-- Each response to a GET of the list is the exact list of the history before it.
abbrev pub AreExactLists : Opening → List Arrival → List Exchange → List Given → Type 0
AreExactLists o l (x ∷ xs) (Answer response ∷ given) =
    (Asks x.request (get the_list) → IsListResponse o l response)
    × ((a : Ask) → Asks x.request a → AreExactLists o (with_ask l a x.moment x.nonce) xs given)
AreExactLists o l (x ∷ xs) (Fault ∷ given) = AreExactLists o l xs given
AreExactLists o l [] given = Unit {0}
AreExactLists o l (x ∷ xs) [] = Unit {0}

-- The specified responses are printed after what the output held; `fault` says whether any is a fault. The
-- tables then represent the history with the arrivals that had no fault, and durably represent it if they have answered
-- since the last fault. Whatever they mean, they are unchanged if each exchange is no message, was refused, or got a
-- fault.
pub record OfficePrints (old new : State) (exchanges : List Exchange) (held holds : Option (List ℕ)) (fault : Bool)
    : Type 0 where
  pub prints : Prints (Tells old) (Tells new) (Stores new) (IsAsBeforeWhereOpen old new) exchanges held holds fault
  pub lists : (o : Opening) (l : List Arrival) → Tells old o l → AreExactLists o l exchanges prints.given

-- The same, but a call of the output failed: a beginning of the specified responses is printed.
pub record OfficePrintsPart (old new : State) (exchanges : List Exchange) (held holds : Option (List ℕ)) : Type 0 where
  pub prints : PrintsBeginning (Tells old) (Tells new) (Stores new) (IsAsBeforeWhereOpen old new) exchanges held holds
  pub lists : (o : Opening) (l : List Arrival) → Tells old o l → AreExactLists o l exchanges prints.given

-- if the batch succeeds, the specified responses are printed, and no fault
abbrev pub PrintsDue : List Exchange → (held holds : Option (List ℕ)) → (old new : State) → Result (Unit {0}) RunFault
    → Type 0
PrintsDue exchanges held holds old new r = OnOk r (OfficePrints old new exchanges held holds false)

-- if the batch reports faults, the specified responses are printed, and some of them are faults
abbrev pub PrintsWithFaults : List Exchange → (held holds : Option (List ℕ)) → (old new : State)
    → Result (Unit {0}) RunFault → Type 0
PrintsWithFaults exchanges held holds old new r =
    r ≡ Err run.Fault → OfficePrints old new exchanges held holds true

-- if the output fails, a beginning of the specified responses is printed
abbrev pub PrintsPart : List Exchange → (held holds : Option (List ℕ)) → (old new : State)
    → Result (Unit {0}) RunFault → Type 0
PrintsPart exchanges held holds old new r = r ≡ Err run.Write → OfficePrintsPart old new exchanges held holds

-- ---- a list that is not written

-- the writer failed
abbrev pub has_writer_failed : Result (Unit {0}) PublishFault → Bool
has_writer_failed (Ok done) = false
has_writer_failed (Err (Store fault)) = false
has_writer_failed (Err Write) = true

-- a property of the fault, if it is one of the register
abbrev pub OfStore : (StoreFault → Type 0) → PublishFault → Type 0
OfStore P (Store fault) = P fault
OfStore P Write = Unit {0}

-- a fact that holds if the call found the list, even if the writer then failed
abbrev pub IfFound : Result (Unit {0}) PublishFault → Type 0 → Type 0
IfFound (Ok done) P = P
IfFound (Err (Store fault)) P = Unit {0}
IfFound (Err Write) P = P

-- ---- publishing

-- These bytes are a list: that of each history that the tables represented.
pub record IsListOf (old : State) (bytes : List ℕ) : Type 0 where
  pub text : IsListText bytes
  pub list : (o : Opening) (l : List Arrival) → Tells old o l → IsList o l bytes

-- if everything is written, the written bytes are such a list
abbrev pub WritesList : (held holds : Option (List ℕ)) → (old new : State) → Result (Unit {0}) PublishFault → Type 0
WritesList held holds old new r = OnOk r ((bytes : List ℕ) × Appends held holds bytes × IsListOf old bytes)

-- if the writer failed, the written bytes are a beginning of one
abbrev pub WritesPart : (held holds : Option (List ℕ)) → (old new : State) → Result (Unit {0}) PublishFault → Type 0
WritesPart held holds old new r =
    r ≡ Err Write → (bytes : List ℕ) × AppendsBeginning held holds bytes × IsListOf old bytes

-- if the list was found, the tables durably represent each history that they represented before
abbrev pub StoresWhereFound : (old new : State) → Result (Unit {0}) PublishFault → Type 0
StoresWhereFound old new r = IfFound r ((o : Opening) (l : List Arrival) → Tells old o l → Stores new o l)

-- if the tables represent a history, each fault of the register is one that a register may return
abbrev pub PublishFailsAsRegister : (old new : State) → Result (Unit {0}) PublishFault → Type 0
PublishFailsAsRegister old new r =
    IfErr r (OfStore (λ e. (o : Opening) (l : List Arrival) → Tells old o l → IsOfARegister e))
