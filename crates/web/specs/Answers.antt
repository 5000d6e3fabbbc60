-- The answer to a request.
use Rattle.std.specs.Prelude.{◌≡◌, ◌⊎◌, IsTrue, ℕ, List, [], ◌∷◌, ◌++◌, Option, Some, None}
use Rattle.values.specs.declared.refusal.Refusal.{Refusal}
use Rattle.values.specs.declared.refusal.Refusal.TheVariants.{UnknownSerial, NotSigned}
use Rattle.lines.specs.CertLines.{certificate_line_text}
use Rattle.krl.specs.Published.{fits}
use Rattle.http_requests.specs.declared.resource.Resource.{Resource}
use Rattle.http_requests.specs.declared.resource.Resource.TheVariants.{Pending, Certificate, Body, RevocationList}
use Rattle.http_requests.specs.declared.resource.Resource.TheVariants.{Signers, Table, Cas, Departments}
use Rattle.http_requests.specs.declared.response.MediaType.TheVariants.{PlainText, Bytes}
use Rattle.http_requests.specs.Asks.{Ask, Asks, refused, get, post}
use Rattle.http_requests.specs.Responses.{response_text, refusal_response}
use Rattle.office.specs.declared.opening.Opening.{Opening}
use Rattle.office.specs.declared.arrival.Arrival.{Arrival}
use Rattle.office.specs.declared.arrival.Outcome.{Outcome}
use Rattle.office.specs.declared.arrival.Outcome.TheVariants as outcome
use Rattle.office.specs.declared.publication.Issued.{Issued}
use Rattle.office.specs.State.{State, body_of}
use Rattle.office.specs.Publication.{issued_of, published_list, published_parts}
use Rattle.office.specs.History.{state, due}
use Rattle.office.specs.Shows.{IsOffice}
use Rattle.web.specs.Reports.{pending_report, ca_report, departments_report, signers_report, table_report}

-- the response to an arrival
abbrev pub outcome_response : Outcome → List ℕ
outcome_response (outcome.Accepted reply) = response_text 200 PlainText reply
outcome_response (outcome.Repeated reply) = response_text 200 PlainText reply
outcome_response (outcome.Refused refusal) = refusal_response refusal

-- the response with the bytes of a body (an unsigned certificate)
abbrev pub body_response : Option (List ℕ) → List ℕ
body_response (Some body) = response_text 200 Bytes body
body_response None = refusal_response UnknownSerial

-- the response with the line of a certificate, with its key ID as comment, if it is signed
abbrev pub signed_response : (key_id : List ℕ) → Option (List ℕ) → List ℕ
signed_response key_id (Some certificate) =
    response_text 200 PlainText (certificate_line_text certificate key_id ++ 10 ∷ [])
signed_response key_id None = refusal_response NotSigned

abbrev pub issued_response : Issued → List ℕ
issued_response issued = signed_response issued.key_id issued.certificate

abbrev pub certificate_response : Option Issued → List ℕ
certificate_response (Some issued) = issued_response issued
certificate_response None = refusal_response UnknownSerial

-- the response to a GET
abbrev pub resource_response : State → Resource → List ℕ
resource_response s Pending = response_text 200 PlainText (pending_report s)
resource_response s (Certificate serial) = certificate_response (issued_of s serial)
resource_response s (Body serial) = body_response (body_of s serial)
resource_response s RevocationList = response_text 200 Bytes (published_list s)
resource_response s Signers = response_text 200 PlainText (signers_report s)
resource_response s Table = response_text 200 PlainText (table_report s)
resource_response s Cas = response_text 200 PlainText (ca_report s)
resource_response s Departments = response_text 200 PlainText (departments_report s)

-- the length of each section of the published list fits in 32 bits
abbrev pub ListFits : State → Type 0
ListFits s = IsTrue (fits (published_parts s) s.revoked_key_ids)

-- A history after which the list may be returned: it is an office's, and the list fits. By the theorems about the list
-- this suffices for the list to be exact.
pub record MayList (o : Opening) (l : List Arrival) : Type 0 where
  pub office : IsOffice o l
  pub fits : ListFits (state o l)

abbrev pub arrival_by : (caller key message : List ℕ) → ℕ → List ℕ → Arrival
arrival_by caller key message moment nonce =
    record { caller = caller; key = key; bytes = message; moment = moment; nonce = nonce }

-- the specified response after a history
abbrev pub answer_text : Opening → List Arrival → Ask → ℕ → List ℕ → List ℕ
answer_text o l (refused refusal) moment nonce = refusal_response refusal
answer_text o l (get resource) moment nonce = resource_response (state o l) resource
answer_text o l (post caller key message) moment nonce =
    outcome_response (due o l (arrival_by caller key message moment nonce))

-- the history followed by the arrival of the ask, if it has one
abbrev pub with_ask : List Arrival → Ask → ℕ → List ℕ → List Arrival
with_ask l (refused refusal) moment nonce = l
with_ask l (get resource) moment nonce = l
with_ask l (post caller key message) moment nonce = l ++ arrival_by caller key message moment nonce ∷ []

-- the ask needs the register; a refusal does not, since it is determined by the bytes of the request alone
abbrev pub IsOfTheRegister : Ask → Type 0
IsOfTheRegister (refused refusal) = ⊥
IsOfTheRegister (get resource) = Unit {0}
IsOfTheRegister (post caller key message) = Unit {0}

-- the ask can't change the stored rows: it is for a resource, or is refused at once
abbrev pub IsNoMessage : Ask → Type 0
IsNoMessage (refused refusal) = Unit {0}
IsNoMessage (get resource) = Unit {0}
IsNoMessage (post caller key message) = ⊥

-- the bytes of a request ask nothing that can change the stored rows
abbrev pub AsksNoChange : List ℕ → Type 0
AsksNoChange request = (ask : Ask) × Asks request ask × IsNoMessage ask

-- the response is that of a refusal
abbrev pub IsRefusal : (response : List ℕ) → Type 0
IsRefusal response = (refusal : Refusal) × (response ≡ refusal_response refusal)

-- an answered request hasn't changed the stored rows: it asks nothing that can change them, or it was refused
abbrev pub GetsNoChange : (request response : List ℕ) → Type 0
GetsNoChange request response = AsksNoChange request ⊎ IsRefusal response

-- the bytes of a request ask something that needs the register
abbrev pub AsksTheRegister : List ℕ → Type 0
AsksTheRegister request = (ask : Ask) × Asks request ask × IsOfTheRegister ask

-- the register means a history and is open, so it preserves the history
abbrev pub Keeps : {S : Type 0} → (means : S → Opening → List Arrival → Type 0) → (is_open : S → Type 0)
    → S → Opening → List Arrival → Type 0
Keeps means is_open s o l = means s o l × is_open s

-- The response is the one specified for what the request asks, and the list is returned only if it may be. The register
-- then means the history followed by the request's arrival, if it has one. If the ask needed the register, it preserves
-- that history.
pub record AnswersAsk (o : Opening) (l : List Arrival) (request : List ℕ) (moment : ℕ) (nonce response : List ℕ)
    (means keeps : List Arrival → Type 0) : Type 0 where
  pub ask : Ask
  pub asks : Asks request ask
  pub text : response ≡ answer_text o l ask moment nonce
  pub list : ask ≡ get RevocationList → MayList o l
  pub history : means (with_ask l ask moment nonce)
  pub kept : IsOfTheRegister ask → keeps (with_ask l ask moment nonce)

-- the same for every office and history that the register meant before
abbrev pub IsAnswered : (before after keeps : Opening → List Arrival → Type 0) → (request : List ℕ) → ℕ
    → (nonce response : List ℕ) → Type 0
IsAnswered before after keeps request moment nonce response = (o : Opening) (l : List Arrival) → before o l
    → AnswersAsk o l request moment nonce response (after o) (keeps o)
