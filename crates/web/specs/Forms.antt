-- The form of a response, whatever the register means.
use Rattle.std.specs.Prelude.{◌≡◌, ℕ, List, [], ◌∷◌, IsTrue, Option}
use Rattle.lines.specs.Signers.{signers_text}
use Rattle.krl.specs.declared.ca_part.CaPart.{CaPart}
use Rattle.krl.specs.declared.krl_head.KrlHead.{KrlHead}
use Rattle.krl.specs.Published.{fits, published_text}
use Rattle.http_requests.specs.declared.resource.Resource.{Resource}
use Rattle.http_requests.specs.declared.resource.Resource.TheVariants as resource
use Rattle.http_requests.specs.declared.response.MediaType.TheVariants.{PlainText, Bytes}
use Rattle.http_requests.specs.Asks.{Ask, Asks, refused, get, post}
use Rattle.http_requests.specs.Responses.{response_text, refusal_response}
use Rattle.message.specs.declared.department.Department.{Department}
use Rattle.office.specs.declared.arrival.Outcome.{Outcome}
use Rattle.office.specs.declared.ca.Ca.{Ca}
use Rattle.office.specs.declared.certificate.Certificate.{Certificate}
use Rattle.office.specs.declared.listing.Revocations.{Revocations}
use Rattle.office.specs.declared.publication.Issued.{Issued}
use Rattle.office.specs.declared.publication.Pending.{Pending}
use Rattle.web.specs.declared.exchange.Exchange.{Exchange}
use Rattle.web.specs.declared.exchange.Given.{Given}
use Rattle.web.specs.declared.exchange.Given.TheVariants.{Answer, Fault}
use Rattle.web.specs.Answers.{body_response, certificate_response, outcome_response}
use Rattle.web.specs.Batches.{table_among}
use Rattle.web.specs.Reports.{ca_lines, department_reports, pending_lines, signer_rows}

-- the bytes are a list of these parts, and the length of each section fits in 32 bits
pub record IsListText (bytes : List ℕ) : Type 0 where
  pub head : KrlHead
  pub parts : List CaPart
  pub key_ids : List (List ℕ)
  pub sized : IsTrue (fits parts key_ids)
  pub text : bytes ≡ published_text head parts key_ids

-- the response with a resource, made of any rows
abbrev pub MayShow : Resource → (response : List ℕ) → Type 0
MayShow resource.Pending response = (rows : List Pending) × (response ≡ response_text 200 PlainText (pending_lines rows))
MayShow (resource.Certificate serial) response = (issued : Option Issued) × (response ≡ certificate_response issued)
MayShow (resource.Body serial) response = (body : Option (List ℕ)) × (response ≡ body_response body)
MayShow resource.RevocationList response = (list : List ℕ) × IsListText list × (response ≡ response_text 200 Bytes list)
MayShow resource.Signers response =
    (departments : List Department) × (cas : List Ca)
    × (response ≡ response_text 200 PlainText (signers_text (signer_rows departments cas)))
MayShow resource.Table response =
    (revocations : Revocations) × (certificates : List Certificate) × (version : ℕ)
    × (response ≡ response_text 200 PlainText (table_among revocations certificates version))
MayShow resource.Cas response = (cas : List Ca) × (response ≡ response_text 200 PlainText (ca_lines cas))
MayShow resource.Departments response =
    (departments : List Department) × (response ≡ response_text 200 PlainText (department_reports departments))

-- The response to an ask: if it is refused at once, that of the refusal; to a message, that of any outcome.
abbrev pub MayAnswer : Ask → (response : List ℕ) → Type 0
MayAnswer (refused refusal) response = response ≡ refusal_response refusal
MayAnswer (get it) response = MayShow it response
MayAnswer (post caller key message) response = (outcome : Outcome) × (response ≡ outcome_response outcome)

-- the same for what the bytes of a request ask
abbrev pub HasForm : (request response : List ℕ) → Type 0
HasForm request response = (ask : Ask) × Asks request ask × MayAnswer ask response

-- there is a result for each exchange: a fault, or a response of the form that its request asks for
abbrev pub HaveForms : List Exchange → List Given → Type 0
HaveForms (x ∷ xs) (Answer response ∷ given) = HasForm x.request response × HaveForms xs given
HaveForms (x ∷ xs) (Fault ∷ given) = HaveForms xs given
HaveForms [] [] = Unit {0}
HaveForms (x ∷ xs) [] = ⊥
HaveForms [] (g ∷ given) = ⊥
