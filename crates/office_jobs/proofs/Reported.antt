-- The body of the response to a request for a report.
use Rattle.office_jobs.proofs.Words.{Appends, AppendsBeginning, Arrival, Asks, Err, IfErr, IsReport, IsUnprinted, JobFault, List, None}
use Rattle.office_jobs.proofs.Words.{Ok, OnOk, Opening, Option, PlainText, Report, Result, Some, State, Stores, Tells}
use Rattle.office_jobs.proofs.Words.{Write, ap, arith, get, length, length-append, refl, resource_of, response_text}
use Rattle.office_jobs.proofs.Words.{subst, sym, ℕ, ◌+◌, ◌<◌, ◌^◌, ◌∙◌, ◌≡◌}
use Rattle.std.specs.Prelude.{OnErr}
use Rattle.http_requests.specs.Asks.{Ask}
use Rattle.http_requests.specs.Responses.{response_head}
use Rattle.office.specs.declared.store_fault.StoreFault.TheVariants as store
use Rattle.office.specs.History.{state}
use Rattle.web.specs.Answers.{AnswersAsk, IsOfTheRegister, answer_text, with_ask}
use Rattle.lines.specs.Signers.{signers_text}
use Rattle.web.specs.Batches.{table_among}
use Rattle.web.specs.Causes.{IsPlainGet}
use Rattle.web.specs.Forms.{HasForm, MayAnswer, MayShow}
use Rattle.web.specs.Reports.{signer_rows}
use Rattle.headline.specs.Headline.{OfficeAnswers}
use Rattle.office_jobs.specs.declared.reporting.Report.TheVariants.{Signers, Table}
use Rattle.office_jobs.specs.Reporting.{IsReportOf, report_text}
use Rattle.office_jobs.proofs.Bodies.{found_is, not_found}

-- a request has at most one reading
abbrev OneAsk : Type 0
OneAsk = (bytes : List ℕ) (a b : Ask) → Asks bytes a → Asks bytes b → a ≡ b

-- the body of a response with a plain text is found
abbrev Finds : Option (List ℕ) → (response : List ℕ) → Type 0
Finds found response = (body : List ℕ) → length body < 2 ^ 64 → response ≡ response_text 200 PlainText body
    → found ≡ Some body

-- the specified answer to this request, and the history that is kept if it uses the register
abbrev Is : Opening → List Arrival → ℕ → (nonce response : List ℕ) → (List Arrival → Type 0) → Ask → Type 0
Is o l moment nonce response keeps ask =
    (response ≡ answer_text o l ask moment nonce) × (IsOfTheRegister ask → keeps (with_ask l ask moment nonce))

of_report : (report : Report) (o : Opening) (l : List Arrival) (moment : ℕ) (nonce response : List ℕ)
    (keeps : List Arrival → Type 0)
    → Is o l moment nonce response keeps (get (resource_of report))
    → (response ≡ response_text 200 PlainText (report_text report (state o l))) × keeps l
of_report Signers o l moment nonce response keeps is = (is.0, is.1 tt)
of_report Table o l moment nonce response keeps is = (is.0, is.1 tt)

answered : (report : Report) (o : Opening) (l : List Arrival) (request : List ℕ) (moment : ℕ) (nonce response : List ℕ)
    (means keeps : List Arrival → Type 0) → OneAsk → Asks request (get (resource_of report))
    → AnswersAsk o l request moment nonce response means keeps
    → (response ≡ response_text 200 PlainText (report_text report (state o l))) × keeps l
answered report o l request moment nonce response means keeps one asks is =
    of_report report o l moment nonce response keeps
    (subst (Is o l moment nonce response keeps) (one request is.ask (get (resource_of report)) is.asks asks)
    (is.text, is.kept))

small : (response body : List ℕ) → length response < 2 ^ 64 → response ≡ response_text 200 PlainText body
    → length body < 2 ^ 64
small response body short same =
    let head : List ℕ = response_head 200 PlainText (length body) in
    let sized : length response ≡ length head + length body = ap length same ∙ length-append head body in
    omega (arith, sized, short)

-- the report is the body that is found, and the tables durably represent the history
found_report : (report : Report) (old new : State) (request : List ℕ) (moment : ℕ) (nonce response looked : List ℕ)
    (found : Option (List ℕ)) → OneAsk → Asks request (get (resource_of report))
    → OfficeAnswers old new request moment nonce response → looked ≡ response → length response < 2 ^ 64
    → Finds found looked
    → (o : Opening) (l : List Arrival) → Tells old o l
    → (found ≡ Some (report_text report (state o l))) × Stores new o l
found_report report old new request moment nonce response looked found one asks answers same short finds o l m =
    let is = answered report o l request moment nonce response (Tells new o) (Stores new o) one asks (answers o l m) in
    let body : List ℕ = report_text report (state o l) in
    (finds body (small response body short is.0) (same ∙ is.0), is.1)

-- ---- the form of a report, whatever the tables mean

pub is_plain : (report : Report) → IsPlainGet (get (resource_of report))
is_plain Signers = tt
is_plain Table = tt

-- a response with the resource of a report is one with a plain text
plain_text : (report : Report) (response : List ℕ) → MayShow (resource_of report) response
    → (text : List ℕ) × (response ≡ response_text 200 PlainText text)
plain_text Signers response form = (signers_text (signer_rows form.0 form.1), form.2)
plain_text Table response form = (table_among form.0 form.1 form.2, form.3)

-- the body that is found is that of a response of this form
has_form : (report : Report) (request response looked body : List ℕ) → OneAsk
    → Asks request (get (resource_of report)) → HasForm request response → looked ≡ response
    → length response < 2 ^ 64 → Finds (Some body) looked
    → MayShow (resource_of report) (response_text 200 PlainText body)
has_form report request response looked body one asks form same short finds =
    let shown : MayShow (resource_of report) response =
    subst (λ (a : Ask). MayAnswer a response) (one request form.0 (get (resource_of report)) form.1 asks) form.2 in
    let text = plain_text report response shown in
    let is : body ≡ text.0 = found_is body text.0 (finds text.0 (small response text.0 short text.1) (same ∙ text.1)) in
    subst (MayShow (resource_of report)) (text.1 ∙ ap (response_text 200 PlainText) (sym is)) shown

-- ---- the outcome

-- the body that is found is that of a report
is_report : (report : Report) (old new : State) (request : List ℕ) (moment : ℕ)
    (nonce response looked body : List ℕ) → OneAsk → Asks request (get (resource_of report))
    → OfficeAnswers old new request moment nonce response → looked ≡ response → length response < 2 ^ 64
    → HasForm request response → Finds (Some body) looked → IsReportOf report old new body
is_report report old new request moment nonce response looked body one asks answers same short form finds = record {
  form = has_form report request response looked body one asks form same short finds;
  is = λ o l m.
      let is = found_report report old new request moment nonce response looked
      (Some body) one asks answers same short finds o l m in
      (found_is body (report_text report (state o l)) is.0, is.1);
}

pub reported : (report : Report) (old new : State) (held holds : Option (List ℕ)) (request : List ℕ) (moment : ℕ)
    (nonce response looked body : List ℕ) (r : Result Unit JobFault) → OneAsk → Asks request (get (resource_of report))
    → OfficeAnswers old new request moment nonce response → looked ≡ response → length response < 2 ^ 64
    → HasForm request response → Finds (Some body) looked → OnOk r (Appends held holds body)
    → OnErr r (AppendsBeginning held holds body) → IfErr r (λ e. e ≡ Write) → IsReport report old new held holds r
reported report old new held holds request moment nonce response looked body
    (Ok x) one asks answers same short form finds ok part only = (
      body,
      ok,
      is_report report old new request moment nonce response looked body one asks answers same short form finds,
    )
reported report old new held holds request moment nonce response looked body
    (Err e) one asks answers same short form finds ok part only =
    subst (λ (e : JobFault). IsReport report old new held holds (Err e)) (sym only) (
      body,
      part,
      is_report report old new request moment nonce response looked body one asks answers same short form finds,
    )

-- if the tables represent a history, the response has a body
pub unfound : (report : Report) (old new : State) (held : Option (List ℕ)) (request : List ℕ) (moment : ℕ)
    (nonce response looked : List ℕ) → OneAsk → Asks request (get (resource_of report))
    → OfficeAnswers old new request moment nonce response → looked ≡ response → length response < 2 ^ 64
    → Finds None looked → IsUnprinted old new held held store.Damaged
unfound report old new held request moment nonce response looked one asks answers same short finds =
    let none : (A : Type 0) (o : Opening) (l : List Arrival) → Tells old o l → A = λ A o l m.
    not_found A (report_text report (state o l))
    (found_report report old new request moment nonce response looked None one asks answers same short finds o l m).0 in
    record {
      unprinted = refl;
      tells = λ o l m. none (Tells new o l) o l m;
      only = λ is_open o l m. none ⊥ o l m;
    }
