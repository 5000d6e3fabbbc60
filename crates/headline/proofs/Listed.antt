-- The list, from the rows that the tables return for it.
use Rattle.std.proofs.Common.{◌≡◌, ℕ, List, [], ◌∷◌, Option, Result, Ok, Err, refl, ap, subst, sym, ◌∙◌}
use Rattle.std.specs.Prelude.{◌≤◌, IfErr, IfOk, IsTrue, OnOk, Vec}
use Rattle.std.specs.declared.alloc.Global.{Global}
use Rattle.std.specs.Io.KnownBytes.{Appends}
use Rattle.wire.specs.Streams.{AppendsBeginning}
use Rattle.sqlite.specs.State.{State}
use Rattle.krl.specs.declared.ca_part.CaPart.{CaPart}
use Rattle.krl.specs.declared.krl_head.KrlHead.{KrlHead}
use Rattle.krl.specs.Published.{fits, published_text}
use Rattle.http_requests.specs.declared.resource.Resource.TheVariants.{RevocationList}
use Rattle.http_requests.specs.Asks.{Ask, Asks, get}
use Rattle.office.specs.declared.opening.Opening.{Opening}
use Rattle.office.specs.declared.arrival.Arrival.{Arrival}
use Rattle.office.specs.declared.publication.Revoked.{Revoked}
use Rattle.office.specs.Faults.{IsOfARegister}
use Rattle.office.specs.Shows.{IsOffice}
use Rattle.office.specs.Publication.{AreRevoked, head_of, published_parts}
use Rattle.office.specs.History.{state}
use Rattle.office_laws.specs.Lists.{AreExactList}
use Rattle.store.specs.Meaning.{Tells}
use Rattle.web.specs.declared.exchange.Exchange.{Exchange}
use Rattle.web.specs.declared.exchange.Given.{Given}
use Rattle.web.specs.declared.exchange.Given.TheVariants.{Answer, Fault}
use Rattle.web.specs.Answers.{IsAnswered, ListFits, MayList, answer_text, with_ask}
use Rattle.web.specs.Runs.{AllDue}
use Rattle.web.specs.Causes.{IsOfAList}
use Rattle.web.proofs.Lists.{list_only}
use Rattle.headline.specs.declared.publish_fault.PublishFault.{PublishFault}
use Rattle.headline.specs.declared.publish_fault.PublishFault.TheVariants.{Store, Write}
use Rattle.headline.specs.Headline.{AreExactLists, IsList, IsListOf, IsListResponse, OfStore, list_bytes}

-- each list that fits is exact
abbrev pub ListsAreExact : Type 0
ListsAreExact = (o : Opening) (l : List Arrival) → IsOffice o l → ListFits (state o l) → AreExactList (list_bytes o l) o l

-- a request has at most one reading
abbrev pub AsksOneThing : Type 0
AsksOneThing = (bytes : List ℕ) (a b : Ask) → Asks bytes a → Asks bytes b → a ≡ b

-- if a list isn't written, its fault is one of a register
pub unwritten_only : (r : Result (Unit {0}) PublishFault) (count : ℕ) (means : Opening → List Arrival → Type 0)
    → IfErr r (OfStore (IsOfAList count)) → ((o : Opening) (l : List Arrival) → means o l → count ≤ 8)
    → IfErr r (OfStore (λ e. (o : Opening) (l : List Arrival) → means o l → IsOfARegister e))
unwritten_only (Ok done) count means h few = tt
unwritten_only (Err (Store e)) count means h few = list_only {T = Unit {0}} (Err e) count means h few
unwritten_only (Err Write) count means h few = tt

module _ (exact : ListsAreExact) where
  is_list : (o : Opening) (l : List Arrival) → MayList o l → IsList o l (list_bytes o l)
  is_list o l may = record { same = refl; fits = may.fits; exact = exact o l may.office may.fits }

  -- If a list was found in the tables and fits, its text is the published list.
  found_list : (old : State) → ((o : Opening) (l : List Arrival) → Tells old o l → IsOffice o l) → (found : Revoked)
      → ((o : Opening) (l : List Arrival) → Tells old o l → AreRevoked found (state o l))
      → IsTrue (fits found.parts.items found.key_ids)
      → IsListOf old (published_text found.head found.parts.items found.key_ids)
  found_list old office found row fit = record {
    text = record {
      head = found.head;
      parts = found.parts.items;
      key_ids = found.key_ids;
      sized = fit;
      text = refl;
    };
    list = λ o l m.
        let s = state o l in
        let are = row o l m in
        let here : IsTrue (fits (published_parts s) found.key_ids) = subst (λ (ps : List CaPart). IsTrue (fits ps found.key_ids)) are.parts fit in
        let fits_here : ListFits s = subst (λ (ids : List (List ℕ)). IsTrue (fits (published_parts s) ids)) are.key_ids here in
        let same : published_text found.head found.parts.items found.key_ids ≡ list_bytes o l =
        ap (λ (h : KrlHead). published_text h found.parts.items found.key_ids) are.head
        ∙ (ap (λ (ps : List CaPart). published_text (head_of s) ps found.key_ids) are.parts
        ∙ ap (λ (ids : List (List ℕ)). published_text (head_of s) (published_parts s) ids) are.key_ids) in
        subst (λ (bytes : List ℕ). IsList o l bytes) (sym same) (is_list o l (record { office = office o l m; fits = fits_here }));
  }

  module _ (old : State) (office : (o : Opening) (l : List Arrival) → Tells old o l → IsOffice o l) (found : Revoked)
      (row : (o : Opening) (l : List Arrival) → Tells old o l → AreRevoked found (state o l))
      (held holds : Option (List ℕ)) where
    -- all of it was written
    pub listed : {E : Type 0} (r : Result (Unit {0}) E) → OnOk r (IsTrue (fits found.parts.items found.key_ids))
        → OnOk r (Appends held holds (published_text found.head found.parts.items found.key_ids))
        → OnOk r ((bytes : List ℕ) × Appends held holds bytes × IsListOf old bytes)
    listed (Err e) fit written = tt
    listed (Ok x) fit written =
        (published_text found.head found.parts.items found.key_ids, written, found_list old office found row fit)

    -- a beginning of it was written
    pub part_listed : IsTrue (fits found.parts.items found.key_ids)
        → AppendsBeginning held holds (published_text found.head found.parts.items found.key_ids)
        → (bytes : List ℕ) × AppendsBeginning held holds bytes × IsListOf old bytes
    part_listed fit written =
        (published_text found.head found.parts.items found.key_ids, written, found_list old office found row fit)

  -- the specified response to a GET of the list is the response with the list
  is_response : (o : Opening) (l : List Arrival) (a : Ask) (moment : ℕ) (nonce response : List ℕ) → a ≡ get RevocationList
      → response ≡ answer_text o l a moment nonce → (a ≡ get RevocationList → MayList o l) → IsListResponse o l response
  is_response o l a moment nonce response same text may = record {
    body = list_bytes o l;
    text = text ∙ ap (λ (k : Ask). answer_text o l k moment nonce) same;
    list = is_list o l (may same);
  }

  -- an answered GET of the list got that response
  pub responded : {E : Type 0} → AsksOneThing → (r : Result (Vec ℕ Global) E) (before after keeps : Opening → List Arrival → Type 0)
      (request : List ℕ) (moment : ℕ) (nonce : List ℕ) → Asks request (get RevocationList)
      → IfOk r (λ v. IsAnswered before after keeps request moment nonce v.items)
      → IfOk r (λ v. (o : Opening) (l : List Arrival) → before o l → IsListResponse o l v.items)
  responded one (Err e) before after keeps request moment nonce asks answered = tt
  responded one (Ok v) before after keeps request moment nonce asks answered = λ o l m.
      let a = answered o l m in
      is_response o l a.ask moment nonce v.items (one request a.ask (get RevocationList) a.asks asks) a.text a.list

  -- and so did each one in a batch
  pub in_run : AsksOneThing → (o : Opening) (l : List Arrival) (exchanges : List Exchange) (given : List Given) (last : List Arrival)
      → AllDue o l exchanges given last → AreExactLists o l exchanges given
  in_run one o l [] given last due = tt
  in_run one o l (x ∷ xs) [] last due = tt
  in_run one o l (x ∷ xs) (Fault ∷ given) last due = in_run one o l xs given last due
  in_run one o l (x ∷ xs) (Answer response ∷ given) last due = (
    λ asks. is_response o l due.0 x.moment x.nonce response (one x.request due.0 (get RevocationList) due.1 asks) due.2 due.3,
    λ a asks. in_run one o (with_ask l a x.moment x.nonce) xs given last
        (subst (λ (k : Ask). AllDue o (with_ask l k x.moment x.nonce) xs given last) (one x.request due.0 a due.1 asks) due.4),
  )
