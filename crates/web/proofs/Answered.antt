-- The answer to each kind of ask.
use Rattle.web.proofs.Words.{Arrival, Asks, Err, Global, IfOk, IsAnswered, IsOffice, List, Ok, Opening, Result, Vec, []}
use Rattle.web.proofs.Words.{ap, arrival_by, due, state, subst, ℕ, ◌++◌, ◌∙◌, ◌∷◌, ◌≡◌}
use Rattle.std.specs.Prelude.{OnOk}
use Rattle.values.specs.declared.refusal.Refusal.{Refusal}
use Rattle.http_requests.specs.declared.resource.Resource.{Resource}
use Rattle.http_requests.specs.declared.resource.Resource.TheVariants.{RevocationList}
use Rattle.http_requests.specs.Asks.{refused, get, post}
use Rattle.http_requests.specs.Responses.{refusal_response}
use Rattle.web.specs.Answers.{ListFits, outcome_response, resource_response}

-- a refusal is answered without the register
pub of_refusal : {E : Type 0} (r : Result (Vec ℕ Global) E) (refusal : Refusal) (means keeps : Opening → List Arrival → Type 0)
    (request : List ℕ) (moment : ℕ) (nonce : List ℕ) → Asks request (refused refusal)
    → IfOk r (λ v. v.items ≡ refusal_response refusal)
    → IfOk r (λ v. IsAnswered means means keeps request moment nonce v.items)
of_refusal (Err e) refusal means keeps request moment nonce asks given = tt
of_refusal (Ok v) refusal means keeps request moment nonce asks given = λ o l m. record {
  ask = refused refusal;
  asks = asks;
  text = given;
  list = λ other. absurd (cc);
  history = m;
  kept = λ none. absurd none;
}

-- a resource is returned by an open register
pub of_resource : {E : Type 0} (r : Result (Vec ℕ Global) E) (resource : Resource) (before after : Opening → List Arrival → Type 0)
    (is_open : Type 0) (request : List ℕ) (moment : ℕ) (nonce : List ℕ) → Asks request (get resource)
    → ((o : Opening) (l : List Arrival) → before o l → IsOffice o l)
    → IfOk r (λ v. (o : Opening) (l : List Arrival) → before o l → v.items ≡ resource_response (state o l) resource)
    → (resource ≡ RevocationList → OnOk r ((o : Opening) (l : List Arrival) → before o l → ListFits (state o l)))
    → ((o : Opening) (l : List Arrival) → before o l → after o l) → OnOk r is_open
    → IfOk r (λ v. IsAnswered before after (λ o l. after o l × is_open) request moment nonce v.items)
of_resource (Err e) resource before after is_open request moment nonce asks office given fits same stays = tt
of_resource (Ok v) resource before after is_open request moment nonce asks office given fits same stays = λ o l m. record {
  ask = get resource;
  asks = asks;
  text = given o l m;
  list = λ is. record { office = office o l m; fits = fits (cc) o l m };
  history = same o l m;
  kept = λ _. (same o l m, stays);
}

-- an arrival is answered by an open register
pub of_arrival : {E : Type 0} (r : Result (Vec ℕ Global) E) (arrival : Arrival) (before after : Opening → List Arrival → Type 0)
    (is_open : Type 0) (request : List ℕ) (moment : ℕ) (nonce caller key message : List ℕ)
    → Asks request (post caller key message) → arrival ≡ arrival_by caller key message moment nonce
    → IfOk r (λ v. (o : Opening) (l : List Arrival) → before o l → v.items ≡ outcome_response (due o l arrival))
    → OnOk r ((o : Opening) (l : List Arrival) → before o l → after o (l ++ arrival ∷ [])) → OnOk r is_open
    → IfOk r (λ v. IsAnswered before after (λ o l. after o l × is_open) request moment nonce v.items)
of_arrival (Err e) arrival before after is_open request moment nonce caller key message asks is given next stays = tt
of_arrival (Ok v) arrival before after is_open request moment nonce caller key message asks is given next stays = λ o l m.
    let told = subst (λ (a : Arrival). after o (l ++ a ∷ [])) is (next o l m) in record {
      ask = post caller key message;
      asks = asks;
      text = given o l m ∙ ap (λ (a : Arrival). outcome_response (due o l a)) is;
      list = λ other. absurd (cc);
      history = told;
      kept = λ _. (told, stays);
    }
