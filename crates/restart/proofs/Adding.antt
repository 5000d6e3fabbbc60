-- The requests that exchanges add to a history.
use Rattle.std.proofs.Common.{◌≡◌, ℕ, List, [], ◌∷◌, ◌++◌, append-nil, append_assoc, refl, sym, ap, ◌∙◌}
use Rattle.http_requests.specs.Asks.{Ask}
use Rattle.http_requests.specs.Asks.Ask.{refused, get, post}
use Rattle.office.specs.declared.arrival.Arrival.{Arrival}
use Rattle.web.specs.declared.exchange.Given.TheVariants.{Answer, Fault}
use Rattle.web.specs.Answers.{with_ask, arrival_by}
use Rattle.restart.specs.Adding.{ArrivalsStay}

-- an HTTP request adds one received request, or nothing
asked : (l : List Arrival) (a : Ask) (moment : ℕ) (nonce : List ℕ)
    → (one : List Arrival) × (with_ask l a moment nonce ≡ l ++ one)
asked l (refused refusal) moment nonce = ([], sym (append-nil l))
asked l (get resource) moment nonce = ([], sym (append-nil l))
asked l (post caller key message) moment nonce = (arrival_by caller key message moment nonce ∷ [], refl)

-- so do exchanges, one after the other
pub arrivals_stay : ArrivalsStay
arrivals_stay o l [] [] last h = ([], h ∙ sym (append-nil l))
arrivals_stay o l [] (g ∷ given) last h = absurd h
arrivals_stay o l (x ∷ xs) [] last h = absurd h
arrivals_stay o l (x ∷ xs) (Fault ∷ given) last h = arrivals_stay o l xs given last h
arrivals_stay o l (x ∷ xs) (Answer response ∷ given) last h =
    let one = asked l h.0 x.moment x.nonce in
    let later = arrivals_stay o (with_ask l h.0 x.moment x.nonce) xs given last h.4 in
    (one.0 ++ later.0, later.1 ∙ ap (λ (m : List Arrival). m ++ later.0) one.1 ∙ append_assoc l one.0 later.0)
