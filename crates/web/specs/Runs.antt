-- The answers to successive requests, some of which end with a fault.
use Rattle.std.specs.Prelude.{◌≡◌, ◌⊎◌, All, List, [], ◌∷◌}
use Rattle.http_requests.specs.declared.resource.Resource.TheVariants.{RevocationList}
use Rattle.http_requests.specs.Asks.{Ask, Asks, get}
use Rattle.office.specs.declared.opening.Opening.{Opening}
use Rattle.office.specs.declared.arrival.Arrival.{Arrival}
use Rattle.web.specs.declared.exchange.Exchange.{Exchange}
use Rattle.web.specs.declared.exchange.Given.{Given}
use Rattle.web.specs.declared.exchange.Given.TheVariants.{Answer, Fault}
use Rattle.web.specs.Answers.{AsksNoChange, AsksTheRegister, GetsNoChange, MayList, answer_text, with_ask}

-- Each exchange gets a fault, or the response specified after the arrivals before it that got no fault, and the list is
-- returned only if it may be. The last history is the first, followed by the arrivals of all that got no fault.
abbrev pub AllDue : Opening → List Arrival → List Exchange → List Given → List Arrival → Type 0
AllDue o l (x ∷ xs) (Answer response ∷ given) last =
    (a : Ask) × Asks x.request a × (response ≡ answer_text o l a x.moment x.nonce)
    × (a ≡ get RevocationList → MayList o l) × AllDue o (with_ask l a x.moment x.nonce) xs given last
AllDue o l (x ∷ xs) (Fault ∷ given) last = AllDue o l xs given last
AllDue o l [] [] last = last ≡ l
AllDue o l (x ∷ xs) [] last = ⊥
AllDue o l [] (g ∷ given) last = ⊥

-- The register has answered since the last fault; `so_far` is whether it had before these exchanges. A response to a
-- request that doesn't need the register leaves this as it is.
abbrev pub HasAnswered : (so_far : Type 0) → List Exchange → List Given → Type 0
HasAnswered so_far (x ∷ xs) (Answer response ∷ given) = HasAnswered (so_far ⊎ AsksTheRegister x.request) xs given
HasAnswered so_far (x ∷ xs) (Fault ∷ given) = HasAnswered ⊥ xs given
HasAnswered so_far [] [] = so_far
HasAnswered so_far (x ∷ xs) [] = ⊥
HasAnswered so_far [] (g ∷ given) = ⊥

-- For every office and history that the register meant before, the results are as specified, and it then means the last
-- history. If it has answered since the last fault, it preserves that history.
abbrev pub Serves : (before after keeps : Opening → List Arrival → Type 0) → List Exchange → List Given → Type 0
Serves before after keeps exchanges given = (o : Opening) (l : List Arrival) → before o l → (last : List Arrival)
    × AllDue o l exchanges given last × after o last × (HasAnswered ⊥ exchanges given → keeps o last)

-- none of these is a message
abbrev pub AskNoChange : List Exchange → Type 0
AskNoChange exchanges = All (λ x. AsksNoChange x.request) exchanges

-- the exchange hasn't changed the stored rows: it got a fault, or it is no message, or it was refused
abbrev pub IsGivenNoChange : Exchange → Given → Type 0
IsGivenNoChange x (Answer response) = GetsNoChange x.request response
IsGivenNoChange x Fault = Unit {0}

-- the same for each exchange and its result
abbrev pub AreGivenNoChange : List Exchange → List Given → Type 0
AreGivenNoChange (x ∷ xs) (g ∷ given) = IsGivenNoChange x g × AreGivenNoChange xs given
AreGivenNoChange [] [] = Unit {0}
AreGivenNoChange (x ∷ xs) [] = ⊥
AreGivenNoChange [] (g ∷ given) = ⊥
