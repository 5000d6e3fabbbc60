-- Histories that grow connection by connection.
use Rattle.server.proofs.Words.{AllDue, AreServed, Arrival, Ask, Book, Extends, Fault, Ghosts, LATEST_MOMENT, List}
use Rattle.server.proofs.Words.{Opening, Option, Result, Talk, Visit, ServesConnections, Visits, [], answered, ap}
use Rattle.server.proofs.Words.{append-nil}
use Rattle.server.proofs.Words.{arith, closed, cut, exchange_of, given_of, length, length-append, map, refl, subst, sym}
use Rattle.server.proofs.Words.{with_ask, ℕ, ◌++◌, ◌∙◌, ◌∷◌, ◌≡◌, ◌≤◌}
use Rattle.std.proofs.Common.{suc, append_assoc}
use Rattle.std.specs.Prelude.{All}
use Rattle.std.proofs.lemmas.List.Elements.{All-append, All-cons, All-nil}
use Rattle.http_requests.specs.Asks.{refused, get, post}
use Rattle.web.specs.Answers.{arrival_by}
use Rattle.server.specs.Connections.{IsExtended, IsTimely}

-- a history with at most `most` more arrivals
record Grows (most : ℕ) (old new : List Arrival) : Type 0 where
  more : List Arrival
  count : length more ≤ most
  timely : All IsTimely more
  same : new ≡ old ++ more

-- an unchanged history grows by nothing
grows_by_none : (most : ℕ) (old new : List Arrival) → new ≡ old → Grows most old new
grows_by_none most old new same =
    record { more = []; count = (omega arith); timely = All-nil IsTimely; same = same ∙ sym (append-nil old) }

-- a request adds its arrival, or nothing
grows_by_ask : (old new : List Arrival) (ask : Ask) (moment : ℕ) (nonce : List ℕ) → moment ≤ LATEST_MOMENT
    → length nonce ≡ 32
    → new ≡ with_ask old ask moment nonce → Grows 1 old new
grows_by_ask old new (refused refusal) moment nonce lawful size same = grows_by_none 1 old new same
grows_by_ask old new (get resource) moment nonce lawful size same = grows_by_none 1 old new same
grows_by_ask old new (post caller key message) moment nonce lawful size same =
    let arrival = arrival_by caller key message moment nonce in
    record {
      more = arrival ∷ [];
      count = (omega arith);
      timely = All-cons IsTimely arrival [] (record { moment = lawful; nonce = size }) (All-nil IsTimely);
      same = same;
    }

-- a request that was served adds its arrival, or nothing, before what follows
grows_by_talk : (old new : List Arrival) (talk : Talk) (ask : Ask) (most : ℕ)
    → Grows most (with_ask old ask talk.exchange.moment talk.exchange.nonce) new → Grows (suc most) old new
grows_by_talk old new talk ask most y =
    let mid = with_ask old ask talk.exchange.moment talk.exchange.nonce in
    let x = grows_by_ask old mid ask talk.exchange.moment talk.exchange.nonce talk.lawful talk.size refl in
    record {
      more = x.more ++ y.more;
      count = (omega (arith, length-append x.more y.more, x.count, y.count));
      timely = All-append IsTimely x.more y.more x.timely y.timely;
      same = y.same ∙ ap (λ (l : List Arrival). l ++ y.more) x.same ∙ append_assoc old x.more y.more;
    }

-- visits add at most as many arrivals as there are visits
grows_by_visits : (o : Opening) (visits : List Visit) (old new : List Arrival)
    → AllDue o old (map exchange_of visits) (map given_of visits) new → Grows (length visits) old new
grows_by_visits o [] old new same = grows_by_none 0 old new same
grows_by_visits o (answered talk ∷ visits) old new due = grows_by_talk old new talk due.0 (length visits)
    (grows_by_visits o visits _ new due.4)
grows_by_visits o (cut talk ∷ visits) old new due = grows_by_talk old new talk due.0 (length visits)
    (grows_by_visits o visits _ new due.4)
grows_by_visits o (closed silence ∷ visits) old new due =
    let x = grows_by_visits o visits old new due in
    record { more = x.more; count = (omega (arith, x.count)); timely = x.timely; same = x.same }

-- a history that has grown is extended
grown : (most : ℕ) (old new : List Arrival) (means : List Arrival → Type 0) → Grows most old new → means new
    → IsExtended most old means
grown most old new means x m = record {
  more = x.more;
  count = x.count;
  timely = x.timely;
  history = subst means
      x.same m;
}

-- Served visits extend the history by at most one arrival each.
served_extends : {S : Type 0} (register : Ghosts S) (old new : S) (visits : List Visit)
    → AreServed register old new visits → register.is_honest new → Extends (length visits) (register.means old) (register.means new)
served_extends register old new visits x h o l m =
    let s = x h o l m in
    grown (length visits) l s.0 (register.means new o) (grows_by_visits o visits l s.0 s.1) s.2

-- A connection adds at most one arrival.
pub visit_extends : {S T : Type 0} (result : Result T Fault) (book book' : Option Book)
    (source source' : Option (List ℕ)) (register : Ghosts S) (old new : S) → Visits result book book' source source' register old new
    → register.is_honest new → Extends 1 (register.means old) (register.means new)
visit_extends result book book' source source' register old new x h =
    served_extends register old new (x.visit ∷ []) x.served h

-- n connections add at most n arrivals.
pub meets_extends : {S : Type 0} (n : ℕ) (book book' : Option Book) (source source' : Option (List ℕ))
    (register : Ghosts S) (old new : S) → ServesConnections n book book' source source' register old new
    → register.is_honest new → Extends n (register.means old) (register.means new)
meets_extends n book book' source source' register old new x h =
    subst (λ (most : ℕ). Extends most (register.means old) (register.means new)) x.all
    (served_extends register old new x.visits x.served h)
