-- What one connection did, by the way it was served.
use Rattle.server.proofs.Words.{Appends, AreServed, Arrival, Ask, Book, Consumes, Consumes-nil, Err, Fault, Ghosts}
use Rattle.server.proofs.Words.{LATEST_MOMENT, List, None, Ok, OnOk, Opening, Option, Result, Talk, TellsVisit, Visits}
use Rattle.server.proofs.Words.{WhereTold, [], answered, ap, closed, cut, inl, inr, refl, subst, sym, with_ask, ℕ, ◌++◌}
use Rattle.server.proofs.Words.{◌∙◌, ◌∷◌, ◌≡◌, ◌≤◌}
use Rattle.std.proofs.Common.{take, Some}
use Rattle.std.specs.Prelude.{Bool, false, true}
use Rattle.std.proofs.lemmas.List.Elements.{All-head}
use Rattle.wire.specs.Streams.{AppendsBeginning}
use Rattle.http_requests.proofs.OneAsk.{one_of}
use Rattle.web.specs.declared.exchange.Exchange.{Exchange}
use Rattle.web.specs.declared.exchange.Given.TheVariants.{Answer}
use Rattle.web.specs.Answers.{IsAnswered, IsOfTheRegister, Keeps}
use Rattle.web.specs.Runs.{Serves}
use Rattle.web.specs.declared.serve_fault.ServeFault.{ServeFault}
use Rattle.web.specs.declared.serve_fault.ServeFault.TheVariants.{Read, Nonces, Store, NoMemory, Write}
use Rattle.web.specs.Faults.{IfUnserved}
use Rattle.web.specs.Nonces.{Draws}
use Rattle.web.specs.Requests.{IsOneRequest}
use Rattle.web.specs.Served.{LeavesRows, Served}
use Rattle.server.specs.declared.connection_fault.Fault.TheVariants.{Socket, Clock, Serving}
use Rattle.server.specs.Books.{IsConnectionAccepted, IsEnded}
use Rattle.server.specs.Connections.{ChangesNothing, IsHeld, IsOfAccepting, IsSilent, TellsFault}

-- the bytes read from a connection are a prefix of what it sent
split_request : (sent : List ℕ) (reader : Option (List ℕ)) (request : List ℕ) → Consumes (Some sent) reader request
    → IsOneRequest reader request → (left : List ℕ) × (sent ≡ request ++ left) × IsOneRequest (Some left) request
split_request sent None request taken one = absurd taken
split_request sent (Some left) request taken one = (left, taken, one)

-- a writer that had taken nothing has taken exactly the bytes written
took_all : (writer : Option (List ℕ)) (written taken : List ℕ) → Appends (Some []) writer written
    → writer ≡ Some taken → taken ≡ written
took_all None written taken wrote took = absurd wrote
took_all (Some all) written taken wrote took = let same : all ≡ taken = cc in sym same ∙ wrote

-- the book after a request that was served, and after these bytes were written
told_held : (talk : Talk) (written : List ℕ) (whole : Bool) (reader reader' writer writer' : Option (List ℕ))
    (old mid new : Option Book)
    → WhereTold (IsConnectionAccepted reader writer talk.exchange.moment) old mid → Consumes reader reader' talk.exchange.request
    → IsOneRequest reader' talk.exchange.request
    → Appends writer writer' written → WhereTold (IsEnded writer' whole) mid new
    → WhereTold (IsHeld talk (record { bytes = written; whole = whole })) old new
told_held talk written whole reader reader' writer writer' None mid new accepted taken one wrote ended = tt
told_held talk written whole reader reader' writer writer' (Some old) None new accepted taken one wrote ended = absurd
    accepted
told_held talk written whole reader reader' writer writer' (Some old) (Some mid) None accepted taken one wrote ended =
    absurd ended
told_held talk written whole reader reader' writer writer' (Some old) (Some mid) (Some new) accepted taken one wrote ended =
    let parts = split_request accepted.sent reader' talk.exchange.request
    (subst (λ (r : Option (List ℕ)). Consumes r reader' talk.exchange.request) accepted.gives taken) one in
    let all = took_all writer' written ended.bytes
    (subst (λ (w : Option (List ℕ)). Appends w writer' written) accepted.silent wrote) ended.took in
    let same = parts.1 in
    let coming = accepted.coming in
    let coming' = ended.coming in
    let kept = accepted.kept in
    let kept' = ended.kept in
    record {
      left = parts.0;
      one = parts.2;
      met = record { coming = cc; kept = cc };
    }

-- the book after a connection on which nothing was written
told_closed : (fault : ServeFault) (drawn : List ℕ) (silent : IsSilent (Serving fault) drawn)
    (reader writer writer' : Option (List ℕ)) (moment : ℕ) (old mid new : Option Book)
    → WhereTold (IsConnectionAccepted reader writer moment) old mid → writer' ≡ writer
    → WhereTold (IsEnded writer' false) mid new
    → WhereTold (TellsVisit (closed (record { fault = Serving fault; drawn = drawn; silent = silent }))) old new
told_closed fault drawn silent reader writer writer' moment None mid new accepted same ended = tt
told_closed fault drawn silent reader writer writer' moment (Some old) None new accepted same ended = absurd accepted
told_closed fault drawn silent reader writer writer' moment (Some old) (Some mid) None accepted same ended = absurd ended
told_closed fault drawn silent reader writer writer' moment (Some old) (Some mid) (Some new) accepted same ended =
    let silence = accepted.silent in
    let took = ended.took in
    let nothing : ended.bytes ≡ [] = cc in
    let coming = accepted.coming in
    let coming' = ended.coming in
    let kept = accepted.kept in
    let kept' = ended.kept in
    (record { sent = accepted.sent; moment = moment }, record { coming = cc; kept = cc })

-- a single answered exchange, as a batch
serves_one : (x : Exchange) (response : List ℕ) (before after keeps : Opening → List Arrival → Type 0)
    → IsAnswered before after keeps x.request x.moment x.nonce response
    → Serves before after keeps (x ∷ []) (Answer response ∷ [])
serves_one x response before after keeps answers o l m =
    let a = answers o l m in (
      with_ask l a.ask x.moment x.nonce,
      (a.ask, a.asks, a.text, a.list, refl),
      a.history,
      λ h. elim h [
        | inl none ↦ absurd none
        | inr asks ↦ a.kept (subst (λ (k : Ask). IsOfTheRegister k) (one_of x.request asks.0 a.ask asks.1 a.asks) asks.2)
      ],
    )

-- if the first `count` bytes of its response were written, the talk was cut
told_cut : (talk : Talk) (count : ℕ) (old new : Option Book)
    → WhereTold (IsHeld talk (record { bytes = take count talk.response; whole = false })) old new → WhereTold (TellsVisit (cut talk)) old new
told_cut talk count None new held = tt
told_cut talk count (Some old) None held = absurd held
told_cut talk count (Some old) (Some new) held = (count, held)

-- a result that is this fault
abbrev fails : (A : Type 0) → ServeFault → Result A ServeFault
fails A fault = Err fault

-- a connection that was accepted, served and ended
module _ (S W : Type 0) (register : Ghosts S) (taken_by : W → Option (List ℕ))
    (reader reader' source source' : Option (List ℕ))
    (w w' : W) (s s' : S) (old mid new : Option Book) (moment : ℕ) (lawful : moment ≤ LATEST_MOMENT)
    (accepted : WhereTold (IsConnectionAccepted reader (taken_by w) moment) old mid) where
  -- it was ended as one whose entire response was written, or as another
  abbrev Ended : Bool → Type 0
  Ended whole = WhereTold (IsEnded (taken_by w') whole) mid new

  -- its request was served
  abbrev IsServed : Type 0
  IsServed = Served reader reader' source source' moment register s s'

  -- the request and its response
  abbrev talk_of : IsServed → Talk
  talk_of x = record {
    exchange = record { request = x.request; moment = moment; nonce = x.nonce };
    response = x.response;
    lawful = lawful;
    size = x.nonce_size;
    form = x.form;
  }

  -- the register answered it
  talk_served : (x : IsServed) → AreServed register s s' (answered (talk_of x) ∷ [])
  talk_served x = λ h. serves_one (talk_of x).exchange x.response (register.means s) (register.means s')
      (Keeps register.means register.is_open s') (x.answered h)

  -- the response was written
  answered_by : {T : Type 0} (t : T) (x : IsServed) → Appends (taken_by w) (taken_by w') x.response → Ended true
      → Visits {A = T} (Ok t) old new source source' register s s'
  answered_by t x wrote ended = record {
    visit = answered (talk_of x);
    ends = tt;
    told = told_held (talk_of x) x.response true reader reader' (taken_by w) (taken_by w') old mid new accepted x.taken x.one
        wrote ended;
    drawn = x.nonce_taken;
    served = talk_served x;
    reads = λ none. x.reads (All-head ChangesNothing (answered (talk_of x)) [] none);
  }

  -- a prefix of the response was written
  cut_by : {T : Type 0} (x : IsServed) → AppendsBeginning (taken_by w) (taken_by w') x.response → Ended false
      → Visits {A = T} (Err (Serving Write)) old new source source' register s s'
  cut_by x wrote ended = record {
    visit = cut (talk_of x);
    ends = refl;
    told = told_cut (talk_of x) wrote.count old new (told_held (talk_of x) (take wrote.count x.response) false reader reader'
        (taken_by w) (taken_by w') old mid new accepted x.taken x.one wrote.grown ended);
    drawn = x.nonce_taken;
    served = talk_served x;
    reads = λ none. x.reads (All-head ChangesNothing (cut (talk_of x)) [] none);
  }

  -- nothing was written
  closed_by : {T : Type 0} (fault : ServeFault) (drawn : List ℕ) → Consumes source source' drawn
      → IsSilent (Serving fault) drawn → w' ≡ w
      → (register.is_honest s' → (o : Opening) (l : List Arrival) → register.means s o l → register.means s' o l)
      → LeavesRows register s s' → Ended false → Visits {A = T} (Err (Serving fault)) old new source source' register s s'
  closed_by fault drawn consumed silent same kept before ended = record {
    visit = closed (record { fault = Serving fault; drawn = drawn; silent = silent });
    ends = refl;
    told = told_closed fault drawn silent reader (taken_by w) (taken_by w') moment old mid new accepted
        (ap taken_by same) ended;
    drawn = consumed;
    served = λ h o l m. (l, refl, kept h o l m, λ none. absurd none);
    reads = λ none. before;
  }

  -- serving ended with this fault
  failed_by : {T A : Type 0} (fault : ServeFault)
      → (fails A fault ≡ fails A Write → (x : IsServed) × AppendsBeginning (taken_by w) (taken_by w') x.response)
      → IfUnserved (fails A fault) (w' ≡ w)
      → (register.is_honest s' → IfUnserved (fails A fault) ((o : Opening) (l : List Arrival) → register.means s o l
      → register.means s' o l)) → Draws (fails A fault) source source'
      → IfUnserved (fails A fault) (LeavesRows register s s') → Ended false
      → Visits {A = T} (Err (Serving fault)) old new source source' register s s'
  failed_by Read broke same kept drew before ended =
      closed_by Read drew.drawn drew.consumed drew.size same kept before ended
  failed_by Nonces broke same kept drew before ended =
      closed_by Nonces drew.drawn drew.consumed drew.size same kept before ended
  failed_by Store broke same kept drew before ended =
      closed_by Store drew.drawn drew.consumed drew.size same kept before ended
  failed_by NoMemory broke same kept drew before ended =
      closed_by NoMemory drew.drawn drew.consumed drew.size same kept before ended
  failed_by Write broke same kept drew before ended = let cut = broke refl in cut_by cut.0 cut.1 ended

  -- serving succeeded
  pub answered_visit : {T A : Type 0} (t : T) (a : A) (served : Result A ServeFault) → served ≡ Ok a
      → OnOk served ((x : IsServed) × Appends (taken_by w) (taken_by w') x.response) → Ended true
      → Visits {A = T} (Ok t) old new source source' register s s'
  answered_visit t a (Ok b) is wrote ended = answered_by t wrote.0 wrote.1 ended
  answered_visit t a (Err fault) is wrote ended = absurd (cc)

  -- serving ended with a fault
  pub failed_visit : {T A : Type 0} (fault : ServeFault) (served : Result A ServeFault) → served ≡ Err fault
      → (served ≡ Err Write → (x : IsServed) × AppendsBeginning (taken_by w) (taken_by w') x.response)
      → IfUnserved served (w' ≡ w) → (register.is_honest s' → IfUnserved served ((o : Opening) (l : List Arrival)
      → register.means s o l → register.means s' o l)) → Draws served source source'
      → IfUnserved served (LeavesRows register s s') → Ended false
      → Visits {A = T} (Err (Serving fault)) old new source source' register s s'
  failed_visit fault (Ok a) is broke same kept drew before ended = absurd (cc)
  failed_visit {T} {A} fault (Err e) is broke same kept drew before ended =
      let one : e ≡ fault = cc in
      subst (λ (f : ServeFault). Visits {A = T} (Err (Serving f)) old new source source' register s s') one
      (failed_by {A = A} e broke same kept drew before ended)

-- if accepting failed, nothing was written, and no nonce drawn
silent : (fault : Fault) → IsOfAccepting fault → IsSilent fault []
silent Socket only = refl
silent Clock only = refl
silent (Serving fault) only = absurd only

-- the book if no connection was accepted
told_unaccepted : (fault : Fault) (silent : IsSilent fault []) (old new : Option Book)
    → WhereTold (TellsFault fault) old new
    → WhereTold (TellsVisit (closed (record { fault = fault; drawn = []; silent = silent }))) old new
told_unaccepted fault silent None new told = tt
told_unaccepted fault silent (Some old) None told = absurd told
told_unaccepted fault silent (Some old) (Some new) told = told

-- no connection was accepted
pub unaccepted_visit : {T S : Type 0} (fault : Fault) (source : Option (List ℕ)) (old new : Option Book)
    (register : Ghosts S) (s : S) → register.is_as_before s s → IsOfAccepting fault
    → WhereTold (TellsFault fault) old new → Visits {A = T} (Err fault) old new source source register s s
unaccepted_visit fault source old new register s unasked only told = record {
  visit = closed (record { fault = fault; drawn = []; silent = silent fault only });
  ends = refl;
  told = told_unaccepted fault (silent fault only) old new told;
  drawn = Consumes-nil source;
  served = λ h o l m. (l, refl, m, λ none. absurd none);
  reads = λ none honest is. unasked;
}
