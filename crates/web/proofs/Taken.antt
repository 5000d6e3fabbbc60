-- Bytes that are taken one after another.
use Rattle.web.proofs.Words.{Ask, Consumes, Err, IfOk, List, Ok, Option, Plans, Refused, Result, [], ap, arith, get_or}
use Rattle.web.proofs.Words.{inl, inr, length, refl, request_ask, subst, sym, take, ℕ, ◌++◌, ◌∙◌, ◌∷◌, ◌≡◌, ◌≤◌}
use Rattle.std.proofs.KnownBytes.{Consumes-trans}
use Rattle.values.specs.declared.refusal.Refusal.TheVariants.{BadHead}
use Rattle.http_requests.proofs.Reading.{good_with_body, no_more_of_waits}
use Rattle.http_requests.specs.declared.plan.Plan.{Plan}
use Rattle.http_requests.specs.Asks.{HeadAsks}
use Rattle.http_requests.specs.BodySizes.{WantsBody}
use Rattle.http_requests.specs.Heads.{IsGood}
use Rattle.http_requests.specs.Plans.{plan_ask, plan_size}
use Rattle.web.specs.declared.request.Request.{Request}
use Rattle.web.specs.Requests.{IsFront, IsTaken, TakesBody}

-- one byte that was read
one_byte : (buf : List ℕ) (n : ℕ) → length buf ≡ 1 → n ≤ 1 → (n ≡ 0 → ⊥) → take n buf ≡ get_or buf 0 0 ∷ []
one_byte [] n one most some = absurd (omega arith)
one_byte (b ∷ []) n one most some =
    let e : n ≡ 1 = omega arith in
    rw e refl
one_byte (b ∷ c ∷ buf) n one most some = absurd (omega arith)

-- one more byte was taken
pub byte_more : (old mid new : Option (List ℕ)) (taken buf after : List ℕ) (n : ℕ) → length buf ≡ 1 → n ≤ length buf
    → (n ≡ 0 → ⊥) → after ≡ taken ++ get_or buf 0 0 ∷ [] → Consumes old mid taken → Consumes mid new (take n buf)
    → Consumes old new after
byte_more old mid new taken buf after n one most some e x y =
    let byte = one_byte buf n one (omega arith) some in
    let P : List ℕ → Type 0 = Consumes mid new in
    rw e (Consumes-trans old mid new taken (get_or buf 0 0 ∷ []) x (subst P byte y))

-- a request whose head requires no body is taken once its front is
pub front_taken : (old new : Option (List ℕ)) (front : List ℕ) (plan : Plan) (request : Request)
    → Consumes old new front → IsFront new front → Plans front plan → plan_size plan ≡ 0
    → plan_ask plan [] ≡ request_ask request → IsTaken old new request
front_taken old new front plan request taken is (inl (none, e)) size ask = record {
  bytes = front;
  consumed = taken;
  one = inr (record { none = none; front = is });
  asks = inl (none, sym ask ∙ ap (λ p. plan_ask p []) e);
}
front_taken old new front plan request taken is (inr (h, rest, good, plans)) size ask =
    let P : List ℕ → Type 0 = λ t. IsGood front h t in
    let Q : ℕ → Type 0 = WantsBody h in
    let R : Ask → Type 0 = HeadAsks h [] in
    let alone = subst P (no_more_of_waits front is.shortest h rest (good.0.reads, good.0.lines)) good in
    record {
      bytes = front;
      consumed = taken;
      one = inl (record {
        head = h;
        body = [];
        good = alone;
        size = 0;
        wants = subst Q size plans.wants;
        filled = inl refl;
      });
      asks = inr (h, [], alone, subst R ask (plans.asks []));
    }

-- a request is taken once its front and the body that the head requires are
pub body_taken : (old mid new : Option (List ℕ)) (front : List ℕ) (plan : Plan) (request : Request)
    → Consumes old mid front → IsFront mid front → Plans front plan → ¬ (plan ≡ Refused BadHead)
    → TakesBody mid new (plan_size plan) (plan_ask plan) request → IsTaken old new request
body_taken old mid new front plan request taken is (inl (none, e)) differs body = absurd (differs e)
body_taken old mid new front plan request taken is (inr (h, rest, good, plans)) differs body =
    let R : Ask → Type 0 = HeadAsks h body.body in
    let whole = good_with_body front body.body rest h good (no_more_of_waits front is.shortest) in
    record {
      bytes = front ++ body.body;
      consumed = Consumes-trans old mid new front body.body taken body.consumed;
      one = inl (record {
        head = h;
        body = body.body;
        good = whole;
        size = plan_size plan;
        wants = plans.wants;
        filled = body.filled;
      });
      asks = inr (h, body.body, whole, subst R (sym body.asks) (plans.asks body.body));
    }

-- the same if taking the body may fail
pub bodies_taken : {E : Type 0} (r : Result Request E) (old mid new : Option (List ℕ)) (front : List ℕ) (plan : Plan)
    → Consumes old mid front → IsFront mid front → Plans front plan → ¬ (plan ≡ Refused BadHead)
    → IfOk r (TakesBody mid new (plan_size plan) (plan_ask plan)) → IfOk r (IsTaken old new)
bodies_taken (Ok request) old mid new front plan taken is plans differs body =
    body_taken old mid new front plan request taken is plans differs body
bodies_taken (Err e) old mid new front plan taken is plans differs body = tt
