-- The facts about an arrival that is judged to be a first acceptance.
use Rattle.office.proofs.Words.{AllByRecursion, Arrival, BadMessage, BadMoment, Bool, First, Kept, KeyReused}
use Rattle.office.proofs.Words.{LATEST_MOMENT, List, Message, None, Ok, Option, Refusal, Some, [], after, cond, false}
use Rattle.office.proofs.Words.{first_holding, first_of_step, has_key, judged, list_any, message_with_text, nat_lt}
use Rattle.office.proofs.Words.{or_fault, refl, refusals, refuse_if, reply_to, step, subst, true, ◌>>=◌, ◌∷◌, ◌≡◌}
use Rattle.office.specs.Machine.{State, Stepped, refused_or}

pub record IsFirst (s : State) (kept : List Kept) (a : Arrival) (f : First) : Type 0 where
  pub arrival : f.arrival ≡ a
  pub message : message_with_text a.bytes ≡ Some f.message
  pub in_time : nat_lt LATEST_MOMENT a.moment ≡ false
  pub new : list_any (has_key a) kept ≡ false
  pub allowed : first_holding (refusals s a.caller f.message a.moment) ≡ None
  pub reply : f.reply ≡ reply_to s f.message a.moment a.nonce

-- the outcome of a step that isn't refused
pub step_gives : (r : Option Refusal) (x y : Stepped) → refused_or r x ≡ Ok y → x ≡ y
step_gives (Some r) x y e = absurd cc
step_gives None x y e = cc

-- the first acceptance from a step that isn't refused
allowed_step : (a : Arrival) (m : Message) (r : Option Refusal) (x : Stepped) (f : First) → (refused_or r x >>= λ st. Ok (first_of_step a m st)) ≡ Ok f
    → (r ≡ None) × (first_of_step a m x ≡ f)
allowed_step a m (Some r) x f e = absurd cc
allowed_step a m None x f e = (refl, cc)

found_through : (s : State) (kept : List Kept) (a : Arrival) (o : Option Message) (late known : Bool) (f : First)
    → message_with_text a.bytes ≡ o → nat_lt LATEST_MOMENT a.moment ≡ late → list_any (has_key a) kept ≡ known
    → (or_fault BadMessage o >>= λ m. refuse_if late BadMoment >>= λ _. refuse_if known KeyReused
    >>= λ _. step s a.caller m a.moment a.nonce >>= λ st. Ok (first_of_step a m st)) ≡ Ok f → IsFirst s kept a f
found_through s kept a (Some m) false false f is-m is-late is-known e =
    let r = first_holding (refusals s a.caller m a.moment) in
    let x : Stepped = record { state = after s m a.moment a.nonce; reply = reply_to s m a.moment a.nonce } in
    let g = allowed_step a m r x f e in
    subst (λ (f : First). IsFirst s kept a f) g.1
    (record { arrival = refl; message = is-m; in_time = is-late; new = is-known; allowed = g.0; reply = refl })
found_through s kept a o late known f is-m is-late is-known e = absurd cc

-- a first acceptance has the arrival's message, which is allowed, and the model's reply
pub judged_is_first : (s : State) (kept : List Kept) (a : Arrival) (f : First) → judged s kept a ≡ Ok f → IsFirst s kept a f
judged_is_first s kept a f = found_through s kept a (message_with_text a.bytes) _ _ f refl refl refl

-- if no refusal applies, each condition is false
pub none_holds : (rs : List (Refusal × Bool)) → first_holding rs ≡ None → AllByRecursion (λ r. r.1 ≡ false) rs
none_holds [] e = tt
none_holds (r ∷ rs) e =
    let p = by_test r.1 (first_holding rs) r.0 e in (p.0, none_holds rs p.1)
  where
    by_test : (b : Bool) (rest : Option Refusal) (x : Refusal) → cond b (Some x) rest ≡ None → (b ≡ false) × (rest ≡ None)
    by_test true rest x e = absurd cc
    by_test false rest x e = (refl, e)
