-- A property that each first acceptance preserves holds after every history, if it holds of a new office.
use Rattle.office.proofs.Words.{Arrival, Err, First, Kept, LATEST_MOMENT, List, Message, None, Ok, Opening, Refusal}
use Rattle.office.proofs.Words.{Result, Some, [], add_accepted, after, and_parts, ap, change, first_accepted}
use Rattle.office.proofs.Words.{first_holding, fold_push, is_message, judged, kept_by, ltb-false, message_with_text}
use Rattle.office.proofs.Words.{opened, refl, refusals, reply_to, state, state_after, subst, sym, true, with_arrival, ℕ}
use Rattle.office.proofs.Words.{◌++◌, ◌∙◌, ◌∷◌, ◌≡◌, ◌≤◌}
use Rattle.std.specs.List.{fold}
use Rattle.std.proofs.lemmas.List.Sums.{fold-append}
use Rattle.std.proofs.lemmas.Option.{cond_some, option_and_then_some}
use Rattle.message.specs.Reading.{message_of}
use Rattle.office.specs.Messages.{if_text_of, is_text_of}
use Rattle.office.specs.Machine.{State}
use Rattle.office.proofs.Judged.{IsFirst, judged_is_first}

-- the message with a text is valid
pub message_lawful : (bytes : List ℕ) (m : Message) → message_with_text bytes ≡ Some m → is_message m ≡ true
message_lawful bytes m e =
    option_and_then_some (if_text_of bytes) (message_of bytes) m e (λ n read kept.
    let is = cond_some (is_text_of bytes n) n m kept in
    subst (λ (x : Message). is_message x ≡ true) is.1 (and_parts (is_message n) _ is.0).0)

-- a first acceptance in a state: a valid message, not refused, at a possible time, with the model's reply
pub record IsAccepted (s : State) (f : First) : Type 0 where
  pub lawful : is_message f.message ≡ true
  pub allowed : first_holding (refusals s f.arrival.caller f.message f.arrival.moment) ≡ None
  pub in_time : f.arrival.moment ≤ LATEST_MOMENT
  pub reply : f.reply ≡ reply_to s f.message f.arrival.moment f.arrival.nonce

first_is_accepted : (s : State) (kept : List Kept) (a : Arrival) (f : First) → IsFirst s kept a f → IsAccepted s f
first_is_accepted s kept a f is = record {
  lawful = message_lawful a.bytes f.message is.message;
  allowed = ap (λ (x : Arrival). first_holding (refusals s x.caller f.message x.moment)) is.arrival ∙ is.allowed;
  in_time = subst (λ (x : Arrival). x.moment ≤ LATEST_MOMENT) (sym is.arrival) (ltb-false _ _ is.in_time);
  reply = is.reply ∙ ap (λ (x : Arrival). reply_to s f.message x.moment x.nonce) (sym is.arrival);
}

-- each first acceptance preserves `P`
abbrev pub IsKeptBy : (List First → State → Type 0) → Type 0
IsKeptBy P = (fs : List First) (s : State) (f : First) → IsAccepted s f → P fs s → P (fs ++ f ∷ []) (change s f)

module _ (P : List First → State → Type 0) (keeps : IsKeptBy P) (o : Opening) where
  kept_by_one : (fs : List First) (a : Arrival) (r : Result First Refusal)
      → judged (state_after o fs) (kept_by fs) a ≡ r → P fs (state_after o fs) → P (add_accepted fs r) (state_after o (add_accepted fs r))
  kept_by_one fs a (Err x) e p = p
  kept_by_one fs a (Ok f) e p =
      let s = state_after o fs in
      let is = first_is_accepted s (kept_by fs) a f (judged_is_first s (kept_by fs) a f e) in
      subst (P (fs ++ f ∷ [])) (sym (fold_push change (opened o) fs f)) (keeps fs s f is p)

  kept_by_more : (fs : List First) (l : List Arrival) → P fs (state_after o fs)
      → P (fold (with_arrival o) fs l) (state_after o (fold (with_arrival o) fs l))
  kept_by_more fs [] p = p
  kept_by_more fs (a ∷ l) p = kept_by_more (with_arrival o fs a) l (kept_by_one fs a _ refl p)

  -- `P` holds after every history if it holds of a newly opened office
  pub after_all : (l : List Arrival) → P [] (opened o) → P (first_accepted o l) (state o l)
  after_all l p = kept_by_more [] l p

  -- `P` holds after every continuation of a history after which it holds
  pub after_more : (l later : List Arrival) → P (first_accepted o l) (state o l)
      → P (first_accepted o (l ++ later)) (state o (l ++ later))
  after_more l later p =
      subst (λ (fs : List First). P fs (state_after o fs)) (sym (fold-append (with_arrival o) [] l later))
      (kept_by_more (first_accepted o l) later p)

-- each valid message that isn't refused preserves `P`
abbrev pub IsKept : (State → Type 0) → Type 0
IsKept P = (s : State) (caller : List ℕ) (m : Message) (moment : ℕ) (nonce : List ℕ)
    → is_message m ≡ true → first_holding (refusals s caller m moment) ≡ None → P s → P (after s m moment nonce)

-- the same for a property of the state alone
pub holds_after : (P : State → Type 0) → IsKept P → (o : Opening) (l : List Arrival) → P (opened o) → P (state o l)
holds_after P keeps o l p =
    after_all (λ fs s. P s) (λ fs s f is. keeps s f.arrival.caller f.message f.arrival.moment f.arrival.nonce
    is.lawful is.allowed) o l p
