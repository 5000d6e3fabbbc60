-- One more arrival.
use Rattle.office.proofs.Words.{Arrival, BadMessage, BadMoment, Bool, Err, First, IsOffice, Kept, KeyReused}
use Rattle.office.proofs.Words.{LATEST_MOMENT, List, Message, None, Ok, Opening, Option, Refusal, Result, Some, []}
use Rattle.office.proofs.Words.{add_accepted, ap, cases_Bool, change, due, due_on, first_accepted, first_of_step}
use Rattle.office.proofs.Words.{fold_push, has_key, inl, inr, judged, kept_by, kept_row, list_any, map-append}
use Rattle.office.proofs.Words.{message_with_text, nat_lt, opened, or_fault, refl, refuse_if, reply_kept, state}
use Rattle.office.proofs.Words.{state_after, step, subst, sym, true, with_arrival, ℕ, ◌++◌, ◌<◌, ◌>>=◌, ◌∙◌, ◌∷◌, ◌≡◌}
use Rattle.std.specs.Prelude.{IsErr}
use Rattle.std.proofs.lemmas.Bool.{or_left, or_right}
use Rattle.office.specs.declared.arrival.Outcome.TheVariants as outcome
use Rattle.office.specs.Machine.{State}
use Rattle.office.specs.Shows.{Shows}

-- if a message is stored, so is its request key
has_key_kept : (kept : List Kept) (a : Arrival) (r : List ℕ) → reply_kept kept a ≡ Some r → list_any (has_key a) kept ≡ true
has_key_kept [] a r e = absurd cc
has_key_kept (k ∷ kept) a r e = elim (cases_Bool (has_key a k)) [
  | inl same ↦ or_left _ _ same
  | inr other ↦ or_right _ _ (has_key_kept kept a r (rw other at e))
]

known_key_is_refused : (s : State) (a : Arrival) (m : Option Message) (late : Bool)
    → IsErr {T = First} {E = Refusal} (or_fault BadMessage m >>= λ message. refuse_if late BadMoment >>= λ _. refuse_if true KeyReused >>= λ _.
    step s a.caller message a.moment a.nonce >>= λ stepped. Ok (first_of_step a message stepped))
known_key_is_refused s a (Some m) true = refl
known_key_is_refused s a m late = refl

-- an office that a register shows satisfies `IsOffice`
pub shows_office : (s : State) (kept : List Kept) (o : Opening) (l : List Arrival) → Shows s kept o l → IsOffice o l
shows_office s kept o l m = record { opening = m.lawful; version = subst (λ (t : State). t.version < 9223372036854775807) m.is_state m.version }

-- so an arrival with a stored reply isn't judged to be a first acceptance
repeat_is_refused : (s : State) (kept : List Kept) (a : Arrival) (r : List ℕ) → reply_kept kept a ≡ Some r → IsErr (judged s kept a)
repeat_is_refused s kept a r e = rw (has_key_kept kept a r e) (known_key_is_refused s a (message_with_text a.bytes) (nat_lt LATEST_MOMENT a.moment))

due_is : (s : State) (kept : List Kept) (o : Opening) (l : List Arrival) (a : Arrival) → Shows s kept o l → due o l a ≡ due_on s kept a
due_is s kept o l a m = sym (ap (λ t. due_on t (kept_by (first_accepted o l)) a) m.is_state) ∙ sym (ap (λ k. due_on s k a) m.is_kept)

judged_is : (s : State) (kept : List Kept) (o : Opening) (l : List Arrival) (a : Arrival) → Shows s kept o l
    → judged (state o l) (kept_by (first_accepted o l)) a ≡ judged s kept a
judged_is s kept o l a m = sym (ap (λ t. judged t (kept_by (first_accepted o l)) a) m.is_state) ∙ sym (ap (λ k. judged s k a) m.is_kept)

accepted_step : (o : Opening) (l : List Arrival) (a : Arrival) (r : Result First Refusal) → judged (state o l) (kept_by (first_accepted o l)) a ≡ r
    → first_accepted o (l ++ a ∷ []) ≡ add_accepted (first_accepted o l) r
accepted_step o l a r e = fold_push (with_arrival o) [] l a ∙ ap (add_accepted (first_accepted o l)) e

-- an arrival that is no first acceptance changes nothing
stays : (s : State) (kept : List Kept) (o : Opening) (l : List Arrival) (a : Arrival) (r : Result First Refusal) → judged s kept a ≡ r → IsErr r → Shows s kept o l → Shows s kept o (l ++ a ∷ [])
stays s kept o l a (Ok f) e err m = absurd cc
stays s kept o l a (Err x) e err m =
    let step = accepted_step o l a (Err x) (judged_is s kept o l a m ∙ e) in
    record { lawful = m.lawful; version = m.version; is_kept = m.is_kept ∙ ap kept_by (sym step); is_state = m.is_state ∙ ap (state_after o) (sym step) }

-- the specified answer to a repeat is the stored reply
pub shows_repeated : (s : State) (kept : List Kept) (o : Opening) (l : List Arrival) (a : Arrival) (r : List ℕ) → reply_kept kept a ≡ Some r → Shows s kept o l
    → (outcome.Repeated r ≡ due o l a) × Shows s kept o (l ++ a ∷ [])
shows_repeated s kept o l a r e m =
    (sym (due_is s kept o l a m ∙ rw e refl), stays s kept o l a _ refl (repeat_is_refused s kept a r e) m)

-- a refusal is as specified, and changes nothing
pub shows_refused : (s : State) (kept : List Kept) (o : Opening) (l : List Arrival) (a : Arrival) (r : Refusal) → reply_kept kept a ≡ None → judged s kept a ≡ Err r → Shows s kept o l
    → (outcome.Refused r ≡ due o l a) × Shows s kept o (l ++ a ∷ [])
shows_refused s kept o l a r new e m =
    (sym (due_is s kept o l a m ∙ rw (new, e) refl), stays s kept o l a (Err r) e refl m)

-- a first acceptance gets the specified reply, which is stored, and changes the state
pub shows_accepted : (s : State) (kept : List Kept) (o : Opening) (l : List Arrival) (a : Arrival) (f : First) → reply_kept kept a ≡ None → judged s kept a ≡ Ok f → (change s f).version < 9223372036854775807 → Shows s kept o l
    → (outcome.Accepted f.reply ≡ due o l a) × Shows (change s f) (kept ++ kept_row f ∷ []) o (l ++ a ∷ [])
shows_accepted s kept o l a f new e room m =
    let step = accepted_step o l a (Ok f) (judged_is s kept o l a m ∙ e) in (
      sym (due_is s kept o l a m ∙ rw (new, e) refl),
      record {
        lawful = m.lawful;
        version = room;
        is_kept = ap (λ ks. ks ++ kept_row f ∷ []) m.is_kept ∙ sym (map-append kept_row (first_accepted o l) (f ∷ [])) ∙ ap kept_by (sym step);
        is_state = ap (λ t. change t f) m.is_state ∙ sym (fold_push change (opened o) (first_accepted o l) f) ∙ ap (state_after o) (sym step);
      },
    )
