-- The revocations stay the same after a message that revokes nothing.
use Rattle.std.proofs.Common.{◌≡◌, ℕ, List, [], ◌∷◌, ◌++◌, Bool, true, false, cond, Option, Some, None, Result, Ok, Err}
use Rattle.std.proofs.Common.{nat_eq, refl, sym, ap, subst, ◌∙◌}
use Rattle.std.specs.Prelude.{codes}
use Rattle.std.specs.List.{starts_with}
use Rattle.std.proofs.lemmas.List.Sums.{fold_push, fold-append}
use Rattle.std.proofs.lemmas.Bool.{and_parts}
use Rattle.std.proofs.lemmas.Option.{cond_some, option_and_then_some}
use Rattle.std.proofs.lemmas.Slice.Eq.{bytes_eq-Decides}
use Rattle.values.specs.declared.refusal.Refusal.{Refusal}
use Rattle.message.specs.declared.kinds.Message.{Message}
use Rattle.message.specs.declared.kinds.Message.TheVariants as message
use Rattle.message.specs.Reading.{message_of}
use Rattle.message.specs.Texts.{message_text}
use Rattle.message.specs.Values.{is_message}
use Rattle.office.specs.declared.opening.Opening.{Opening}
use Rattle.office.specs.declared.arrival.Arrival.{Arrival}
use Rattle.office.specs.declared.certificate.Certificate.{Certificate}
use Rattle.office.specs.declared.listing.Revocations.{Revocations}
use Rattle.office.specs.Messages.{message_with_text, if_text_of, is_text_of}
use Rattle.office.specs.Machine.{after, ca_from_now, has_any, opened, renewed, republished, with_ca, with_one_more}
use Rattle.office.specs.State.{State}
use Rattle.office.specs.History.{First, add_accepted, change, first_accepted, judged, kept_by, state, state_after}
use Rattle.office.specs.History.{with_arrival}
use Rattle.office.specs.Listing.{AreRevocations}
use Rattle.office.proofs.Judged.{judged_is_first}
use Rattle.waiting.specs.Knowing.{IsKept, is_revocation}

-- ---- the text of a message

-- the bytes are the message's text
pub its_text : (bytes : List ℕ) (m : Message) → message_with_text bytes ≡ Some m → bytes ≡ message_text m
its_text bytes m e =
    option_and_then_some (if_text_of bytes) (message_of bytes) m e (λ n read kept.
    let is = cond_some (is_text_of bytes n) n m kept in
    subst (λ (x : Message). bytes ≡ message_text x) is.1
    ((bytes_eq-Decides bytes (message_text n)).0 (and_parts (is_message n) _ is.0).1))

-- the text of a message that revokes begins with `revoke-`
pub no_revocation : (bytes : List ℕ) (m : Message) → message_with_text bytes ≡ Some m
    → starts_with nat_eq bytes (codes "revoke-") ≡ false → is_revocation m ≡ false
no_revocation bytes m is none = by_kind m (its_text bytes m is)
  where
    begins : (text : List ℕ) → bytes ≡ text → starts_with nat_eq text (codes "revoke-") ≡ false
    begins text e = subst (λ (b : List ℕ). starts_with nat_eq b (codes "revoke-") ≡ false) e none

    by_kind : (m : Message) → bytes ≡ message_text m → is_revocation m ≡ false
    by_kind (message.Department d) e = refl
    by_kind (message.Issue i) e = refl
    by_kind (message.Renew n) e = refl
    by_kind (message.Deliver d) e = refl
    by_kind (message.RevokeSerial n) e =
        let bad : true ≡ false = begins (message_text (message.RevokeSerial n)) e in absurd (cc)
    by_kind (message.RevokeRange r) e =
        let bad : true ≡ false = begins (message_text (message.RevokeRange r)) e in absurd (cc)
    by_kind (message.RevokeKeyId k) e =
        let bad : true ≡ false = begins (message_text (message.RevokeKeyId k)) e in absurd (cc)
    by_kind (message.Rollover k) e = refl

-- ---- one more received request

module _ (r : Revocations) (s : State) (moment : ℕ) (nonce : List ℕ) (are : AreRevocations r s) where
  with_one : (c : Option Certificate) → AreRevocations r (with_one_more s c)
  with_one (Some c) = record { serials = are.serials; key_ids = are.key_ids }
  with_one None = are

  rolled : (key : List ℕ) (b : Bool)
      → AreRevocations r (cond b (republished (with_ca s (ca_from_now s key)) moment) (with_ca s (ca_from_now s key)))
  rolled key true = record { serials = are.serials; key_ids = are.key_ids }
  rolled key false = record { serials = are.serials; key_ids = are.key_ids }

  -- a message that revokes nothing
  same_after : (m : Message) → is_revocation m ≡ false → AreRevocations r (after s m moment nonce)
  same_after (message.Department d) none = record { serials = are.serials; key_ids = are.key_ids }
  same_after (message.Issue i) none = record { serials = are.serials; key_ids = are.key_ids }
  same_after (message.Renew n) none = with_one (renewed s n nonce)
  same_after (message.Deliver d) none = record { serials = are.serials; key_ids = are.key_ids }
  same_after (message.RevokeSerial serial) none = absurd cc
  same_after (message.RevokeRange range) none = absurd cc
  same_after (message.RevokeKeyId key_id) none = absurd cc
  same_after (message.Rollover k) none = rolled k.key (has_any s.revoked_key_ids)

still_revoked : (o : Opening) (l : List Arrival) (a : Arrival) (r : Revocations)
    → ((m : Message) → message_with_text a.bytes ≡ Some m → is_revocation m ≡ false)
    → AreRevocations r (state o l) → AreRevocations r (state o (l ++ a ∷ []))
still_revoked o l a r none are =
    subst (λ (fs : List First). AreRevocations r (state_after o fs)) (sym (fold-append (with_arrival o) [] l (a ∷ [])))
    (by_judged (judged (state o l) (kept_by (first_accepted o l)) a) refl)
  where
    by_judged : (x : Result First Refusal) → judged (state o l) (kept_by (first_accepted o l)) a ≡ x
        → AreRevocations r (state_after o (add_accepted (first_accepted o l) x))
    by_judged (Err e) is = are
    by_judged (Ok f) is =
        let first = judged_is_first (state o l) (kept_by (first_accepted o l)) a f is in
        subst (AreRevocations r) (sym (fold_push change (opened o) (first_accepted o l) f))
        (same_after r (state o l) f.arrival.moment f.arrival.nonce are f.message (none f.message first.message))

-- if the remembered revocations are unchanged, and the request's message revokes nothing
pub kept_over : (o : Opening) (l : List Arrival) (a : Arrival) (bytes : List ℕ) (kept : Option Revocations)
    → ((m : Message) → message_with_text bytes ≡ Some m → is_revocation m ≡ false) → a.bytes ≡ bytes
    → IsKept kept (state o l) → IsKept kept (state o (l ++ a ∷ []))
kept_over o l a bytes None none same is = tt
kept_over o l a bytes (Some r) none same is =
    still_revoked o l a r (λ m e. none m (ap message_with_text (sym same) ∙ e)) is

-- if no revocations are remembered
pub none_kept : (kept : Option Revocations) (s : State) → kept ≡ None → IsKept kept s
none_kept None s e = tt
none_kept (Some r) s e = absurd cc
