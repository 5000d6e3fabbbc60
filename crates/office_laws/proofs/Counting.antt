-- Serials are consecutive.
use Rattle.office_laws.proofs.Words.{Arrival, Bool, Certificate, First, IsKeptByEach, List, Message, None, Opening}
use Rattle.office_laws.proofs.Words.{Option, Some, State, [], add-one, after, after_all, always, ap, certificate_of}
use Rattle.office_laws.proofs.Words.{cond, false, has_any, is_key_id_revoked, is_range_revoked, length, length-append}
use Rattle.office_laws.proofs.Words.{length-signed_at, map, map-append, newest_key, next_serial, opening_stays, refl}
use Rattle.office_laws.proofs.Words.{state, subst, sym, true, with_one_more, ℕ, ◌++◌, ◌-◌, ◌∙◌, ◌∷◌, ◌≡◌}
use Rattle.std.specs.Prelude.{is_none, filter}
use Rattle.std.specs.Option.{option_map}
use Rattle.std.proofs.lemmas.List.{append-nil}
use Rattle.std.proofs.lemmas.List.Elements.{filter-append}
use Rattle.message.specs.declared.kinds.Message.TheVariants as message
use Rattle.office.specs.Certificates.{renewed_certificate}
use Rattle.office.specs.Refusals.{refusals, first_holding}
use Rattle.office.specs.Machine.{reply_to, issued, reply_to_made}
use Rattle.office.proofs.Judged.{none_holds}
use Rattle.office.proofs.Histories.{IsKeptBy}
use Rattle.office_laws.specs.Counting.{CountsUp, counted_from, is_issuing, issue_replies, reply_of}
use Rattle.office_laws.proofs.Bodies.{map-signed_at}

-- ---- serials

abbrev AreCounted : State → Type 0
AreCounted s = map (λ c. c.fields.serial) s.certificates ≡ counted_from s.opening.first (length s.certificates)

counted_each : IsKeptByEach AreCounted
counted_each s moment in_time e =
    let first = s.opening.first in
    let cs = s.certificates in record {
      department = λ d. e;
      certificate = λ c is. map-append (λ x. x.fields.serial) cs (c ∷ [])
          ∙ ap (λ xs. xs ++ c.fields.serial ∷ []) e ∙ ap (λ n. counted_from first (length cs) ++ n ∷ []) is.serial
          ∙ sym (ap (counted_from first) (length-append cs (c ∷ []) ∙ add-one (length cs)));
      signature = λ n x. map-signed_at (λ c. c.fields.serial) (λ c x. refl) cs (n - first) x ∙ e
          ∙ ap (counted_from first) (sym (length-signed_at cs (n - first) x));
      range = λ r is. e;
      key_id = λ key_id. e;
      ca = λ key new none. e;
      ca_published = λ key new some. e;
    }

-- ---- replies

-- the replies for these certificates are those for the state's, followed by `more`
abbrev Adds : State → List Certificate → List (List ℕ) → Type 0
Adds s cs more = map reply_of cs ≡ map reply_of s.certificates ++ more

nothing : (s : State) → Adds s s.certificates []
nothing s = sym (append-nil (map reply_of s.certificates))

-- a message that makes no certificate, whether it changes the state or not
same_or : (b : Bool) (s t u : State) → t.certificates ≡ s.certificates → u.certificates ≡ s.certificates
    → Adds s (cond b t u).certificates []
same_or true s t u p q = ap (map reply_of) p ∙ nothing s
same_or false s t u p q = ap (map reply_of) q ∙ nothing s

after_adds : (s : State) (caller : List ℕ) (m : Message) (moment : ℕ) (nonce : List ℕ)
    → first_holding (refusals s caller m moment) ≡ None
    → Adds s (after s m moment nonce).certificates (cond (is_issuing m) (reply_to s m moment nonce ∷ []) [])
after_adds s caller (message.Issue i) moment nonce allowed = map-append reply_of s.certificates (issued s i nonce ∷ [])
after_adds s caller (message.Renew r) moment nonce allowed =
    let tests = none_holds (refusals s caller (message.Renew r) moment) allowed in
    renewed_adds (certificate_of s r.serial) tests.1.1.1.1.0
  where
    renewed_adds : (o : Option Certificate) → is_none o ≡ false
        → let made = option_map (λ c. renewed_certificate c r (next_serial s) (newest_key s.opening s.cas) nonce) o in
        Adds s (with_one_more s made).certificates (reply_to_made s made ∷ [])
    renewed_adds None e = absurd cc
    renewed_adds (Some c) e = map-append reply_of s.certificates (_ ∷ [])
after_adds s caller (message.Deliver d) moment nonce allowed =
    map-signed_at reply_of (λ c x. refl) s.certificates (d.serial - s.opening.first) d.signature ∙ nothing s
after_adds s caller (message.RevokeSerial serial) moment nonce allowed = same_or (s.revoked serial) s s _ refl refl
after_adds s caller (message.RevokeRange r) moment nonce allowed = same_or (is_range_revoked s r) s s _ refl refl
after_adds s caller (message.RevokeKeyId key_id) moment nonce allowed =
    same_or (is_key_id_revoked s key_id) s s _ refl refl
after_adds s caller (message.Rollover k) moment nonce allowed = same_or (has_any s.revoked_key_ids) s _ _ refl refl
after_adds s caller m moment nonce allowed = nothing s

-- the issue replies with one more first acceptance
replies_push : (fs : List First) (f : First) → issue_replies (fs ++ f ∷ []) ≡ issue_replies fs ++ cond (is_issuing f.message) (f.reply ∷ []) []
replies_push fs f =
    ap (map (λ x. x.reply)) (filter-append (λ x. is_issuing x.message) fs (f ∷ []))
    ∙ map-append (λ x. x.reply) (filter (λ x. is_issuing x.message) fs) (filter (λ x. is_issuing x.message) (f ∷ []))
    ∙ ap (λ xs. issue_replies fs ++ xs) (elim (is_issuing f.message) as (λ b. map (λ x. x.reply) (cond b (f ∷ []) []) ≡ cond b (f.reply ∷ []) []) [ true ↦ refl | false ↦ refl ])

replies_kept : IsKeptBy (λ fs s. issue_replies fs ≡ map reply_of s.certificates)
replies_kept fs s f is before =
    let adds = after_adds s f.arrival.caller f.message f.arrival.moment f.arrival.nonce is.allowed in
    replies_push fs f ∙ ap (λ xs. xs ++ cond (is_issuing f.message) (f.reply ∷ []) []) before
    ∙ ap (λ (x : List ℕ). map reply_of s.certificates ++ cond (is_issuing f.message) (x ∷ []) []) is.reply ∙ sym adds

-- serials are consecutive
pub serials_counted : (o : Opening) (l : List Arrival) → CountsUp o l
serials_counted o l = record {
  replies = after_all (λ fs s. issue_replies fs ≡ map reply_of s.certificates) replies_kept o l refl;
  serials = subst (λ (x : Opening). map (λ c. c.fields.serial) (state o l).certificates
      ≡ counted_from x.first (length (state o l).certificates)) (opening_stays o l)
      (always AreCounted counted_each o l refl);
}
