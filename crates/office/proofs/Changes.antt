-- The changes that accepted messages make to the state: an invariant needs one proof for each change.
use Rattle.office.proofs.Words.{Arrival, Bool, Certificate, Department, IsSome, LATEST_MOMENT, List, Message, None}
use Rattle.office.proofs.Words.{Opening, Option, Renewal, SerialRange, Signature, Some, State, after, cond, false}
use Rattle.office.proofs.Words.{has_any, is_key_id_revoked, is_message, is_none, is_range_revoked, issued, leb}
use Rattle.office.proofs.Words.{leb-false, ltb, ltb-false, next_serial, opened, option_map, or_parts, refl}
use Rattle.office.proofs.Words.{renewed_certificate, state, true, with_certificate, with_range, with_signature, ℕ, ◌++◌}
use Rattle.office.proofs.Words.{◌<◌, ◌≡◌, ◌≤◌}
use Rattle.cert.specs.Bodies.{body_text}
use Rattle.message.specs.declared.kinds.Message.TheVariants as message
use Rattle.office.specs.State.{certificate_of, newest_key}
use Rattle.office.specs.State.{is_ca}
use Rattle.office.specs.Refusals.{refusals, first_holding}
use Rattle.office.specs.Machine.{with_department, with_one_more}
use Rattle.office.specs.Machine.{with_key_id, with_ca, ca_from_now, republished}
use Rattle.office.proofs.Judged.{none_holds}
use Rattle.office.proofs.Decisions.{serial_of_one}
use Rattle.office.proofs.Histories.{IsKeptBy, after_all, after_more}

-- the certificate with the next serial, which is in range, under the newest CA
pub record IsNext (s : State) (c : Certificate) : Type 0 where
  pub left : next_serial s ≤ s.opening.last
  pub serial : c.fields.serial ≡ next_serial s
  pub ca : c.fields.ca ≡ newest_key s.opening s.cas
  pub body : c.body ≡ body_text c.fields

-- a range of serials that were handed out
pub record IsHandedOut (s : State) (r : SerialRange) : Type 0 where
  pub low : s.opening.first ≤ r.lo
  pub high : r.hi < next_serial s

-- `Q` holds after each change of a state
pub record HoldsAfter (Q : State → Type 0) (s : State) (moment : ℕ) : Type 0 where
  pub department : (d : Department) → Q (with_department s d)
  pub certificate : (c : Certificate) → IsNext s c → Q (with_certificate s c)
  pub signature : (serial : ℕ) (signature : Signature) → Q (with_signature s serial signature)
  pub range : (r : SerialRange) → IsHandedOut s r → Q (republished (with_range s r) moment)
  pub key_id : (key_id : List ℕ) → Q (republished (with_key_id s key_id) moment)
  pub ca : (key : List ℕ) → is_ca s.cas key ≡ false → has_any s.revoked_key_ids ≡ false
      → Q (with_ca s (ca_from_now s key))
  pub ca_published : (key : List ℕ) → is_ca s.cas key ≡ false → has_any s.revoked_key_ids ≡ true
      → Q (republished (with_ca s (ca_from_now s key)) moment)

some_of : (o : Option Certificate) → is_none o ≡ false → IsSome o
some_of (Some c) e = refl
some_of None e = absurd cc

module _ (Q : State → Type 0) (s : State) (moment : ℕ) (q : Q s) (h : HoldsAfter Q s moment) where
  same_or : (b : Bool) (t : State) → Q t → Q (cond b s t)
  same_or true t p = q
  same_or false t p = p

  made : (r : Renewal) (nonce : List ℕ) (o : Option Certificate) → next_serial s ≤ s.opening.last → Q (with_one_more s
      (option_map (λ c. renewed_certificate c r (next_serial s) (newest_key s.opening s.cas) nonce) o))
  made r nonce None left = q
  made r nonce (Some c) left =
      h.certificate (renewed_certificate c r (next_serial s) (newest_key s.opening s.cas) nonce)
      (record { left = left; serial = refl; ca = refl; body = refl })

  rolled : (key : List ℕ) → is_ca s.cas key ≡ false → (b : Bool) → has_any s.revoked_key_ids ≡ b
      → Q (cond b (republished (with_ca s (ca_from_now s key)) moment) (with_ca s (ca_from_now s key)))
  rolled key is true e = h.ca_published key is e
  rolled key is false e = h.ca key is e

  -- `Q` holds after each valid message that isn't refused
  pub holds_then : (caller : List ℕ) (m : Message) (nonce : List ℕ) → is_message m ≡ true
      → first_holding (refusals s caller m moment) ≡ None → Q (after s m moment nonce)
  holds_then caller (message.Department d) nonce lawful allowed = h.department d
  holds_then caller (message.Issue i) nonce lawful allowed =
      let tests = none_holds (refusals s caller (message.Issue i) moment) allowed in
      h.certificate (issued s i nonce)
      (record { left = ltb-false _ _ tests.1.1.1.1.1.1.0; serial = refl; ca = refl; body = refl })
  holds_then caller (message.Renew r) nonce lawful allowed =
      let tests = none_holds (refusals s caller (message.Renew r) moment) allowed in
      made r nonce (certificate_of s r.serial) (ltb-false _ _ tests.1.1.1.1.1.1.1.0)
  holds_then caller (message.Deliver d) nonce lawful allowed = h.signature d.serial d.signature
  holds_then caller (message.RevokeSerial serial) nonce lawful allowed =
      let tests = none_holds (refusals s caller (message.RevokeSerial serial) moment) allowed in
      let is = serial_of_one s serial (some_of (certificate_of s serial) tests.1.0) in
      same_or (s.revoked serial) _ (h.range (record { lo = serial; hi = serial }) (record { low = is.0; high = is.1 }))
  holds_then caller (message.RevokeRange r) nonce lawful allowed =
      let tests = none_holds (refusals s caller (message.RevokeRange r) moment) allowed in
      let ends = or_parts (ltb r.lo s.opening.first) (leb (next_serial s) r.hi) tests.1.0 in
      same_or (is_range_revoked s r) _
      (h.range r (record { low = ltb-false _ _ ends.0; high = leb-false _ _ ends.1 }))
  holds_then caller (message.RevokeKeyId key_id) nonce lawful allowed =
      same_or (is_key_id_revoked s key_id) _ (h.key_id key_id)
  holds_then caller (message.Rollover k) nonce lawful allowed =
      let tests = none_holds (refusals s caller (message.Rollover k) moment) allowed in
      rolled k.key tests.1.0 (has_any s.revoked_key_ids) refl

-- each change preserves `Q`
abbrev pub IsKeptByEach : (State → Type 0) → Type 0
IsKeptByEach Q = (s : State) (moment : ℕ) → moment ≤ LATEST_MOMENT → Q s → HoldsAfter Q s moment

pub by_change : (Q : State → Type 0) → IsKeptByEach Q → IsKeptBy (λ fs s. Q s)
by_change Q each fs s f is q =
    holds_then Q s f.arrival.moment q (each s f.arrival.moment is.in_time q) f.arrival.caller f.message f.arrival.nonce
    is.lawful is.allowed

-- such a `Q` holds after every history if it holds of a newly opened office
pub always : (Q : State → Type 0) → IsKeptByEach Q → (o : Opening) (l : List Arrival) → Q (opened o) → Q (state o l)
always Q each = after_all (λ fs s. Q s) (by_change Q each)

-- such a `Q` holds after every continuation of a history after which it holds
pub always_more : (Q : State → Type 0) → IsKeptByEach Q → (o : Opening) (l later : List Arrival)
    → Q (state o l) → Q (state o (l ++ later))
always_more Q each = after_more (λ fs s. Q s) (by_change Q each)
