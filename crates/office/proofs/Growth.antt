-- An accepted message preserves the opening, raises the version by at most one, and uses only serials in range.
use Rattle.office.proofs.Words.{Arrival, Certificate, IsOpening, List, Message, None, Opening, Signature, State, []}
use Rattle.office.proofs.Words.{after, and_parts, ap, arith, is_message, leb, leb-true, length, length-append}
use Rattle.office.proofs.Words.{next_serial, refl, state, suc, true, zero, ℕ, ◌&&◌, ◌+◌, ◌-◌, ◌∙◌, ◌∷◌, ◌≡◌, ◌≤◌}
use Rattle.office.specs.Refusals.{refusals, first_holding}
use Rattle.office.specs.Machine.{signed_at}
use Rattle.office.proofs.Histories.{holds_after}
use Rattle.office.proofs.Changes.{HoldsAfter, IsKeptByEach, always, holds_then}

-- ---- the opening, and the version

-- `new` has the opening of `old`, and its version or the next one
pub record Grows (old new : State) : Type 0 where
  pub opening : new.opening ≡ old.opening
  pub version : old.version ≤ new.version
  pub by_one : new.version ≤ old.version + 1

same : (s t : State) → t.opening ≡ s.opening → t.version ≡ s.version → Grows s t
same s t o v = record { opening = o; version = omega arith; by_one = omega arith }

more : (s t : State) → t.opening ≡ s.opening → t.version ≡ s.version + 1 → Grows s t
more s t o v = record { opening = o; version = omega arith; by_one = omega arith }

grows_each : (s : State) (moment : ℕ) → HoldsAfter (Grows s) s moment
grows_each s moment = record {
  department = λ d. same s _ refl refl;
  certificate = λ c is. same s _ refl refl;
  signature = λ serial signature. same s _ refl refl;
  range = λ r is. more s _ refl refl;
  key_id = λ key_id. more s _ refl refl;
  ca = λ key is none. same s _ refl refl;
  ca_published = λ key is some. more s _ refl refl;
}

pub after_grows : (s : State) (caller : List ℕ) (m : Message) (moment : ℕ) (nonce : List ℕ) → is_message m ≡ true
    → first_holding (refusals s caller m moment) ≡ None → Grows s (after s m moment nonce)
after_grows s caller m moment nonce =
    holds_then (Grows s) s moment (same s s refl refl) (grows_each s moment) caller m nonce

-- the opening of an office never changes
pub opening_stays : (o : Opening) (l : List Arrival) → (state o l).opening ≡ o
opening_stays o l = holds_after (λ s. s.opening ≡ o) (λ s caller m moment nonce lawful allowed e.
    (after_grows s caller m moment nonce lawful allowed).opening ∙ e) o l refl

-- ---- serials

-- the serials that were handed out are within the opening's
abbrev pub IsInRange : State → Type 0
IsInRange s = next_serial s ≤ s.opening.last + 1

pub length-signed_at : (cs : List Certificate) (place : ℕ) (signature : Signature)
    → length (signed_at cs place signature) ≡ length cs
length-signed_at [] place signature = refl
length-signed_at (c ∷ cs) zero signature = refl
length-signed_at (c ∷ cs) (suc place) signature = ap suc (length-signed_at cs place signature)

pub in_range_each : IsKeptByEach IsInRange
in_range_each s moment in_time e = record {
  department = λ d. e;
  certificate = λ c is. omega (arith, length-append s.certificates (c ∷ []));
  signature = λ serial x. omega (arith, length-signed_at s.certificates (serial - s.opening.first) x);
  range = λ r is. e;
  key_id = λ key_id. e;
  ca = λ key is none. e;
  ca_published = λ key is some. e;
}

-- the order of an opening's serials
pub opening_order : (o : Opening) → IsOpening o → (1 ≤ o.first) × (o.first ≤ o.last) × (o.last ≤ 9223372036854775806)
opening_order o is =
    let order = and_parts (leb 1 o.first) (leb o.first o.last && leb o.last 9223372036854775806) is.serials in
    let ends = and_parts (leb o.first o.last) (leb o.last 9223372036854775806) order.1 in
    (leb-true _ _ order.0, leb-true _ _ ends.0, leb-true _ _ ends.1)

pub holds_in_range : (o : Opening) (l : List Arrival) → IsOpening o → IsInRange (state o l)
holds_in_range o l is = always IsInRange in_range_each o l (omega (arith, (opening_order o is).1))
