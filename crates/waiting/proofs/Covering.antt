-- What is known of certificates stays true, whatever request is received.
use Rattle.std.proofs.Common.{◌≡◌, ℕ, zero, suc, ◌-◌, List, [], ◌∷◌, ◌++◌, map, take, filter, Bool, true}
use Rattle.std.proofs.Common.{false, cond, not, ◌&&◌, ◌||◌, Some, refl, sym, ap, ap₂, subst, ◌∙◌, inl, inr, arith}
use Rattle.std.proofs.Common.{length-append}
use Rattle.std.specs.Prelude.{is_none, slice_get}
use Rattle.std.specs.Str.{bytes_eq}
use Rattle.std.proofs.lemmas.List.{take-append-le}
use Rattle.lines.specs.declared.signature.Signature.{Signature}
use Rattle.message.specs.declared.serial_range.SerialRange.{SerialRange}
use Rattle.office.specs.declared.opening.Opening.{Opening}
use Rattle.office.specs.declared.arrival.Arrival.{Arrival}
use Rattle.office.specs.declared.certificate.Certificate.{Certificate}
use Rattle.office.specs.declared.publication.Pending.{Pending}
use Rattle.office.specs.History.{state}
use Rattle.office.specs.Machine.{signed_at, with_key_id, with_range}
use Rattle.office.specs.Publication.{is_pending, pending_row}
use Rattle.office.specs.State.{State, is_key_id_revoked}
use Rattle.office.proofs.Changes.{IsKeptByEach, always_more}
use Rattle.office.proofs.Growth.{length-signed_at}
use Rattle.office_laws.proofs.Named.{put_has}
use Rattle.waiting.specs.Knowing.{Covers, Knows}

-- ---- each change

-- if no further certificate becomes pending
fewer : (P Q : Certificate → Bool) → ((c : Certificate) → P c ≡ false → Q c ≡ false) → (cs : List Certificate)
    (rows : List Pending) → Covers P cs rows → Covers Q cs rows
fewer P Q f [] rows h = h
fewer P Q f (c ∷ cs) rows h = elim h [
  | inl row ↦ inl (row.0, row.1, fewer P Q f cs row.0 row.2)
  | inr gone ↦ inr (f c gone.0, fewer P Q f cs rows gone.1)
]

-- if one of them is signed
one_signed : (s : State) (n : ℕ) (cs : List Certificate) (place : ℕ) (signature : Signature) (rows : List Pending)
    → Covers (is_pending s) (take n cs) rows → Covers (is_pending s) (take n (signed_at cs place signature)) rows
one_signed s zero cs place signature rows h = h
one_signed s (suc n) [] place signature rows h = h
one_signed s (suc n) (c ∷ cs) zero signature rows h = elim h [
  | inl row ↦ inl (row.0, row.1, row.2)
  | inr gone ↦ inr (refl, gone.1)
]
one_signed s (suc n) (c ∷ cs) (suc place) signature rows h = elim h [
  | inl row ↦ inl (row.0, row.1, one_signed s n cs place signature row.0 row.2)
  | inr gone ↦ inr (gone.0, one_signed s n cs place signature rows gone.1)
]

serial_more : (a x b k : Bool) → (a && not (b || k)) ≡ false → (a && not ((x || b) || k)) ≡ false
serial_more false x b k h = refl
serial_more true true b k h = refl
serial_more true false b k h = h

key_more : (a b k x : Bool) → (a && not (b || k)) ≡ false → (a && not (b || (k || x))) ≡ false
key_more false b k x h = refl
key_more true true k x h = refl
key_more true false true x h = refl
key_more true false false x h = absurd (cc)

in_range : (s : State) (r : SerialRange) (c : Certificate) → is_pending s c ≡ false
    → is_pending (with_range s r) c ≡ false
in_range s r c h = serial_more (is_none c.signature) _ (s.revoked c.fields.serial) (is_key_id_revoked s c.fields.key_id) h

with_key : (s : State) (key_id : List ℕ) (c : Certificate) → is_pending s c ≡ false
    → is_pending (with_key_id s key_id) c ≡ false
with_key s key_id c h =
    let a = is_none c.signature in
    let b = s.revoked c.fields.serial in
    ap (λ (x : Bool). a && not (b || x)) (put_has key_id s.revoked_key_ids c.fields.key_id)
    ∙ key_more a b (is_key_id_revoked s c.fields.key_id) (bytes_eq key_id c.fields.key_id) h

knows_each : (seen : ℕ) (rows : List Pending) → IsKeptByEach (Knows seen rows)
knows_each seen rows s moment in_time k =
    let cs = s.certificates in record {
      department = λ d. record { within = k.within; covers = k.covers };
      certificate = λ c is. record {
        within = omega (arith, k.within, length-append cs (c ∷ []));
        covers = subst (λ (xs : List Certificate). Covers (is_pending s) xs rows)
            (sym (take-append-le seen cs (c ∷ []) k.within)) k.covers;
      };
      signature = λ serial x. record {
        within = omega (arith, k.within, length-signed_at cs (serial - s.opening.first) x);
        covers = one_signed s seen cs (serial - s.opening.first) x rows k.covers;
      };
      range = λ r is. record {
        within = k.within;
        covers = fewer (is_pending s) (is_pending (with_range s r)) (in_range s r) (take seen cs) rows k.covers;
      };
      key_id = λ key_id. record {
        within = k.within;
        covers = fewer (is_pending s) (is_pending (with_key_id s key_id)) (with_key s key_id) (take seen cs) rows k.covers;
      };
      ca = λ key new none. record { within = k.within; covers = k.covers };
      ca_published = λ key new some. record { within = k.within; covers = k.covers };
    }

-- what is known stays true after one more received request
pub knows_more : (o : Opening) (l : List Arrival) (a : Arrival) (seen : ℕ) (rows : List Pending)
    → Knows seen rows (state o l) → Knows seen rows (state o (l ++ a ∷ []))
knows_more o l a seen rows = always_more (Knows seen rows) (knows_each seen rows) o l (a ∷ [])

-- before the first request for the pending certificates
pub knows_nothing : (s : State) (seen : ℕ) (rows : List Pending) → seen ≡ 0 → rows ≡ [] → Knows seen rows s
knows_nothing s seen rows none empty = rw (none, empty) (record { within = omega arith; covers = refl })

-- ---- a request for the pending certificates

-- the rows still pending are those of the pending certificates
pub still_are : (P : Certificate → Bool) (still : Pending → Bool) (cs : List Certificate) (rows : List Pending)
    → ((n : ℕ) (c : Certificate) → slice_get cs n ≡ Some c → still (pending_row c) ≡ P c)
    → Covers P cs rows → filter still rows ≡ map pending_row (filter P cs)
still_are P still [] rows same h = ap (filter still) h
still_are P still (c ∷ cs) rows same h = elim h [
  | inl row ↦
      ap (filter still) row.1
      ∙ ap₂ (λ (b : Bool) (t : List Pending). cond b (pending_row c ∷ t) t) (same zero c refl)
      (still_are P still cs row.0 (λ n. same (suc n)) row.2)
      ∙ by_test (P c)
  | inr gone ↦
      still_are P still cs rows (λ n. same (suc n)) gone.1
      ∙ ap (λ (b : Bool). map pending_row (cond b (c ∷ filter P cs) (filter P cs))) (sym gone.0)
]
  where
    by_test : (b : Bool) → cond b (pending_row c ∷ map pending_row (filter P cs)) (map pending_row (filter P cs))
        ≡ map pending_row (cond b (c ∷ filter P cs) (filter P cs))
    by_test true = refl
    by_test false = refl

-- the rows of the pending certificates cover all certificates
pub covers_all : (P : Certificate → Bool) (cs : List Certificate) → Covers P cs (map pending_row (filter P cs))
covers_all P [] = refl
covers_all P (c ∷ cs) = by_test (P c) refl (covers_all P cs)
  where
    by_test : (b : Bool) → P c ≡ b → Covers P cs (map pending_row (filter P cs))
        → Covers P (c ∷ cs) (map pending_row (cond b (c ∷ filter P cs) (filter P cs)))
    by_test true e rest = inl (map pending_row (filter P cs), refl, rest)
    by_test false e rest = inr (e, rest)
