-- Bodies (unsigned certificates) never change, and name the CA that signs them.
use Rattle.office_laws.proofs.Words.{Arrival, Bool, Ca, Certificate, IsKeptByEach, List, None, Opening, Option}
use Rattle.office_laws.proofs.Words.{Signature, Some, State, [], always, always_more, ap, arith, ca_from_now}
use Rattle.office_laws.proofs.Words.{certificate_of, cond, false, fold, inl, inr, key_at, le-leb, length, length-map}
use Rattle.office_laws.proofs.Words.{lt-leb, ltb, map, map-append, newest_key, next_serial, refl, slice_get, state}
use Rattle.office_laws.proofs.Words.{subst, suc, sym, true, with_ca, zero, ℕ, ◌++◌, ◌+◌, ◌-◌, ◌<◌, ◌∙◌, ◌∷◌, ◌≡◌}
use Rattle.std.proofs.Common.{◌⊎◌}
use Rattle.std.specs.Prelude.{option_map}
use Rattle.std.proofs.lemmas.List.Sums.{fold_push}
use Rattle.std.proofs.lemmas.Option.{slice_get-map, slice_get_within}
use Rattle.office.specs.State.{body_of, key_or}
use Rattle.office.specs.Machine.{signed_at}
use Rattle.office.proofs.Decisions.{certificate_at}
use Rattle.office.proofs.Changes.{IsNext}
use Rattle.office_laws.specs.Signers.{signer_of}
use Rattle.office_laws.specs.Bodies.{IsBodyFor}
use Rattle.office_laws.proofs.Shape.{AreCas, Rise, cas_each, opened_cas}

-- ---- lists

-- an element stays at its place when one is added at the end
pub there_push : {X : Type 0} (xs : List X) (y : X) (n : ℕ) (x : X) → slice_get xs n ≡ Some x
    → slice_get (xs ++ y ∷ []) n ≡ Some x
there_push [] y n x e = absurd cc
there_push (z ∷ xs) y zero x e = e
there_push (z ∷ xs) y (suc n) x e = there_push xs y n x e

at_push : {X : Type 0} (xs : List X) (y : X) (n : ℕ) (x : X) → slice_get (xs ++ y ∷ []) n ≡ Some x
    → (slice_get xs n ≡ Some x) ⊎ ((n ≡ length xs) × (y ≡ x))
at_push [] y zero x e = inr (refl, cc)
at_push [] y (suc n) x e = absurd cc
at_push (z ∷ xs) y zero x e = inl e
at_push (z ∷ xs) y (suc n) x e =
    elim (at_push xs y n x e) [ inl there ↦ inl there | inr last ↦ inr (ap suc last.0, last.1) ]

-- a signature leaves everything else in the certificates as it is
pub map-signed_at : {X : Type 0} (f : Certificate → X)
    → ((c : Certificate) (signature : Signature) → f (record c { signature = Some signature }) ≡ f c)
    → (cs : List Certificate) (place : ℕ) (signature : Signature) → map f (signed_at cs place signature) ≡ map f cs
map-signed_at f same [] place signature = refl
map-signed_at f same (c ∷ cs) zero signature = ap (λ x. x ∷ map f cs) (same c signature)
map-signed_at f same (c ∷ cs) (suc place) signature = ap (λ xs. f c ∷ xs) (map-signed_at f same cs place signature)

-- ---- bodies never change

-- the body of the certificate at a place
abbrev body_at : List Certificate → ℕ → Option (List ℕ)
body_at cs n = slice_get (map (λ c. c.body) cs) n

of_place : (b : Bool) (cs ds : List Certificate) (n : ℕ) (body : List ℕ)
    → (body_at cs n ≡ Some body → body_at ds n ≡ Some body)
    → option_map (λ c. c.body) (cond b None (slice_get cs n)) ≡ Some body
    → option_map (λ c. c.body) (cond b None (slice_get ds n)) ≡ Some body
of_place true cs ds n body more e = e
of_place false cs ds n body more e =
    sym (slice_get-map (λ c. c.body) ds n) ∙ more (slice_get-map (λ c. c.body) cs n ∙ e)

body_each : (serial : ℕ) (body : List ℕ) → IsKeptByEach (λ s. body_of s serial ≡ Some body)
body_each serial body s moment in_time e =
    let place = serial - s.opening.first in
    let cs = s.certificates in
    let below = ltb serial s.opening.first in record {
      department = λ d. e;
      certificate = λ c is. of_place below cs (cs ++ c ∷ []) place body (λ h.
          ap (λ bs. slice_get bs place) (map-append (λ c. c.body) cs (c ∷ [])) ∙ there_push _ c.body place body h) e;
      signature = λ n x. of_place below cs (signed_at cs (n - s.opening.first) x) place body (λ h.
          ap (λ bs. slice_get bs place) (map-signed_at (λ c. c.body) (λ c x. refl) cs (n - s.opening.first) x) ∙ h) e;
      range = λ r is. e;
      key_id = λ key_id. e;
      ca = λ key new none. e;
      ca_published = λ key new some. e;
    }

pub body_stays : (o : Opening) (l later : List Arrival) (serial : ℕ) (body : List ℕ)
    → body_of (state o l) serial ≡ Some body → body_of (state o (l ++ later)) serial ≡ Some body
body_stays o l later serial body = always_more (λ s. body_of s serial ≡ Some body) (body_each serial body) o l later

-- ---- the CA that a body names

-- the newest CA signs if all CAs had been added by then
newest_signs : (n from : ℕ) (key other : List ℕ) (ca : Ca) (cas : List Ca) → Rise from (ca ∷ cas) n
    → fold (key_at n) key (ca ∷ cas) ≡ key_or other (slice_get (ca ∷ cas) (length cas))
newest_signs n from key other ca [] h = rw (le-leb ca.since n h.1) refl
newest_signs n from key other ca (d ∷ cas) h = newest_signs n ca.since (key_at n key ca) other d cas h.1

newest_is_signer : (s : State) → AreCas s → newest_key s.opening s.cas ≡ signer_of s (next_serial s)
newest_is_signer s are =
    let ca = are.first.0 in
    let rest = are.first.1 in
    let last : suc (length rest) - 1 ≡ length rest = omega arith in
    subst (λ (cas : List Ca). Rise s.opening.first cas (next_serial s)
    → key_or s.opening.ca (slice_get cas (length cas - 1)) ≡ fold (key_at (next_serial s)) s.opening.ca cas)
    (sym are.first.2) (λ rise. ap (λ k. key_or s.opening.ca (slice_get (ca ∷ rest) k)) last
    ∙ sym (newest_signs (next_serial s) s.opening.first s.opening.ca s.opening.ca ca rest rise)) are.rise

-- a CA that is added later doesn't sign
pub later_signs_not : (s : State) (key : List ℕ) (n : ℕ) → n < next_serial s
    → signer_of (with_ca s (ca_from_now s key)) n ≡ signer_of s n
later_signs_not s key n lt =
    fold_push (key_at n) s.opening.ca s.cas (ca_from_now s key) ∙ rw (lt-leb (next_serial s) n lt) refl

abbrev unsigned : Certificate → Certificate
unsigned c = record c { signature = None }

-- each certificate has the body for the serial at its place, signed or not
abbrev AreBodies : State → Type 0
AreBodies s = (n : ℕ) (c : Certificate) → slice_get (map unsigned s.certificates) n ≡ Some c
    → IsBodyFor (s.opening.first + n) (signer_of s (s.opening.first + n)) c

more_bodies : (s : State) (d : Certificate) → IsNext s d → AreCas s → AreBodies s → (n : ℕ) (c : Certificate)
    → slice_get (map unsigned (s.certificates ++ d ∷ [])) n ≡ Some c
    → IsBodyFor (s.opening.first + n) (signer_of s (s.opening.first + n)) c
more_bodies s d is are bodies n c e =
    let cs = map unsigned s.certificates in
    elim (at_push cs (unsigned d) n c
    (ap (λ xs. slice_get xs n) (sym (map-append unsigned s.certificates (d ∷ []))) ∙ e)) [
      | inl there ↦ bodies n c there
      | inr last ↦
          let at : n ≡ length s.certificates = last.0 ∙ length-map s.certificates unsigned in
          rw (at, ← last.1) (record { serial_number = is.serial; ca = is.ca ∙ newest_is_signer s are; body = is.body })
    ]

under_more_cas : (s : State) (key : List ℕ) → AreBodies s → AreBodies (with_ca s (ca_from_now s key))
under_more_cas s key bodies n c e =
    let within = slice_get_within (map unsigned s.certificates) n c e in
    let old = bodies n c e in
    let lt : s.opening.first + n < next_serial s = omega (arith, within, length-map s.certificates unsigned) in
    rw (later_signs_not s key (s.opening.first + n) lt) old

-- both invariants, of the CAs and of the bodies
record AreSigned (s : State) : Type 0 where
  cas : AreCas s
  bodies : AreBodies s

signed_each : IsKeptByEach AreSigned
signed_each s moment in_time are =
    let kept = cas_each s moment in_time are.cas in record {
      department = λ d. record { cas = kept.department d; bodies = are.bodies };
      certificate = λ c is. record { cas = kept.certificate c is; bodies = more_bodies s c is are.cas are.bodies };
      signature = λ n x. record {
        cas = kept.signature n x;
        bodies = λ k c e. are.bodies k c
            (sym (ap (λ xs. slice_get xs k) (map-signed_at unsigned (λ c x. refl) s.certificates _ x)) ∙ e);
      };
      range = λ r is. record { cas = kept.range r is; bodies = are.bodies };
      key_id = λ key_id. record { cas = kept.key_id key_id; bodies = are.bodies };
      ca = λ key new none. record { cas = kept.ca key new none; bodies = under_more_cas s key are.bodies };
      ca_published = λ key new some.
          record { cas = kept.ca_published key new some; bodies = under_more_cas s key are.bodies };
    }

pub body_names_signer : (o : Opening) (l : List Arrival) (serial : ℕ) (c : Certificate)
    → certificate_of (state o l) serial ≡ Some c → IsBodyFor serial (signer_of (state o l) serial) c
body_names_signer o l serial c e =
    let s = state o l in
    let at = certificate_at s serial c e in
    let signed = always AreSigned signed_each o l (record { cas = opened_cas o; bodies = λ n c e. absurd cc }) in
    let back : s.opening.first + (serial - s.opening.first) ≡ serial = omega (arith, at.0) in
    let is = signed.bodies (serial - s.opening.first) (unsigned c)
    (slice_get-map unsigned s.certificates (serial - s.opening.first) ∙ ap (option_map unsigned) at.1) in
    subst (λ (n : ℕ). IsBodyFor n (signer_of s n) c) back
    (record { serial_number = is.serial_number; ca = is.ca; body = is.body })
