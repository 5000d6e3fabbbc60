-- An invariant of the CAs of an office after every history.
use Rattle.office_laws.proofs.Words.{AllByRecursion, Arrival, Ca, IsKeptByEach, List, Opening, State, [], always, ap}
use Rattle.office_laws.proofs.Words.{arith, bytes_eq, bytes_eq-Decides, ca_from_now, false, length, length-append}
use Rattle.office_laws.proofs.Words.{length-signed_at, next_serial, refl, state, sym, with_ca, ℕ, ◌++◌, ◌+◌, ◌-◌, ◌∙◌}
use Rattle.office_laws.proofs.Words.{◌∷◌, ◌≡◌, ◌≢◌, ◌≤◌}
use Rattle.std.proofs.lemmas.Bool.{or_parts}
use Rattle.std.proofs.lemmas.Bool.Decides.{not_from_Decides}
use Rattle.office.specs.State.{opened, is_ca}

-- no two CAs have the same key
abbrev pub AreDistinct : List Ca → Type 0
AreDistinct [] = Unit {0}
AreDistinct (ca ∷ cas) = AllByRecursion (λ c. c.key ≢ ca.key) cas × AreDistinct cas

-- the CAs' first serials never decrease, and lie between `from` and `up_to`
abbrev pub Rise : ℕ → List Ca → ℕ → Type 0
Rise from [] up_to = from ≤ up_to
Rise from (ca ∷ cas) up_to = (from ≤ ca.since) × Rise ca.since cas up_to

-- there is a first CA, which serves from the first serial on; first serials never decrease, and keys are distinct
pub record AreCas (s : State) : Type 0 where
  pub first : (ca : Ca) × (rest : List Ca) × (s.cas ≡ ca ∷ rest) × (ca.since ≡ s.opening.first)
  pub rise : Rise s.opening.first s.cas (next_serial s)
  pub distinct : AreDistinct s.cas

Rise-later : (from : ℕ) (cas : List Ca) (a b : ℕ) → a ≤ b → Rise from cas a → Rise from cas b
Rise-later from [] a b le h = omega (arith, h)
Rise-later from (ca ∷ cas) a b le h = (h.0, Rise-later ca.since cas a b le h.1)

Rise-push : (from : ℕ) (cas : List Ca) (ca : Ca) → Rise from cas ca.since → Rise from (cas ++ ca ∷ []) ca.since
Rise-push from [] ca h = (h, omega arith)
Rise-push from (c ∷ cas) ca h = (h.0, Rise-push c.since cas ca h.1)

All-push : (P : Ca → Type 0) (cas : List Ca) (ca : Ca) → AllByRecursion P cas → P ca → AllByRecursion P (cas ++ ca ∷ [])
All-push P [] ca all p = (p, tt)
All-push P (c ∷ cas) ca all p = (all.0, All-push P cas ca all.1 p)

Distinct-push : (cas : List Ca) (ca : Ca) → is_ca cas ca.key ≡ false → AreDistinct cas → AreDistinct (cas ++ ca ∷ [])
Distinct-push [] ca new d = (tt, tt)
Distinct-push (c ∷ cas) ca new d =
    let parts = or_parts (bytes_eq c.key ca.key) (is_ca cas ca.key) new in
    let other = λ (e : ca.key ≡ c.key). not_from_Decides _ (bytes_eq-Decides c.key ca.key) parts.0 (sym e) in
    (All-push (λ x. x.key ≢ c.key) cas ca d.0 other, Distinct-push cas ca parts.1 d.1)

-- the invariant holds if the CAs stay the same and more serials are handed out
same_cas : (s t : State) → t.opening ≡ s.opening → t.cas ≡ s.cas → length s.certificates ≤ length t.certificates
    → AreCas s → AreCas t
same_cas s t o c n are = record {
  first = (are.first.0, are.first.1, c ∙ are.first.2, are.first.3 ∙ ap (λ (x : Opening). x.first) (sym o));
  rise = rw (o, c) (Rise-later s.opening.first s.cas (next_serial s) (s.opening.first + length t.certificates)
      (omega (arith, n)) are.rise);
  distinct = rw c are.distinct;
}

one_more_ca : (s : State) (key : List ℕ) → is_ca s.cas key ≡ false → AreCas s → AreCas (with_ca s (ca_from_now s key))
one_more_ca s key new are =
    let ca = ca_from_now s key in record {
      first = (are.first.0, are.first.1 ++ ca ∷ [], ap (λ cas. cas ++ ca ∷ []) are.first.2, are.first.3);
      rise = Rise-push s.opening.first s.cas ca are.rise;
      distinct = Distinct-push s.cas ca new are.distinct;
    }

pub cas_each : IsKeptByEach AreCas
cas_each s moment in_time are = record {
  department = λ d. same_cas s _ refl refl (omega arith) are;
  certificate = λ c is. same_cas s _ refl refl (omega (arith, length-append s.certificates (c ∷ []))) are;
  signature = λ n x.
      same_cas s _ refl refl (omega (arith, length-signed_at s.certificates (n - s.opening.first) x)) are;
  range = λ r is. same_cas s _ refl refl (omega arith) are;
  key_id = λ key_id. same_cas s _ refl refl (omega arith) are;
  ca = λ key new none. one_more_ca s key new are;
  ca_published = λ key new some.
      same_cas (with_ca s (ca_from_now s key)) _ refl refl (omega arith) (one_more_ca s key new are);
}

pub opened_cas : (o : Opening) → AreCas (opened o)
opened_cas o = record { first = (_, [], refl, refl); rise = (omega arith, omega arith); distinct = (tt, tt) }

pub cas_stand : (o : Opening) (l : List Arrival) → AreCas (state o l)
cas_stand o l = always AreCas cas_each o l (opened_cas o)
