-- The sections of the published list, while more serials are handed out and CAs are added.
use Rattle.office_laws.proofs.Words.{Bool, Ca, CaPart, Certificate, List, Signature, State, [], add-one, ap, ap₂, arith}
use Rattle.office_laws.proofs.Words.{ca_from_now, cond, false, is_last_reached, is_revoked_under, leb, length}
use Rattle.office_laws.proofs.Words.{length-append, length-map, length-signed_at, list_all, lt-leb, ltb, map}
use Rattle.office_laws.proofs.Words.{map-append, next_serial, part_of, parts_from, refl, suc, sym, true, with_ca}
use Rattle.office_laws.proofs.Words.{with_certificate, with_signature, zero, ℕ, ◌&&◌, ◌++◌, ◌+◌, ◌<◌, ◌∙◌, ◌∷◌, ◌≡◌}
use Rattle.office_laws.proofs.Words.{◌≤◌}
use Rattle.std.proofs.lemmas.Bool.{and_left, and_right, lt-ltb}
use Rattle.krl.specs.declared.run.Run.{Run}
use Rattle.krl.specs.Sets.{with_first, runs_in}
use Rattle.krl.specs.Published.{sections_of, published_sections}
use Rattle.office_laws.proofs.Signers.{last_behind}

-- ---- ranges

-- two sets that agree on the serials have the same ranges (`Run`)
runs_same : (set other : ℕ → Bool) (from count : ℕ) → ((n : ℕ) → from ≤ n → n < from + count → set n ≡ other n) → runs_in set from count ≡ runs_in other from count
runs_same set other from zero same = refl
runs_same set other from (suc count) same =
    ap₂ (λ b (rs : List Run). cond b (with_first from rs) rs) (same from (omega arith) (omega arith)) (runs_same set other (from + 1) count (λ n low high. same n (omega arith) (omega arith)))

-- a set that has none of the serials has no ranges
runs_none : (set : ℕ → Bool) (from count : ℕ) → ((n : ℕ) → from ≤ n → n < from + count → set n ≡ false) → runs_in set from count ≡ []
runs_none set from zero none = refl
runs_none set from (suc count) none =
    ap₂ (λ b (rs : List Run). cond b (with_first from rs) rs) (none from (omega arith) (omega arith)) (runs_none set (from + 1) count (λ n low high. none n (omega arith) (omega arith)))

-- one more serial that isn't in the set changes nothing
runs_more : (set : ℕ → Bool) (from count next : ℕ) → next ≡ from + count → set next ≡ false → runs_in set from (suc count) ≡ runs_in set from count
runs_more set from zero next at none =
    let here : from ≡ next = omega arith in ap (λ b. cond b (with_first from []) []) (ap set here ∙ none)
runs_more set from (suc count) next at none = ap (λ rs. cond (set from) (with_first from rs) rs) (runs_more set (from + 1) count next (omega arith) none)

-- ---- the CA that a serial is under

all_before : (n new : ℕ) (since : List ℕ) → n < new → list_all (λ later. ltb n later) (since ++ new ∷ []) ≡ list_all (λ later. ltb n later) since
all_before n new [] lt = ap (λ b. b && true) (lt-ltb n new lt)
all_before n new (first ∷ since) lt = ap (λ b. ltb n first && b) (all_before n new since lt)

-- a CA that is added later changes nothing for those before it
last_stays : (since : List ℕ) (new place n : ℕ) → n < new → place < length since → is_last_reached (since ++ new ∷ []) place n ≡ is_last_reached since place n
last_stays [] new place n lt within = absurd (omega (arith, within))
last_stays (first ∷ since) new zero n lt within = ap (λ b. leb first n && b) (all_before n new since lt)
last_stays (first ∷ since) new (suc place) n lt within =
    last_behind first (since ++ new ∷ []) place n ∙ last_stays since new place n lt (omega (arith, within)) ∙ sym (last_behind first since place n)

-- and earlier serials don't reach it
last_unreached : (since : List ℕ) (new place n : ℕ) → n < new → place ≡ length since → is_last_reached (since ++ new ∷ []) place n ≡ false
last_unreached [] new zero n lt at = ap (λ b. b && true) (lt-leb new n lt)
last_unreached [] new (suc place) n lt at = absurd (omega (arith, at))
last_unreached (first ∷ since) new zero n lt at = absurd (omega (arith, at))
last_unreached (first ∷ since) new (suc place) n lt at = last_behind first (since ++ new ∷ []) place n ∙ last_unreached since new place n lt (omega (arith, at))

-- ---- parts and sections

part_same : (s t : State) (place : ℕ) (ca : Ca) → (part_of t place ca).runs ≡ (part_of s place ca).runs → part_of t place ca ≡ part_of s place ca
part_same s t place ca e = λ i. record { ca = ca.key; runs = e i }

parts_same : (s t : State) (from : ℕ) (cas : List Ca) → ((place : ℕ) (ca : Ca) → (part_of t place ca).runs ≡ (part_of s place ca).runs) → parts_from t from cas ≡ parts_from s from cas
parts_same s t from [] same = refl
parts_same s t from (ca ∷ cas) same = ap₂ (λ (p : CaPart) ps. p ∷ ps) (part_same s t from ca (same from ca)) (parts_same s t (suc from) cas same)

-- one more certificate, whose serial isn't revoked, changes nothing
pub parts_certificate : (s : State) (c : Certificate) → s.revoked (next_serial s) ≡ false → (from : ℕ) (cas : List Ca) → parts_from (with_certificate s c) from cas ≡ parts_from s from cas
parts_certificate s c none from cas =
    parts_same s (with_certificate s c) from cas (λ place ca.
    ap (runs_in (is_revoked_under s place) s.opening.first) (length-append s.certificates (c ∷ []) ∙ add-one (length s.certificates))
    ∙ runs_more (is_revoked_under s place) s.opening.first (length s.certificates) (next_serial s) refl (and_left (s.revoked (next_serial s)) _ none))

-- signing a certificate changes nothing
pub parts_signature : (s : State) (serial : ℕ) (signature : Signature) (from : ℕ) (cas : List Ca) → parts_from (with_signature s serial signature) from cas ≡ parts_from s from cas
parts_signature s serial signature from cas =
    parts_same s (with_signature s serial signature) from cas (λ place ca.
    ap (runs_in (is_revoked_under s place) s.opening.first) (length-signed_at s.certificates _ signature))

module _ (s : State) (key : List ℕ) where
  since_each : map (λ ca. ca.since) (s.cas ++ ca_from_now s key ∷ []) ≡ map (λ ca. ca.since) s.cas ++ next_serial s ∷ []
  since_each = map-append (λ ca. ca.since) s.cas (ca_from_now s key ∷ [])

  -- the serials revoked under an earlier CA stay the same
  under_stays : (place n : ℕ) → n < next_serial s → place < length s.cas → is_revoked_under (with_ca s (ca_from_now s key)) place n ≡ is_revoked_under s place n
  under_stays place n lt within =
      let since : List ℕ = map (λ ca. ca.since) s.cas in
      let many : length since ≡ length s.cas = length-map s.cas (λ ca. ca.since) in
      ap (λ b. s.revoked n && b) (ap (λ (x : List ℕ). is_last_reached x place n) since_each ∙ last_stays since (next_serial s) place n lt (omega (arith, within, many)))

  -- and there are none under the new one
  under_new : (place n : ℕ) → n < next_serial s → place ≡ length s.cas → is_revoked_under (with_ca s (ca_from_now s key)) place n ≡ false
  under_new place n lt at =
      let since : List ℕ = map (λ ca. ca.since) s.cas in
      let many : length since ≡ length s.cas = length-map s.cas (λ ca. ca.since) in
      and_right (s.revoked n) _ (ap (λ (x : List ℕ). is_last_reached x place n) since_each ∙ last_unreached since (next_serial s) place n lt (omega (arith, at, many)))

  -- while no key ID is revoked, a new CA has no section
  pub sections_ca : (from : ℕ) (cas : List Ca) → from + length cas ≡ length s.cas
      → published_sections (parts_from (with_ca s (ca_from_now s key)) from (cas ++ ca_from_now s key ∷ [])) [] ≡ published_sections (parts_from s from cas) []
  sections_ca from [] at =
      let runs = runs_none (is_revoked_under (with_ca s (ca_from_now s key)) from) s.opening.first (length s.certificates) (λ n low high. under_new from n high (omega (arith, at))) in
      ap (λ (rs : List Run). sections_of [] (record { ca = key; runs = rs }) ++ []) runs
  sections_ca from (ca ∷ cas) at =
      let runs = runs_same (is_revoked_under (with_ca s (ca_from_now s key)) from) (is_revoked_under s from) s.opening.first (length s.certificates)
      (λ n low high. under_stays from n high (omega (arith, at))) in
      ap₂ (λ (rs : List Run) sections. sections_of [] (record { ca = ca.key; runs = rs }) ++ sections) runs (sections_ca (suc from) cas (omega (arith, at)))
