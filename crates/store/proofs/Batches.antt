-- The certificates between the two serials of a batch are that batch.
use Rattle.store.proofs.Words.{AreCounted, Arrival, Certificate, IsHistory, LAST_SERIAL, List, Opening, [], and_parts}
use Rattle.store.proofs.Words.{ap, arith, batch_of, cases_lt, drop, false, filter, inl, inr, le-leb, leb-true, length}
use Rattle.store.proofs.Words.{length-drop, lies_within, next_serial, numbered, refl, suc, sym, take, take_all, true}
use Rattle.store.proofs.Words.{zero, ℕ, ◌&&◌, ◌+◌, ◌-◌, ◌<◌, ◌∙◌, ◌∷◌, ◌≡◌, ◌≤◌}
use Rattle.std.proofs.Common.{leb}
use Rattle.std.proofs.lemmas.Bool.{lt-leb}
use Rattle.std.proofs.Math.ListN.{drop_of_length-le}
use Rattle.office.specs.History.{state}
use Rattle.store.proofs.Lawful.{lawful_after}
use Rattle.store.proofs.OfHistory.{of_history}

-- no certificate has a serial in a range that ends below the first
none_below : (first lo hi : ℕ) (cs : List Certificate) → hi < first → AreCounted first cs
    → filter (lies_within lo hi) cs ≡ []
none_below first lo hi [] below counted = refl
none_below first lo hi (c ∷ cs) below counted =
    let past : leb c.fields.serial hi ≡ false = lt-leb _ _ (omega (arith, below, counted.0)) in
    let out : lies_within lo hi c ≡ false = by_last (leb lo c.fields.serial) past in
    rw out (none_below (suc first) lo hi cs (omega (arith, below)) counted.1)
  where
    by_last : (a : _) {b : _} → b ≡ false → (a && b) ≡ false
    by_last true e = e
    by_last false e = refl

-- the certificates up to a serial are the first ones
first_ones : (first lo hi : ℕ) (cs : List Certificate) → lo ≤ first → AreCounted first cs
    → filter (lies_within lo hi) cs ≡ take (suc hi - first) cs
first_ones first lo hi [] low counted = sym (take_all (suc hi - first) [] (omega arith))
first_ones first lo hi (c ∷ cs) low counted = elim (cases_lt hi first) [
  | inl below ↦
      let none : suc hi - first ≡ 0 = omega (arith, below) in
      rw none (none_below first lo hi (c ∷ cs) below counted)
  | inr over ↦
      let low_test : leb lo c.fields.serial ≡ true = le-leb _ _ (omega (arith, low, counted.0)) in
      let high_test : leb c.fields.serial hi ≡ true = le-leb _ _ (omega (arith, over, counted.0)) in
      let more : suc hi - first ≡ suc (suc hi - suc first) = omega (arith, over) in
      rw (low_test, high_test, more) (ap (λ (xs : List Certificate). c ∷ xs)
      (first_ones (suc first) lo hi cs (omega (arith, low)) counted.1))
]

-- the certificates from a place on, up to a serial
from_place : (first place hi : ℕ) (cs : List Certificate) → AreCounted first cs
    → filter (lies_within (first + place) hi) cs ≡ take (suc hi - (first + place)) (drop place cs)
from_place first zero hi cs counted =
    let here : first + 0 ≡ first = omega arith in
    rw here (first_ones first first hi cs (omega arith) counted)
from_place first (suc place) hi [] counted = sym (take_all (suc hi - (first + suc place)) [] (omega arith))
from_place first (suc place) hi (c ∷ cs) counted =
    let before : leb (first + suc place) c.fields.serial ≡ false = lt-leb _ _ (omega (arith, counted.0)) in
    let later : first + suc place ≡ suc first + place = omega arith in
    rw before (ap (λ (n : ℕ). filter (lies_within n hi) cs) later ∙ from_place (suc first) place hi cs counted.1
    ∙ ap (λ (n : ℕ). take (suc hi - n) (drop place cs)) (sym later))

-- a thousand certificates from a place on
batch_at : (first place : ℕ) (cs : List Certificate) → AreCounted first cs → first + length cs ≤ 9223372036854775807
    → filter (lies_within (numbered first place) (numbered first (place + 999))) cs ≡ take 1000 (drop place cs)
batch_at first place cs counted few = elim (cases_lt (first + place) 9223372036854775807) [
  | inl low ↦
      let lo : numbered first place ≡ first + place = omega (arith, low) in
      let rest : length (drop place cs) ≡ length cs - place = length-drop place cs in
      let all = from_place first place (numbered first (place + 999)) cs counted in
      rw lo (all ∙ elim (cases_lt (first + (place + 999)) 9223372036854775807) [
        | inl high ↦
            let count : suc (numbered first (place + 999)) - (first + place) ≡ 1000 = omega (arith, high) in
            ap (λ (n : ℕ). take n (drop place cs)) count
        | inr over ↦
            take_all _ (drop place cs) (omega (arith, over, rest, few, low))
            ∙ sym (take_all 1000 (drop place cs) (omega (arith, over, rest, few, low)))
      ])
  | inr past ↦
      let lo : numbered first place ≡ first + (9223372036854775807 - first) = omega (arith, past, few) in
      let all = from_place first (9223372036854775807 - first) (numbered first (place + 999)) cs counted in
      let none : drop (9223372036854775807 - first) cs ≡ [] = drop_of_length-le cs (omega (arith, few)) in
      let gone : drop place cs ≡ [] = drop_of_length-le cs (omega (arith, past, few)) in
      let count = suc (numbered first (place + 999)) - (first + (9223372036854775807 - first)) in
      rw lo (all ∙ ap (take count) none ∙ take_all count [] (omega arith) ∙ sym (take_all 1000 [] (omega arith))
      ∙ ap (take 1000) (sym gone))
]

-- the same for an office after a history
pub batch_is : (o : Opening) (l : List Arrival) → IsHistory o l → (place : ℕ)
    → (let first = (state o l).opening.first in
    filter (lies_within (numbered first place) (numbered first (place + 999))) (state o l).certificates)
    ≡ batch_of (state o l) place
batch_is o l history place =
    let s = state o l in
    let lawful = lawful_after o l history in
    let range : next_serial s ≤ s.opening.last + 1 = (of_history o l history.office.opening).range in
    let tests = and_parts (leb 1 s.opening.first) (leb s.opening.first s.opening.last && leb s.opening.last LAST_SERIAL)
    lawful.opening.serials in
    let last : s.opening.last ≤ LAST_SERIAL = leb-true _ _ (and_parts (leb s.opening.first s.opening.last)
    (leb s.opening.last LAST_SERIAL) tests.1).1 in
    batch_at s.opening.first place s.certificates lawful.serials (omega (arith, range, last))
