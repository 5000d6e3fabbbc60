-- The CAs in order, and the contents of the published KRL.
use Rattle.store.proofs.Words.{AreRevocations, AreShown, Ca, IsMadeOf, IsNonDecreasing, List, Revocations, State, []}
use Rattle.store.proofs.Words.{and_parts, are_ordered, arith, le-leb, leb-true, length, nat_le, numbers, refl, subst}
use Rattle.store.proofs.Words.{suc, true, zero, ℕ, ◌<◌, ◌∙◌, ◌∷◌, ◌≡◌, ◌≤◌}
use Rattle.std.specs.Prelude.{slice_index_or}
use Rattle.std.proofs.lemmas.Bool.{and_from}
use Rattle.krl.specs.declared.krl_head.KrlHead.{KrlHead}
use Rattle.office.specs.declared.publication.Revoked.{Revoked}
use Rattle.office.specs.Parts.{AreParts}
use Rattle.office.proofs.Parts.{AreIssued, parts_are_published}

-- ---- CAs in order

rises : (low : ℕ) (cas : List Ca) → are_ordered low cas ≡ true → IsNonDecreasing (low ∷ numbers cas)
rises low cas e zero zero d up there = omega arith
rises low cas e (suc i) zero d up there = absurd (omega (arith, up))
rises low [] e zero (suc j) d up there = absurd (omega (arith, there))
rises low [] e (suc i) (suc j) d up there = absurd (omega (arith, there))
rises low (ca ∷ cas) e zero (suc j) d up there =
    let parts = and_parts (nat_le low ca.since) (are_ordered ca.since cas) e in
    let rest = rises ca.since cas parts.1 zero j d (omega arith) (omega (arith, there)) in
    omega (arith, rest, leb-true _ _ parts.0)
rises low (ca ∷ cas) e (suc i) (suc j) d up there =
    rises ca.since cas (and_parts (nat_le low ca.since) (are_ordered ca.since cas) e).1 i j d (omega (arith, up))
    (omega (arith, there))

pub ordered_rise : (cas : List Ca) → are_ordered 0 cas ≡ true → IsNonDecreasing (numbers cas)
ordered_rise cas e i j d up there = rises 0 cas e (suc i) (suc j) d (omega (arith, up)) (omega (arith, there))

pub rise_ordered : (low : ℕ) (cas : List Ca)
    → ((d : ℕ) → 0 < length (numbers cas) → low ≤ slice_index_or (numbers cas) 0 d) → IsNonDecreasing (numbers cas)
    → are_ordered low cas ≡ true
rise_ordered low [] first up = refl
rise_ordered low (ca ∷ cas) first up =
    and_from (nat_le low ca.since) (are_ordered ca.since cas) (le-leb low ca.since (first 0 (omega arith)))
    (rise_ordered ca.since cas (λ d there. up 0 1 d (omega arith) (omega (arith, there)))
    (λ i j d le there. up (suc i) (suc j) d (omega (arith, le)) (omega (arith, there))))

-- ---- the KRL

-- a KRL built from a state's revocations shows them
pub made_shown : (revoked : Revoked) (head : KrlHead) (cas : List Ca) (r : Revocations) (s : State)
    → IsMadeOf revoked head cas r → AreRevocations r s → AreIssued s → AreShown revoked head cas s
made_shown revoked head cas r s is of issued = record {
  head = is.head;
  parts = λ same. parts_are_published s r.serials revoked.parts.items
      (subst (λ (cs : List Ca). AreParts revoked.parts.items cs r.serials) same is.parts) of.serials issued;
  key_ids = is.key_ids ∙ of.key_ids;
}
