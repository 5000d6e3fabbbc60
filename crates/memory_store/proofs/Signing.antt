-- A certificate signed in its place.
use Rattle.memory_store.proofs.Words.{Certificate, List, Signature, [], ap, arith, length, refl, signed_at}
use Rattle.memory_store.proofs.Words.{slice_index_or, slice_set, suc, zero, ℕ, ◌<◌, ◌∷◌, ◌≡◌, ◌≤◌}
use Rattle.office.specs.Machine.{signed}

-- signing the certificate c at the place, given that an indexed read with c as the default returns c
pub set_signed : (cs : List Certificate) (c : Certificate) (place : ℕ) (s : Signature) → c ≡ slice_index_or cs place c → place < length cs → slice_set cs place (signed c s) ≡ signed_at cs place s
set_signed [] c place s is there = absurd (omega (arith, there))
set_signed (d ∷ cs) c zero s is there = ap (λ (x : Certificate). signed x s ∷ cs) is
set_signed (d ∷ cs) c (suc place) s is there = ap (λ (xs : List Certificate). d ∷ xs) (set_signed cs c place s is (omega (arith, there)))

-- past the last certificate there is none to sign
pub none_signed : (cs : List Certificate) (place : ℕ) (s : Signature) → length cs ≤ place → signed_at cs place s ≡ cs
none_signed [] place s at_end = refl
none_signed (c ∷ cs) zero s at_end = absurd (omega arith)
none_signed (c ∷ cs) (suc place) s at_end = ap (λ (xs : List Certificate). c ∷ xs) (none_signed cs place s (omega arith))
