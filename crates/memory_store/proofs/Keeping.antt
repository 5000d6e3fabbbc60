-- The invariants of the lists, after each change.
use Rattle.memory_store.proofs.Words.{Ca, Certificate, Department, IfSome, IsCertificate, List, MemoryContents, None}
use Rattle.memory_store.proofs.Words.{Signature, [], arith, certificate_of, cond, entries, false, is_department, length}
use Rattle.memory_store.proofs.Words.{nat_cmp, nat_lt, put, signed_at, slice_cmp, slice_get, slice_index_or, state_of}
use Rattle.memory_store.proofs.Words.{suc, true, zero, ℕ, ◌++◌, ◌+◌, ◌<◌, ◌∷◌, ◌≡◌, ◌≤◌}
use Rattle.std.proofs.Common.{◌-◌, length-append}
use Rattle.std.specs.Prelude.{All}
use Rattle.std.proofs.lemmas.List.{map-append}
use Rattle.std.proofs.lemmas.List.Elements.{All-head, All-tail, All-push}
use Rattle.std.proofs.lemmas.List.Sorted.{IsNonDecreasingBy-push}
use Rattle.office.specs.Parts.{numbers}
use Rattle.office.proofs.Growth.{length-signed_at}
use Rattle.memory_store.specs.Contents.{AreKept}
use Rattle.memory_store.proofs.Places.{all_after_put}

-- an element that exists has a property that all have
pub all_get : {X : Type 0} (P : X → Type 0) (xs : List X) (k : ℕ) → All P xs → IfSome (slice_get xs k) P
all_get P [] k all = tt
all_get P (x ∷ xs) zero all = All-head P x xs all
all_get P (x ∷ xs) (suc k) all = all_get P xs k (All-tail P x xs all)

-- the certificate of a serial is valid
pub issued_lawful : (t : MemoryContents) (serial : ℕ) → AreKept t → IfSome (certificate_of (state_of t) serial) IsCertificate
issued_lawful t serial k =
    elim (nat_lt serial t.opening.first) as (λ b. IfSome (cond b None (slice_get t.certificates (serial - t.opening.first))) IsCertificate) [
      | true ↦ tt
      | false ↦ all_get IsCertificate t.certificates (serial - t.opening.first) k.certificates
    ]

-- ---- departments

pub with_department : (t : MemoryContents) (d : Department) (ds : List Department) → AreKept t → is_department d ≡ true
    → entries ds ≡ put (slice_cmp nat_cmp) d.name d (entries t.departments) → AreKept (record t { departments = ds })
with_department t d ds k lawful is = record {
  opening = k.opening;
  serials = k.serials;
  departments = all_after_put is_department d t.departments ds lawful k.departments is;
  certificates = k.certificates;
  ascending = k.ascending;
  served = k.served;
}

-- ---- certificates

later : (n a b : ℕ) → a ≤ b → n ≤ a → n ≤ b
later n a b up le = omega (arith, up, le)

pub with_certificate : (t : MemoryContents) (c : Certificate) → AreKept t → IsCertificate c → t.opening.first + length t.certificates ≤ t.opening.last
    → AreKept (record t { certificates = t.certificates ++ c ∷ [] })
with_certificate t c k lawful room =
    let longer : length (t.certificates ++ c ∷ []) ≡ length t.certificates + 1 = length-append t.certificates (c ∷ []) in
    record {
      opening = k.opening;
      serials = rw longer (omega (arith, room));
      departments = k.departments;
      certificates = All-push IsCertificate t.certificates c k.certificates lawful;
      ascending = k.ascending;
      served = rw longer (λ i d there. later (slice_index_or (numbers t.cas) i d) (t.opening.first + length t.certificates) (t.opening.first + (length t.certificates + 1)) (omega arith) (k.served i d there));
    }

signed_lawful : (cs : List Certificate) (place i : ℕ) (s : Signature) → All IsCertificate cs → (d : Certificate) → i < length (signed_at cs place s) → IsCertificate (slice_index_or (signed_at cs place s) i d)
signed_lawful [] place i s all d there = absurd (omega (arith, there))
signed_lawful (c ∷ cs) zero zero s all d there = let old = All-head IsCertificate c cs all in record { department = old.department; fields = old.fields; body = old.body }
signed_lawful (c ∷ cs) zero (suc i) s all d there = All-tail IsCertificate c cs all i d (omega (arith, there))
signed_lawful (c ∷ cs) (suc place) zero s all d there = All-head IsCertificate c cs all
signed_lawful (c ∷ cs) (suc place) (suc i) s all d there = signed_lawful cs place i s (All-tail IsCertificate c cs all) d (omega (arith, there))

pub with_signature : (t : MemoryContents) (place : ℕ) (s : Signature) → AreKept t → AreKept (record t { certificates = signed_at t.certificates place s })
with_signature t place s k =
    let same = length-signed_at t.certificates place s in
    record {
      opening = k.opening;
      serials = rw same k.serials;
      departments = k.departments;
      certificates = λ i d there. signed_lawful t.certificates place i s k.certificates d there;
      ascending = k.ascending;
      served = rw same k.served;
    }

-- ---- CAs

pub with_ca : (t : MemoryContents) (ca : Ca) → AreKept t → ca.since ≡ t.opening.first + length t.certificates → AreKept (record t { cas = t.cas ++ ca ∷ [] })
with_ca t ca k next =
    let longer : numbers (t.cas ++ ca ∷ []) ≡ numbers t.cas ++ ca.since ∷ [] = map-append (λ (x : Ca). x.since) t.cas (ca ∷ []) in
    let last : ca.since ≤ t.opening.first + length t.certificates = omega (arith, next) in
    record {
      opening = k.opening;
      serials = k.serials;
      departments = k.departments;
      certificates = k.certificates;
      ascending = rw longer (IsNonDecreasingBy-push (λ (n : ℕ). n) (numbers t.cas) ca.since k.ascending
          (λ d some. rw next (k.served (length (numbers t.cas) - 1) d (omega (arith, some)))));
      served = rw longer (All-push (λ n. n ≤ t.opening.first + length t.certificates) (numbers t.cas) ca.since k.served last);
    }
