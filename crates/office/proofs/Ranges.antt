-- Revoked ranges of serials, and the serials that were handed out.
use Rattle.office.proofs.Words.{Arrival, Bool, HasAll, IsTrue, List, Opening, SerialRange, State, [], and_parts, arith}
use Rattle.office.proofs.Words.{inl, inr, is_range_revoked, leb, leb-true, length-append, or_cases, refl}
use Rattle.office.proofs.Words.{same_from_decides, state, subst, suc, true, with_range, zero, ℕ, ◌&&◌, ◌+◌, ◌-◌, ◌<◌}
use Rattle.office.proofs.Words.{◌↔◌, ◌∷◌, ◌≡◌, ◌≤◌}
use Rattle.std.proofs.lemmas.Bool.{cases_lt}
use Rattle.office.specs.State.{has_all}
use Rattle.office.proofs.Changes.{IsHandedOut, IsKeptByEach, always}
use Rattle.office.proofs.Growth.{length-signed_at}
use Rattle.office.proofs.Parts.{AreIssued}

-- ---- a range is revoked exactly when each of its serials is

pub has_all-each : (set : ℕ → Bool) (from count n : ℕ) → has_all set from count ≡ true → from ≤ n → n < from + count
    → set n ≡ true
has_all-each set from zero n all low high = absurd (omega (arith, low, high))
has_all-each set from (suc count) n all low high =
    let parts = and_parts (set from) (has_all set (from + 1) count) all in
    elim (cases_lt from n) [
      | inl later ↦ has_all-each set (from + 1) count n parts.1 (omega arith) (omega arith)
      | inr first ↦ let same : from ≡ n = omega arith in subst (λ (k : ℕ). set k ≡ true) same parts.0
    ]

each-has_all : (set : ℕ → Bool) (from count : ℕ) → ((n : ℕ) → from ≤ n → n < from + count → set n ≡ true)
    → has_all set from count ≡ true
each-has_all set from zero each = refl
each-has_all set from (suc count) each =
    let here : set from ≡ true = each from (omega arith) (omega arith) in
    rw here (each-has_all set (from + 1) count (λ n low high. each n (omega arith) (omega arith)))

-- a flag that is true exactly when each serial of the range is revoked is the state's
pub range_flag : (flag : Bool) (s : State) (r : SerialRange) → r.lo ≤ r.hi
    → (IsTrue flag ↔ HasAll s.revoked r.lo r.hi) → flag ≡ is_range_revoked s r
range_flag flag s r order says = same_from_decides flag (is_range_revoked s r) says (
  λ all n low high. has_all-each s.revoked r.lo ((r.hi + 1) - r.lo) n all low (omega arith),
  λ all. each-has_all s.revoked r.lo ((r.hi + 1) - r.lo) (λ n low high. all n low (omega arith)),
)

-- ---- revoked serials were handed out

range_issued : (s : State) (r : SerialRange) → IsHandedOut s r → AreIssued s → AreIssued (with_range s r)
range_issued s r is before n e = elim (or_cases (leb r.lo n && leb n r.hi) (s.revoked n) e) [
  | inl within ↦
      let ends = and_parts (leb r.lo n) (leb n r.hi) within in
      (omega (arith, leb-true _ _ ends.0), omega (arith, leb-true _ _ ends.1))
  | inr earlier ↦ before n earlier
]

pub issued_each : IsKeptByEach AreIssued
issued_each s moment in_time before = record {
  department = λ d. before;
  certificate = λ c is n e.
      let was = before n e in (was.0, omega (arith, length-append s.certificates (c ∷ [])));
  signature = λ serial x n e.
      let was = before n e in (was.0, omega (arith, length-signed_at s.certificates (serial - s.opening.first) x));
  range = λ r is. range_issued s r is before;
  key_id = λ key_id. before;
  ca = λ key is none. before;
  ca_published = λ key is some. before;
}

-- a revoked serial was handed out
pub revoked_is_issued : (o : Opening) (l : List Arrival) → AreIssued (state o l)
revoked_is_issued o l = always AreIssued issued_each o l (λ n e. absurd cc)
