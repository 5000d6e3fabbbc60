-- Lists of bytes: their parts, and lists that are put together from them.
use Rattle.std.proofs.Common.{◌≡◌, ℕ, zero, suc, ◌+◌, ◌<◌, true, List, [], ◌∷◌, ◌++◌, length, take, drop}
use Rattle.std.proofs.Common.{refl, subst, arith, inl, inr}
use Rattle.std.specs.Prelude.{nat_lt}
use Rattle.std.specs.List.{list_all}
use Rattle.std.proofs.lemmas.Bool.{and_from, and_parts, cases_lt, lt-ltb, ltb-true}
use Rattle.std.proofs.lemmas.List.{length-take, get_or-append-add, get_or-drop, get_or-take, get_or_past}
use Rattle.std.proofs.Math.ListN.{get_or-append}
use Rattle.text.specs.Bytes.{IsBytes}

-- the last bytes are bytes
pub IsBytes-drop : (n : ℕ) (bytes : List ℕ) → IsBytes bytes → IsBytes (drop n bytes)
IsBytes-drop n bytes h i = rw get_or-drop (h (n + i))

-- the first bytes are bytes
pub IsBytes-take : (n : ℕ) (bytes : List ℕ) → IsBytes bytes → IsBytes (take n bytes)
IsBytes-take n bytes h i =
    elim (cases_lt i n) [
      | inl lt ↦ rw (get_or-take n bytes i 0 lt) (h i)
      | inr le ↦ rw (get_or_past (take n bytes) i 0 (omega (arith, length-take n bytes))) (omega arith)
    ]

-- bytes followed by bytes are bytes
pub IsBytes-append : (a b : List ℕ) → IsBytes a → IsBytes b → IsBytes (a ++ b)
IsBytes-append [] b fits_a fits_b i = fits_b i
IsBytes-append (x ∷ a) b fits_a fits_b zero = fits_a 0
IsBytes-append (x ∷ a) b fits_a fits_b (suc i) = IsBytes-append a b (λ k. fits_a (suc k)) fits_b i

-- numbers that pass the test are bytes
pub IsBytes_from : (xs : List ℕ) → list_all (λ b. nat_lt b 256) xs ≡ true → IsBytes xs
IsBytes_from [] e i = omega arith
IsBytes_from (x ∷ xs) e zero = ltb-true x 256 (and_parts _ _ e).0
IsBytes_from (x ∷ xs) e (suc i) = IsBytes_from xs (and_parts _ _ e).1 i

-- bytes pass the test
pub all_bytes : (xs : List ℕ) → IsBytes xs → list_all (λ b. nat_lt b 256) xs ≡ true
all_bytes [] fits = refl
all_bytes (x ∷ xs) fits = and_from _ _ (lt-ltb x 256 (fits 0)) (all_bytes xs (λ i. fits (suc i)))

-- the rest of a list of bytes is a list of bytes
pub IsBytes_after : (front rest : List ℕ) → IsBytes (front ++ rest) → IsBytes rest
IsBytes_after front rest h i = subst (λ (n : ℕ). n < 256) (get_or-append-add front rest i 0) (h (length front + i))

-- the rest after a front of bytes is a list of bytes
pub IsBytes_left : (bytes front rest : List ℕ) → IsBytes bytes → bytes ≡ front ++ rest → IsBytes rest
IsBytes_left bytes front rest h e = IsBytes_after front rest (subst (λ (b : List ℕ). IsBytes b) e h)

-- the front of a list of bytes is a list of bytes
pub IsBytes_front : (front rest : List ℕ) → IsBytes (front ++ rest) → IsBytes front
IsBytes_front front rest h i = elim (cases_lt i (length front)) [
  | inl lt ↦ subst (λ (n : ℕ). n < 256) (get_or-append front rest 0 i lt) (h i)
  | inr ge ↦ rw (get_or_past front i 0 ge) (omega arith)
]
