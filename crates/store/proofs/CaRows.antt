-- The rows of CAs ascend by number, and reading them gives the CAs back.
use Rattle.store.proofs.Words.{AllByRecursion, Ca, IsAscending, Less, List, Some, [], arith, ca_in, ca_rows, each}
use Rattle.store.proofs.Words.{key_of_again, length, nat_cmp_is, refl, suc, sym, ℕ, ◌<◌, ◌∷◌, ◌≡◌}
use Rattle.std.proofs.Common.{nat_cmp}

above : (m n : ℕ) (cas : List Ca) → m < n → AllByRecursion (λ r. nat_cmp m r.number ≡ Less) (ca_rows n cas)
above m n [] lt = tt
above m n (ca ∷ cas) lt = (sym (nat_cmp_is m n Less lt), above m (suc n) cas (omega arith))

pub cas_rise : (n : ℕ) (cas : List Ca) → IsAscending (λ a b. nat_cmp a.number b.number ≡ Less) (ca_rows n cas)
cas_rise n [] = tt
cas_rise n (ca ∷ cas) = (above n (suc n) cas (omega arith), cas_rise (suc n) cas)

pub cas_again : (n : ℕ) (cas : List Ca) → AllByRecursion (λ ca. length ca.key ≡ 32) cas
    → each ca_in (ca_rows n cas) ≡ Some cas
cas_again n [] all = refl
cas_again n (ca ∷ cas) all = rw (key_of_again ca.key all.0, cas_again (suc n) cas all.1) refl
