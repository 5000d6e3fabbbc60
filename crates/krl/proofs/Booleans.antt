-- Tests of numbers and of Bools.
use Rattle.krl.proofs.Words.{Bool, arith, false, inl, inr, leb, ltb, nat_tests, refl, true, ℕ, ◌&&◌, ◌<◌, ◌||◌, ◌≡◌}
use Rattle.krl.proofs.Words.{◌≤◌, ◌⊎◌}

-- a smaller number passes the test
pub ltb-yes : {a b : ℕ} → a < b → ltb a b ≡ true
ltb-yes {a} {b} lt = grind (arith, nat_tests)

-- a number between two ends
pub is_in : (n a b : ℕ) → a ≤ n → n ≤ b → (leb a n && leb n b) ≡ true
is_in n a b p q = grind (arith, nat_tests)

-- a number below the lower end
pub is_under : (n a b : ℕ) → n < a → (leb a n && leb n b) ≡ false
is_under n a b p = grind (arith, nat_tests)

-- a number above the upper end
pub is_over : (n a b : ℕ) → b < n → (leb a n && leb n b) ≡ false
is_over n a b p = grind (arith, nat_tests)

-- a number between two ends is neither below the lower end nor above the upper one
pub ends : (n a b : ℕ) → (leb a n && leb n b) ≡ true → (a ≤ n) × (n ≤ b)
ends n a b e = (grind (arith, nat_tests), grind (arith, nat_tests))

pub or_true : (b : Bool) → (b || true) ≡ true
or_true true = refl
or_true false = refl

-- if one of two tests holds, then the first does, or the first fails and the second holds
pub or_cases : (a b : Bool) → (a || b) ≡ true → (a ≡ true) ⊎ ((a ≡ false) × (b ≡ true))
or_cases true b e = inl refl
or_cases false b e = inr (refl, e)

pub or_group : (a b c : Bool) → ((a || b) || c) ≡ (a || (b || c))
or_group true b c = refl
or_group false b c = refl

-- a test is not both true and false
pub clash : {P : Type 0} (b : Bool) → b ≡ true → b ≡ false → P
clash true p q = absurd cc
clash false p q = absurd cc
