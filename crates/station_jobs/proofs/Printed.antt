-- A line that is printed in pieces, of which the last may fail.
use Rattle.std.specs.Prelude.{◌≡◌, ◌++◌, ℕ, List, Option, Result, Ok, Err, OnOk}
use Rattle.std.specs.Io.KnownBytes.{Appends}
use Rattle.std.proofs.Common.{subst}
use Rattle.std.proofs.KnownBytes.{Appends-trans}

pub in_two : {X E : Type 0} (a b c : Option (List ℕ)) (p p' q : List ℕ) (result : Result X E) → p ≡ p' → Appends a b p
    → OnOk result (Appends b c q) → OnOk result (Appends a c (p' ++ q))
in_two a b c p p' q (Ok x) same one two =
    Appends-trans a b c p' q (subst (λ (t : List ℕ). Appends a b t) same one) two
in_two a b c p p' q (Err e) same one two = tt

pub in_three : {X E : Type 0} (a b c d : Option (List ℕ)) (p q r : List ℕ) (result : Result X E) → Appends a b p
    → Appends b c q → OnOk result (Appends c d r) → OnOk result (Appends a d (p ++ (q ++ r)))
in_three a b c d p q r (Ok x) one two three =
    Appends-trans a b d p (q ++ r) one (Appends-trans b c d q r two three)
in_three a b c d p q r (Err e) one two three = tt
