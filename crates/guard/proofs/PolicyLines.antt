-- Policies line by line.
use Rattle.std.proofs.Common.{◌≡◌, ◌≤◌, ◌<◌, ◌+◌, ◌-◌, ℕ, zero, suc, List, [], ◌∷◌, ◌++◌, length, refl, sym, append_assoc}
use Rattle.std.proofs.Common.{arith, ap, ◌∙◌, map, take, drop, get_or, Bor, subst, true, false}
use Rattle.std.proofs.lemmas.List.{append-nil, take_all}
use Rattle.std.proofs.lemmas.List.Splits.{length-slice_split}
use Rattle.std.proofs.lemmas.List.Sums.{count_by-le-length}
use Rattle.std.specs.Prelude.{◌==◌}
use Rattle.message.specs.Faults.{IsFirstBad}
use Rattle.guard.specs.Policies.{behind, is_last, text_of, text_size}

none_left : (n : ℕ) → text_of n [] ≡ []
none_left zero = refl
none_left (suc n) = refl

-- the text of a line and of those that follow it
pub text_next : (n : ℕ) (p : List ℕ) (ps : List (List ℕ)) → text_of (suc n) (p ∷ ps) ≡ (p ++ behind ps []) ++ text_of n ps
text_next n p [] = rw (none_left n, append-nil p) (sym (append-nil p))
text_next n p (q ∷ ps) = sym (append_assoc p (10 ∷ []) (text_of n (q ∷ ps)))

-- one more line is appended
pub text_put : (size : ℕ) (out total : List ℕ) (i : ℕ) (p : List ℕ) (ps : List (List ℕ)) → i < size
    → out ++ text_of (size - i) (p ∷ ps) ≡ total → (out ++ (p ++ behind ps [])) ++ text_of (size - (i + 1)) ps ≡ total
text_put size out total i p ps lt is =
    let left : size - i ≡ suc (size - (i + 1)) = omega (arith, lt) in
    append_assoc out (p ++ behind ps []) (text_of (size - (i + 1)) ps)
    ∙ ap (λ (t : List ℕ). out ++ t) (sym (text_next (size - (i + 1)) p ps))
    ∙ ap (λ (n : ℕ). out ++ text_of n (p ∷ ps)) (sym left) ∙ is

-- no line remains, or all were appended
pub text_ended : (out total : List ℕ) (n : ℕ) → out ++ text_of n [] ≡ total → out ≡ total
text_ended out total n is = sym (append-nil out) ∙ ap (λ (t : List ℕ). out ++ t) (sym (none_left n)) ∙ is

pub text_whole : (size : ℕ) (out total : List ℕ) (i : ℕ) (ps : List (List ℕ)) → size ≤ i
    → out ++ text_of (size - i) ps ≡ total → out ≡ total
text_whole size out total i ps le is =
    let none : size - i ≡ 0 = omega (arith, le) in
    sym (append-nil out) ∙ ap (λ (n : ℕ). out ++ text_of n ps) (sym none) ∙ is

-- ---- the same for the borrowed lines that the function has
abbrev seen : List (Bor (List ℕ)) → List (List ℕ)
seen xs = map (λ x. x.now) xs

pub text_put_from : (size : ℕ) (out new total : List ℕ) (i : ℕ) (xs : List (Bor (List ℕ))) (d : Bor (List ℕ)) → i < size
    → 1 ≤ length xs → new ≡ out ++ ((get_or xs 0 d).now ++ behind (seen (take (length xs - 1) (drop 1 xs))) [])
    → out ++ text_of (size - i) (seen xs) ≡ total
    → new ++ text_of (size - (i + 1)) (seen (take (length xs - 1) (drop 1 xs))) ≡ total
text_put_from size out new total i [] d lt some put is = absurd (omega (arith, some))
text_put_from size out new total i (x ∷ xs) d lt some put is =
    let rest : take (length (x ∷ xs) - 1) xs ≡ xs = take_all (length (x ∷ xs) - 1) xs (omega arith) in
    subst (λ (ys : List (Bor (List ℕ))). new ++ text_of (size - (i + 1)) (seen ys) ≡ total) (sym rest)
    (ap (λ (t : List ℕ). t ++ text_of (size - (i + 1)) (seen xs))
    (put ∙ ap (λ (ys : List (Bor (List ℕ))). out ++ (x.now ++ behind (seen ys) [])) rest)
    ∙ text_put size out total i x.now (seen xs) lt is)

pub text_ended_at : (out total : List ℕ) (n : ℕ) (xs : List (Bor (List ℕ))) → length xs < 1
    → out ++ text_of n (seen xs) ≡ total → out ≡ total
text_ended_at out total n [] none is = text_ended out total n is
text_ended_at out total n (x ∷ xs) none is = absurd (omega (arith, none))

-- ---- the size of a text

-- as many lines were counted as stand before, and then the text goes on
pub size_more : (size : ℕ) (p : List ℕ) (ps : List (List ℕ)) (total : ℕ) → is_last p ≡ false
    → size + text_size (p ∷ ps) ≡ total → (size + 1) + text_size ps ≡ total
size_more size p ps total other is =
    let next : text_size (p ∷ ps) ≡ suc (text_size ps) = rw other refl in
    omega (arith, is, next)

pub size_last : (size : ℕ) (p : List ℕ) (ps : List (List ℕ)) (total : ℕ) → is_last p ≡ true
    → size + text_size (p ∷ ps) ≡ total → size + 1 ≡ total
size_last size p ps total last is =
    let one : text_size (p ∷ ps) ≡ 1 = rw last refl in
    omega (arith, is, one)

-- the number of a bad line is at most one more than the number of bytes
pub bad_line_is_near : (bytes : List ℕ) (n : ℕ) → IsFirstBad bytes n → n ≤ length bytes + 1
bad_line_is_near bytes n bad =
    let shared = bad.some.1.1.0 in
    let size = length-slice_split (λ b. b == 10) bytes in
    omega (arith, shared, size, count_by-le-length (λ b. b == 10) bytes)
