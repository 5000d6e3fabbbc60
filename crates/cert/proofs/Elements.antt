-- Reading lists element by element.
use Rattle.cert.proofs.Words.{Bool, List, None, Option, OptionField, Pair, Some, [], ap, append_assoc, arith}
use Rattle.cert.proofs.Words.{comes_next, false, option_map, options_within, pair_at, refl, string_at, strings_within}
use Rattle.cert.proofs.Words.{suc, sym, true, ℕ, ◌++◌, ◌+◌, ◌-◌, ◌<◌, ◌∙◌, ◌∷◌, ◌≡◌, ◌≤◌}

-- what was read so far, followed by the result of reading the rest
abbrev pub with_front : {X : Type 0} → List X → Option (List X) → Option (List X)
with_front front read = option_map (λ xs. front ++ xs) read

regroup : {X : Type 0} (front : List X) (x : X) (r : Option (List X))
    → with_front front (option_map (λ xs. x ∷ xs) r) ≡ with_front (front ++ x ∷ []) r
regroup front x (Some xs) = ap (λ l. Some l) (sym (append_assoc front (x ∷ []) xs))
regroup front x None = refl

-- ---- strings

one_string : (test : List ℕ → Bool) (front : List (List ℕ)) (k : ℕ) (bytes name after : List ℕ)
    → string_at bytes ≡ Some (name, after) → test name ≡ true
    → with_front front (strings_within (suc k) test bytes) ≡ with_front (front ++ name ∷ [])
    (strings_within k test after)
one_string test front k [] name after h t = absurd cc
one_string test front k (b ∷ bytes) name after h t = rw (h, t) (regroup front name (strings_within k test after))

-- one more string is read
pub string_goes_on : (test : List ℕ → Bool) (front : List (List ℕ)) (i : ℕ) (bytes name after : List ℕ)
    (total : Option (List (List ℕ))) → i < 16
    → string_at bytes ≡ Some (name, after) → test name ≡ true
    → with_front front (strings_within (16 - i) test bytes) ≡ total
    → with_front (front ++ name ∷ []) (strings_within (16 - (i + 1)) test after) ≡ total
string_goes_on test front i bytes name after total lt h t so_far =
    let k : 16 - i ≡ suc (16 - (i + 1)) = omega arith in
    sym (one_string test front (16 - (i + 1)) bytes name after h t)
    ∙ ap (λ (n : ℕ). with_front front (strings_within n test bytes)) (sym k) ∙ so_far

-- the rest doesn't begin with a string
pub string_cut : (test : List ℕ → Bool) (front : List (List ℕ)) (i : ℕ) (bytes : List ℕ)
    (total : Option (List (List ℕ))) → i < 16 → ¬ (bytes ≡ []) → string_at bytes ≡ None
    → with_front front (strings_within (16 - i) test bytes) ≡ total → total ≡ None
string_cut test front i [] total lt some h so_far = absurd (some refl)
string_cut test front i (b ∷ bytes) total lt some h so_far =
    let k : 16 - i ≡ suc (16 - (i + 1)) = omega arith in
    sym so_far ∙ ap (λ (n : ℕ). with_front front (strings_within n test (b ∷ bytes))) k ∙ rw h refl

-- the rest begins with a string that fails the test
pub string_fails : (test : List ℕ → Bool) (front : List (List ℕ)) (i : ℕ) (bytes name after : List ℕ)
    (total : Option (List (List ℕ))) → i < 16 → string_at bytes ≡ Some (name, after) → test name ≡ false
    → with_front front (strings_within (16 - i) test bytes) ≡ total → total ≡ None
string_fails test front i [] name after total lt h t so_far = absurd cc
string_fails test front i (b ∷ bytes) name after total lt h t so_far =
    let k : 16 - i ≡ suc (16 - (i + 1)) = omega arith in
    sym so_far ∙ ap (λ (n : ℕ). with_front front (strings_within n test (b ∷ bytes))) k ∙ rw (h, t) refl

-- bytes remain after 16 strings
pub strings_left : (test : List ℕ → Bool) (front : List (List ℕ)) (i : ℕ) (bytes : List ℕ)
    (total : Option (List (List ℕ))) → 16 ≤ i → ¬ (bytes ≡ [])
    → with_front front (strings_within (16 - i) test bytes) ≡ total → total ≡ None
strings_left test front i [] total le some so_far = absurd (some refl)
strings_left test front i (b ∷ bytes) total le some so_far =
    let k : 16 - i ≡ 0 = omega arith in
    sym so_far ∙ ap (λ (n : ℕ). with_front front (strings_within n test (b ∷ bytes))) k

-- ---- options

one_option : (field : OptionField) (previous : List ℕ) (front : List Pair) (k : ℕ) (bytes : List ℕ) (p : Pair)
    (after : List ℕ) → pair_at bytes ≡ Some (p, after) → comes_next field previous p ≡ true
    → with_front front (options_within (suc k) field previous bytes) ≡ with_front (front ++ p ∷ [])
    (options_within k field p.name after)
one_option field previous front k [] p after h t = absurd cc
one_option field previous front k (b ∷ bytes) p after h t = rw (
  h,
  t,
) (regroup front p (options_within k field p.name after))

-- one more option is read
pub option_goes_on : (field : OptionField) (previous : List ℕ) (front : List Pair) (i : ℕ) (bytes : List ℕ)
    (p : Pair) (after : List ℕ) (total : Option (List Pair)) → i < 6
    → pair_at bytes ≡ Some (p, after) → comes_next field previous p ≡ true
    → with_front front (options_within (6 - i) field previous bytes) ≡ total
    → with_front (front ++ p ∷ []) (options_within (6 - (i + 1)) field p.name after) ≡ total
option_goes_on field previous front i bytes p after total lt h t so_far =
    let k : 6 - i ≡ suc (6 - (i + 1)) = omega arith in
    sym (one_option field previous front (6 - (i + 1)) bytes p after h t)
    ∙ ap (λ (n : ℕ). with_front front (options_within n field previous bytes)) (sym k) ∙ so_far

-- the rest doesn't begin with a pair
pub option_cut : (field : OptionField) (previous : List ℕ) (front : List Pair) (i : ℕ) (bytes : List ℕ)
    (total : Option (List Pair)) → i < 6 → ¬ (bytes ≡ []) → pair_at bytes ≡ None
    → with_front front (options_within (6 - i) field previous bytes) ≡ total → total ≡ None
option_cut field previous front i [] total lt some h so_far = absurd (some refl)
option_cut field previous front i (b ∷ bytes) total lt some h so_far =
    let k : 6 - i ≡ suc (6 - (i + 1)) = omega arith in
    sym so_far ∙ ap (λ (n : ℕ). with_front front (options_within n field previous (b ∷ bytes))) k ∙ rw h refl

-- the rest begins with a pair that can't come next
pub option_fails : (field : OptionField) (previous : List ℕ) (front : List Pair) (i : ℕ) (bytes : List ℕ)
    (p : Pair) (after : List ℕ) (total : Option (List Pair)) → i < 6
    → pair_at bytes ≡ Some (p, after) → comes_next field previous p ≡ false
    → with_front front (options_within (6 - i) field previous bytes) ≡ total → total ≡ None
option_fails field previous front i [] p after total lt h t so_far = absurd cc
option_fails field previous front i (b ∷ bytes) p after total lt h t so_far =
    let k : 6 - i ≡ suc (6 - (i + 1)) = omega arith in
    sym so_far ∙ ap (λ (n : ℕ). with_front front (options_within n field previous (b ∷ bytes))) k ∙ rw (h, t) refl

-- bytes remain after six options
pub options_left : (field : OptionField) (previous : List ℕ) (front : List Pair) (i : ℕ) (bytes : List ℕ)
    (total : Option (List Pair)) → 6 ≤ i → ¬ (bytes ≡ [])
    → with_front front (options_within (6 - i) field previous bytes) ≡ total → total ≡ None
options_left field previous front i [] total le some so_far = absurd (some refl)
options_left field previous front i (b ∷ bytes) total le some so_far =
    let k : 6 - i ≡ 0 = omega arith in
    sym so_far ∙ ap (λ (n : ℕ). with_front front (options_within n field previous (b ∷ bytes))) k
