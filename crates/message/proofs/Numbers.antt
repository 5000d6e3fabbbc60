-- Numbers and ranges of serials in lines.
use Rattle.message.proofs.Words.{All-append, All-cons, Bool, IsBytes, List, None, Option, Some, [], rest_after}
use Rattle.message.proofs.Words.{and_parts}
use Rattle.message.proofs.Words.{ap, arith, comment_of, comment_of-text, comment_text, decimal, eqb, false, is_end}
use Rattle.message.proofs.Words.{is_longest_life, is_range, leb-true, number_after, option_and_then}
use Rattle.message.proofs.Words.{option_and_then_some, range_after, range_words, recursion_from_All, refl, same_Some}
use Rattle.message.proofs.Words.{serial_small, text_is, true, word_of, word_of-text, ℕ, ◌++◌, ◌<◌, ◌∙◌, ◌∷◌, ◌≡◌, ◌≤◌}
use Rattle.std.proofs.Common.{◌^◌, leb}
use Rattle.values.specs.Decimals.{number_of}
use Rattle.values.proofs.DecimalLemmas.{number_of-decimal, number_spelled}
use Rattle.values.proofs.Lacking.{decimal_lacks}
use Rattle.message.specs.Reading.{range_between, range_of}
use Rattle.message.specs.declared.serial_range.SerialRange.{SerialRange}
use Rattle.message.proofs.Readings.{IsField, IsLine}
use Rattle.message.proofs.Fields.{IsHead, field_passing}

-- a number after a word, if it passes a test
pub number_field : (test : ℕ → Bool) (head : List ℕ) → IsHead head → rest_after head [] ≡ None
    → ((n : ℕ) → test n ≡ true → n < 2 ^ 64)
    → IsField (number_after test head) (λ n. head ++ decimal n) (λ n. test n ≡ true)
number_field test head line empty small =
    field_passing head number_of decimal test line empty (λ t n _ e. number_spelled t n e)
    (λ n passes. number_of-decimal n (small n passes)) (λ n passes. decimal_lacks 10 n refl (small n passes))

pub longest_life_small : (n : ℕ) → is_longest_life n ≡ true → n < 2 ^ 64
longest_life_small n is = let most : n ≤ 253402300799 =
    leb-true n 253402300799 (and_parts (leb 1 n) (leb n 253402300799) is).1 in omega arith

pub end_small : (n : ℕ) → is_end n ≡ true → n < 2 ^ 64
end_small n is = let most : n ≤ 253402300799 = leb-true n 253402300799 is in omega arith

-- ---- ranges

-- the two numbers of a range
between_found : (lo hi : Option ℕ) (r : SerialRange) → range_between lo hi ≡ Some r
    → (lo ≡ Some r.lo) × (hi ≡ Some r.hi)
between_found None hi r e = absurd cc
between_found (Some lo) None r e = absurd cc
between_found (Some lo) (Some hi) r e =
    let same : record { lo = lo; hi = hi } ≡ r = same_Some _ r e in
    (ap (λ (r : SerialRange). Some r.lo) same, ap (λ (r : SerialRange). Some r.hi) same)

-- a range is read from its text alone
range_found : (t : List ℕ) (r : SerialRange) → IsBytes t → range_of t ≡ Some r → t ≡ range_words r
range_found t r fits e =
    option_and_then_some (λ last. range_between (number_of (word_of t)) (number_of last)) (comment_of t) r e
    (λ last there both.
    let is = between_found (number_of (word_of t)) (number_of last) r both in
    text_is t ∙ ap (λ (c : Option (List ℕ)). word_of t ++ comment_text c) there
    ∙ ap (λ (w : List ℕ). w ++ 32 ∷ last) (number_spelled (word_of t) r.lo is.0)
    ∙ ap (λ (w : List ℕ). decimal r.lo ++ 32 ∷ w) (number_spelled last r.hi is.1))

-- a valid range is read back from its text
range_again : (r : SerialRange) → is_range r ≡ true → range_of (range_words r) ≡ Some r
range_again r is =
    let lo : r.lo < 2 ^ 64 = serial_small r.lo (and_parts _ _ is).0 in
    let hi : r.hi < 2 ^ 64 = serial_small r.hi (and_parts _ _ (and_parts _ _ is).1).0 in
    let free = recursion_from_All (λ b. eqb b 32 ≡ false) (decimal r.lo) (decimal_lacks 32 r.lo refl lo) in
    let first : word_of (range_words r) ≡ decimal r.lo = word_of-text (decimal r.lo) (Some (decimal r.hi)) free in
    let last : comment_of (range_words r) ≡ Some (decimal r.hi) =
    comment_of-text (decimal r.lo) (Some (decimal r.hi)) free in
    ap (option_and_then (λ l. range_between (number_of (word_of (range_words r))) (number_of l))) last
    ∙ ap (λ (o : Option ℕ). range_between o (number_of (decimal r.hi))) (ap number_of first ∙ number_of-decimal r.lo lo)
    ∙ ap (range_between (Some r.lo)) (number_of-decimal r.hi hi)

range_is_line : (r : SerialRange) → is_range r ≡ true → IsLine (range_words r)
range_is_line r is =
    let lo : r.lo < 2 ^ 64 = serial_small r.lo (and_parts _ _ is).0 in
    let hi : r.hi < 2 ^ 64 = serial_small r.hi (and_parts _ _ (and_parts _ _ is).1).0 in
    All-append (λ b. eqb b 10 ≡ false) (decimal r.lo) (32 ∷ decimal r.hi) (decimal_lacks 10 r.lo refl lo)
    (All-cons (λ b. eqb b 10 ≡ false) 32 (decimal r.hi) refl (decimal_lacks 10 r.hi refl hi))

-- a range after a word
pub range_field : (head : List ℕ) → IsHead head → rest_after head [] ≡ None
    → IsField (range_after head) (λ r. head ++ range_words r) (λ r. is_range r ≡ true)
range_field head line empty =
    field_passing head range_of range_words is_range line empty range_found range_again range_is_line
