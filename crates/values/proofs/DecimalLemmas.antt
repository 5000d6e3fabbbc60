-- Numbers in decimal, and the texts that std writes for them.
use Rattle.std.proofs.Common.{◌≡◌, ◌≢◌, ◌<◌, ◌≤◌, ◌^◌, ℕ, List, [], ◌∷◌, length, true, ◌||◌}
use Rattle.std.proofs.Common.{not, ◌==◌, nat_lt, decimal, get_or, Option, Some, None, Result}
use Rattle.std.proofs.Common.{Ok, Err, IfSome, IfNone, inl, inr, rules, arith, ap, sym, ◌∙◌}
use Rattle.std.specs.Char.{is_ascii_digit}
use Rattle.std.specs.List.{list_all}
use Rattle.std.specs.Result.{result_ok, OkIff}
use Rattle.std.specs.Str.{IsUtf8}
use Rattle.std.specs.Str.Parse.{digits_value, ParsesUnsigned}
use Rattle.std.proofs.lemmas.Str.{IsUtf8-from_ascii}
use Rattle.std.proofs.lemmas.Str.Parse.{IsNumeralModel, numerals_by_value, parse_digits}
use Rattle.std.proofs.lemmas.Fmt.{decimal-digits_value, digits_decimal, digits_value-decimal}
use Rattle.std.proofs.lemmas.Fmt.{decimal_nonempty, first_decimal, decimal_digit, IsAscii-from_digits}
use Rattle.std.proofs.lemmas.Bool.{and_parts, and_from, or_cases, or_left, or_right}
use Rattle.std.proofs.lemmas.Bool.{not_from_false, ltb-true, lt-ltb, le-ltb, and_right, cases_lt}
use Rattle.std.proofs.lemmas.Bool.{eq-eqb, ne_eqb, cases_eq, cond-true, cond-false}
use Rattle.std.proofs.lemmas.Bool.Decides.{nat_tests}
use Rattle.std.proofs.lemmas.Option.{cond_some}
use Rattle.values.specs.Decimals.{is_numeral, is_number_below, number_of}

-- the test for digits agrees with std's
pub own : IsNumeralModel (λ ds. list_all is_ascii_digit ds ≡ true) (digits_value 10)
own = numerals_by_value _ (search rules)

-- the facts from the test for a numeral
pub record Tells (t : List ℕ) : Type 0 where
  pub digits : list_all is_ascii_digit t ≡ true
  pub nonempty : 0 < length t
  pub lone : get_or t 0 0 ≡ 48 → length t ≡ 1

-- a numeral whose first digit is 0 has no other digit
lone_from : (d : ℕ) (rest : List ℕ) → (not (d == 48) || length rest == 0) ≡ true → d ≡ 48 → length (d ∷ rest) ≡ 1
lone_from d rest k z = grind (arith, nat_tests, or_cases (not (d == 48)) (length rest == 0) k)

lone_test : (d : ℕ) (rest : List ℕ) → (d ≡ 48 → length (d ∷ rest) ≡ 1) → (not (d == 48) || length rest == 0) ≡ true
lone_test d rest k = elim (cases_eq d 48) [
  | inl e ↦ or_right (not (d == 48)) (length rest == 0) (eq-eqb _ _ (omega (arith, k e)))
  | inr n ↦ or_left (not (d == 48)) (length rest == 0) (not_from_false (d == 48) (ne_eqb d 48 n))
]

pub numeral_tells : (t : List ℕ) → is_numeral t ≡ true → Tells t
numeral_tells [] h = cc
numeral_tells (d ∷ rest) h =
    let parts = and_parts (list_all is_ascii_digit (d ∷ rest)) (not (d == 48) || length rest == 0) h in
    record { digits = parts.0; nonempty = omega arith; lone = lone_from d rest parts.1 }

pub numeral_from : (t : List ℕ) → Tells t → is_numeral t ≡ true
numeral_from [] h = absurd (omega (arith, h.nonempty))
numeral_from (d ∷ rest) h =
    and_from (list_all is_ascii_digit (d ∷ rest)) (not (d == 48) || length rest == 0) h.digits (lone_test d rest h.lone)

-- the decimal text of a number is a numeral
pub numeral_decimal : (n : ℕ) → n < 2 ^ 64 → is_numeral (decimal n) ≡ true
numeral_decimal n small = numeral_from (decimal n) (record {
  digits = digits_decimal own n small;
  nonempty = decimal_nonempty n small;
  lone = λ z. elim (cases_eq n 0) [
    | inl e ↦ ap (λ k. length (decimal k)) e ∙ ap length (decimal_digit 0 (omega arith))
    | inr more ↦ absurd (omega (arith, first_decimal n (omega arith) small))
  ];
})

-- the decimal text of a number below the limit passes the test for such numbers
pub below_decimal : (limit n : ℕ) → limit ≤ 2 ^ 64 → n < limit → is_number_below limit (decimal n) ≡ true
below_decimal limit n room small =
    let value = digits_value-decimal own n (omega arith) in
    and_from (is_numeral (decimal n)) (nat_lt (digits_value 10 (decimal n)) limit) (numeral_decimal n (omega arith))
    (lt-ltb _ _ (omega arith))

-- a text that passes the test is the decimal text of its value
pub decimal_below : (limit : ℕ) (t : List ℕ) → limit ≤ 2 ^ 64 → is_number_below limit t ≡ true
    → decimal (digits_value 10 t) ≡ t
decimal_below limit t room h =
    let parts = and_parts (is_numeral t) (nat_lt (digits_value 10 t) limit) h in
    let tells = numeral_tells t parts.0 in
    let small = ltb-true _ _ parts.1 in
    decimal-digits_value own t tells.digits tells.nonempty tells.lone (omega arith)

-- the value of a text that passes the test is below the limit
pub value_below : (limit : ℕ) (t : List ℕ) → is_number_below limit t ≡ true → digits_value 10 t < limit
value_below limit t h = ltb-true _ _ (and_parts (is_numeral t) (nat_lt (digits_value 10 t) limit) h).1

-- a number is read from its decimal text
pub number_of-decimal : (n : ℕ) → n < 2 ^ 64 → number_of (decimal n) ≡ Some n
number_of-decimal n small =
    cond-true (is_number_below (2 ^ 64) (decimal n)) _ _ (below_decimal (2 ^ 64) n (omega arith) small)
    ∙ ap Some (digits_value-decimal own n small)

-- a numeral is valid UTF-8
pub numeral_utf8 : (t : List ℕ) → is_numeral t ≡ true → IsUtf8 t
numeral_utf8 t h = IsUtf8-from_ascii t (IsAscii-from_digits t (own.to t (numeral_tells t h).digits))

value_from : {E : Type 0} (t : List ℕ) (r : Result ℕ E) → is_numeral t ≡ true
    → OkIff r ((0 < length t) × (digits_value 10 t < 2 ^ 64)) (digits_value 10 t) → result_ok r ≡ number_of t
value_from t (Ok n) h (small, e) =
    ap Some e ∙ sym (cond-true (is_number_below (2 ^ 64) t) _ _
    (and_from (is_numeral t) (nat_lt (digits_value 10 t) (2 ^ 64)) h (lt-ltb _ _ small.1)))
value_from t (Err e) h refuted = elim (cases_lt (digits_value 10 t) (2 ^ 64)) [
  | inl small ↦ absurd (refuted ((numeral_tells t h).nonempty, small))
  | inr large ↦ sym (cond-false (is_number_below (2 ^ 64) t) _ _
      (and_right (is_numeral t) (nat_lt (digits_value 10 t) (2 ^ 64)) (le-ltb _ _ large)))
]

-- std parses a numeral as the number that it represents
pub parsed_number : {E : Type 0} (t : List ℕ) (r : Result ℕ E) → is_numeral t ≡ true → ParsesUnsigned 64 10 t r
    → result_ok r ≡ number_of t
parsed_number t r h p = value_from t r h (parse_digits own 64 t r p (numeral_tells t h).digits)

-- a text is the decimal text of the number that is read from it
pub number_found : (t : List ℕ) (r : Option ℕ) → r ≡ number_of t → IfSome r (λ n. t ≡ decimal n)
number_found t None e = tt
number_found t (Some n) e =
    let is = cond_some (is_number_below (2 ^ 64) t) (digits_value 10 t) n (sym e) in
    sym (decimal_below (2 ^ 64) t (omega arith) is.0) ∙ ap decimal is.1

-- if no number is read, the text is that of no number
pub number_only : (t : List ℕ) (r : Option ℕ) → r ≡ number_of t → IfNone r ((n : ℕ) → n < 2 ^ 64 → t ≢ decimal n)
number_only t None e = λ n small same.
    let there : None ≡ Some n = e ∙ ap number_of same ∙ number_of-decimal n small in
    cc
number_only t (Some n) e = tt

-- a number is read from its text alone
pub number_spelled : (t : List ℕ) (n : ℕ) → number_of t ≡ Some n → t ≡ decimal n
number_spelled t n e = number_found t (Some n) (sym e)
