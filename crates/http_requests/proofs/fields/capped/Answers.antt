use Rattle.std.proofs.Common.{◌≡◌, ℕ, ◌≤◌, ◌+◌, ◌-◌, ◌*◌, min, get_or, arith}
use Rattle.std.specs.Char.{digit_value}
use Rattle.std.proofs.lemmas.Bool.Decides.{nat_tests}
use Rattle.std.proofs.lemmas.Str.Parse.{digit_at}
use Rattle.std.proofs.lemmas.Int.Digits.{digits_more, digits_value_more}
use Rattle.http_requests.proofs.fields.capped.Goals as goal

-- one more digit, and the cap again
capped_more : (d n x m : ℕ) → n ≡ min 16385 d → m ≡ min (n * 10 + x) 16385 → m ≡ min 16385 (d * 10 + x)
capped_more d n x m e f = omega arith

digit_is : (b : ℕ) → 48 ≤ b → b ≤ 57 → digit_value b ≡ b - 48
digit_is b low high = grind (arith, nat_tests)

pub returns-then-not-is_ascii_digit-clause-none : goal.returns-then-not-is_ascii_digit-clause-none
returns-then-not-is_ascii_digit-clause-none c =
    λ numeral. let digit = digit_at c.args.digits.now c.loop-digit.digit-index numeral.1 (omega arith) in
    let other = c.if-not-is_ascii_digit.ensures.cases in
    omega (arith, digit, other)

pub loop-digit-preserved : goal.loop-digit-preserved
loop-digit-preserved c =
    let s = c.args.digits.now in
    let i = c.loop-digit.digit-index in
    let is = c.if-not-is_ascii_digit.ensures.cases in
    let value = digit_is (get_or s i 0) is.0 is.1 in
    record {
      all = digits_more 10 s i (omega arith) c.loop-digit.invariant.all c.if-not-is_ascii_digit.ensures.bound;
      value = rw (digits_value_more 10 s i (omega arith), value)
          (capped_more _ c.loop-digit.n (get_or s i 0 - 48) _ c.loop-digit.invariant.value (omega arith));
    }
