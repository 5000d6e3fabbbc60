use Rattle.std.proofs.Common.{◌≡◌, ℕ, ◌+◌, min, take, List}
use Rattle.std.specs.Str.Parse.{AllDigits, digits_value}
use Rattle.http_requests.specs.declared.limits.TheConstants.{MAX_BODY}
use Rattle.http_requests.proofs.fields.capped.Given as goal

-- the digits so far
pub record SoFar (digits : List ℕ) (i n : ℕ) : Type 0 where
  pub all : AllDigits 10 (take i digits)
  pub value : n ≡ min (MAX_BODY + 1) (digits_value 10 (take i digits))

abbrev pub invariant-loop-digit : goal.invariant-loop-digit
invariant-loop-digit l = SoFar l.digits l.digit-index l.n
