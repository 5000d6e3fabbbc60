-- Numbers as `u64` parses them.
use Rattle.std.proofs.Common.{◌≡◌, ◌≤◌, ◌<◌, ◌^◌, ℕ, Bool, true, false, Some, None, refl, subst}
use Rattle.std.specs.Str.Parse.{IsNumeral, digits_value, without_leading_plus}
use Rattle.clap.proofs.ValueTestLemmas.{Accepts-accepts, accepts-Accepts}
use Rattle.clap.specs.ValueTests.{is_unsigned_in}
use Rattle.clap.specs.Words.{IsUnsignedIn, Text}
use Rattle.clap.specs.declared.builder.value_parser.ValueParser.TheVariants.{Unsigned}
use Rattle.command_line.specs.Asked.{number_within}

-- What was read, within the limits, is the number in the text.
pub is_read : (low high n : ℕ) (t : Text) → IsNumeral 10 (without_leading_plus t) × (digits_value 10 (without_leading_plus t) < 2 ^ 64)
    → n ≡ digits_value 10 (without_leading_plus t) → low ≤ n → n ≤ high → Some n ≡ number_within low high t
is_read low high n t numeral same above below =
    let passes : is_unsigned_in low high t ≡ true = Accepts-accepts false (Unsigned low high) t
    (numeral.0, numeral.1, subst (λ m. low ≤ m) same above, subst (λ m. m ≤ high) same below) in
    rw (passes, same) refl

-- A text that isn't a number within the limits has none.
pub none_read : (low high : ℕ) (t : Text) → (IsUnsignedIn low high t → ⊥) → None ≡ number_within low high t
none_read low high t never = go (is_unsigned_in low high t) refl
  where
    go : (b : Bool) → is_unsigned_in low high t ≡ b → None ≡ number_within low high t
    go true e = absurd (never (accepts-Accepts false (Unsigned low high) t e))
    go false e = rw e refl
