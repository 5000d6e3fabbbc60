-- Numbers in decimal, without sign or leading zeros.
use Rattle.std.specs.Prelude.{ℕ, ◌^◌, List, [], ◌∷◌, length, Bool, false, ◌&&◌, ◌||◌}
use Rattle.std.specs.Prelude.{not, ◌==◌, nat_lt, Option, Some, None, if◌then◌else◌}
use Rattle.std.specs.Char.{is_ascii_digit}
use Rattle.std.specs.List.{list_all}
use Rattle.std.specs.Str.Parse.{digits_value}

-- one digit, or several digits of which the first is not 0
abbrev pub is_numeral : List ℕ → Bool
is_numeral [] = false
is_numeral (digit ∷ rest) = list_all is_ascii_digit (digit ∷ rest) && (not (digit == 48) || length rest == 0)

-- a number below this limit
abbrev pub is_number_below : ℕ → List ℕ → Bool
is_number_below limit t = is_numeral t && nat_lt (digits_value 10 t) limit

-- the 64-bit number with this text, if there is one
abbrev pub number_of : List ℕ → Option ℕ
number_of t = if is_number_below (2 ^ 64) t then Some (digits_value 10 t) else None
