-- Serials that may be issued, and their ranges.
use Rattle.std.proofs.Common.{◌≡◌, ℕ, ◌<◌, ◌≤◌, ◌^◌, true, leb, arith}
use Rattle.std.proofs.lemmas.Bool.{and_parts, leb-true}
use Rattle.std.proofs.lemmas.Bool.Decides.{nat_tests}
use Rattle.values.specs.Serials.{are_serials, is_serial}

-- a serial is at least the first and at most the last
pub serial_bounds : (n : ℕ) → is_serial n ≡ true → (1 ≤ n) × (n ≤ 9223372036854775806)
serial_bounds n is =
    let parts = and_parts (leb 1 n) (leb n 9223372036854775806) is in
    (leb-true 1 n parts.0, leb-true n 9223372036854775806 parts.1)

-- a serial fits in 64 bits
pub serial_small : (n : ℕ) → is_serial n ≡ true → n < 2 ^ 64
serial_small n is = omega (arith, (serial_bounds n is).1)

-- a range begins at the first serial or after it, and ends at the last or before it
pub serials_within : (first last : ℕ) → are_serials first last ≡ true → (1 ≤ first) × (last ≤ 9223372036854775806)
serials_within first last are = (grind (arith, nat_tests), grind (arith, nat_tests))

-- a range may end earlier
pub still_serials : (first last lower : ℕ) → are_serials first last ≡ true → first ≤ lower → lower ≤ last
    → are_serials first lower ≡ true
still_serials first last lower h from to = grind (arith, nat_tests)
