-- Serials.
use Rattle.std.specs.Prelude.{ℕ, Bool, ◌&&◌, nat_le}

-- a serial that may be issued: 1 to 9223372036854775806
abbrev pub is_serial : ℕ → Bool
is_serial n = nat_le 1 n && nat_le n 9223372036854775806

-- 1 <= first <= last <= 9223372036854775806
abbrev pub are_serials : ℕ → ℕ → Bool
are_serials first last = nat_le 1 first && (nat_le first last && nat_le last 9223372036854775806)
