-- Batches of certificates, by serial.
use Rattle.std.specs.Prelude.{ℕ, ◌+◌, min}

-- the serial at the place, limited to the greatest number that a column can hold, which is no serial
abbrev pub numbered : (first place : ℕ) → ℕ
numbered first place = min (first + place) 9223372036854775807
