-- Key IDs in ascending order.
use Rattle.std.specs.Prelude.{ℕ, List, length, Bool, false, Option, Some, None}
use Rattle.std.specs.List.{take_while}
use Rattle.std.specs.Ordering.{is_gt, nat_cmp}
use Rattle.std.specs.Cmp.Lexicographic.{slice_cmp}
use Rattle.std.specs.Str.{bytes_eq}

-- the text comes after the other, byte by byte
abbrev pub comes_after : List ℕ → List ℕ → Bool
comes_after t other = is_gt (slice_cmp nat_cmp t other)

-- how many of the texts, which are in ascending order, come before this one
abbrev pub place_among : List (List ℕ) → List ℕ → ℕ
place_among ts t = length (take_while (λ other. comes_after t other) ts)

abbrev pub is_at : Option (List ℕ) → List ℕ → Bool
is_at (Some other) t = bytes_eq other t
is_at None t = false
