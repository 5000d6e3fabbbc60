-- What holds after every history, besides the validity of its state.
use Rattle.std.specs.Prelude.{◌≡◌, ℕ, ◌+◌, ◌<◌, ◌≤◌, List, [], ◌∷◌, Bool, true, false, ◌&&◌}
use Rattle.std.specs.List.{list_any}
use Rattle.std.specs.Str.{bytes_eq}
use Rattle.office.specs.declared.arrival.Kept.{Kept}
use Rattle.office.specs.State.{State, next_serial}

-- the request has this caller and this request ID
abbrev pub is_kept_for : (caller key : List ℕ) → Kept → Bool
is_kept_for caller key k = bytes_eq k.caller caller && bytes_eq k.key key

-- no two requests have the same caller and the same request ID
abbrev pub AreApart : List Kept → Type 0
AreApart [] = Unit {0}
AreApart (k ∷ kept) = (list_any (is_kept_for k.caller k.key) kept ≡ false) × AreApart kept

-- serials are issued in range, only issued ones are revoked, and no two stored requests share a caller and request ID
pub record IsOfHistory (s : State) (kept : List Kept) : Type 0 where
  pub range : next_serial s ≤ s.opening.last + 1
  pub revoked : (n : ℕ) → s.revoked n ≡ true → (s.opening.first ≤ n) × (n < next_serial s)
  pub apart : AreApart kept
