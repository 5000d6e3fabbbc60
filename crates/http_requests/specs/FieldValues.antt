-- The values that were found for one name.
use Rattle.std.specs.Prelude.{◌≡◌, ℕ, ◌≤◌, List, [], ◌∷◌, length, map}
use Rattle.httparse.specs.declared.spans.HeaderSpan.{HeaderSpan}
use Rattle.httparse.specs.Spans.{header_bytes}
use Rattle.http_requests.specs.Heads.{values}
use Rattle.http_requests.specs.declared.fields.FieldValues.{FieldValues}
use Rattle.http_requests.specs.declared.fields.FieldValues.TheVariants.{None, One, Several}

-- the values in the spans of the headers with this name, in order
abbrev pub covered : List ℕ → List ℕ → List HeaderSpan → List (List ℕ)
covered name bytes headers = values name (map (header_bytes bytes) headers)

-- these are the values
abbrev pub AreFound : FieldValues → List (List ℕ) → Type 0
AreFound None known = known ≡ []
AreFound (One value) known = known ≡ value.now ∷ []
AreFound Several known = 2 ≤ length known
