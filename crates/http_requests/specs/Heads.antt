-- The head of a request: RFC 9112, sections 2 to 5, with this office's limits, and what it says about the body (RFC
-- 9110, section 8.6; RFC 9112, section 6).
use Rattle.std.specs.Prelude.{◌≡◌, ℕ, ◌≤◌, Bool, List, [], ◌∷◌, length, map}
use Rattle.std.specs.Prelude.{filter, All, codes, min, nat_lt, Option, Some, None}
use Rattle.std.specs.Str.{str_eq_ignore_ascii_case}
use Rattle.std.specs.Str.Parse.{IsNumeral, digits_value}
use Rattle.httparse.specs.Grammar.{RequestHead, ReadsRequest, print_request}
use Rattle.httparse.specs.Spans.{name_and_value}

-- the bytes begin with a head within the limits on bytes and lines, and rest comes after it
pub record IsHead (bytes : List ℕ) (h : RequestHead) (rest : List ℕ) : Type 0 where
  pub reads : ReadsRequest bytes h rest
  pub size : length (print_request h) ≤ 8192
  pub lines : length h.fields ≤ 32

-- a header line: its name and its value
abbrev pub Line : Type 0
Line = List ℕ × List ℕ

-- the line has this name, ignoring ASCII case
abbrev pub is_line_named : List ℕ → Line → Bool
is_line_named name line = str_eq_ignore_ascii_case line.0 name

-- the values of the lines with this name, in order
abbrev pub values : List ℕ → List Line → List (List ℕ)
values name lines = map (λ line. line.1) (filter (is_line_named name) lines)

-- the header lines of a head
abbrev pub lines_of : RequestHead → List Line
lines_of h = map name_and_value h.fields

-- the values of the head's content-length lines
abbrev pub lengths : RequestHead → List (List ℕ)
lengths h = values (codes "content-length") (lines_of h)

-- the head has a transfer-encoding line
abbrev pub is_coded : RequestHead → Bool
is_coded h = nat_lt 0 (length (values (codes "transfer-encoding") (lines_of h)))

-- at most one length, which is all digits
pub record AreLawfulLengths (known : List (List ℕ)) : Type 0 where
  pub one : length known ≤ 1
  pub digits : All (IsNumeral 10) known

-- a head that isn't refused at once
abbrev pub IsGood : List ℕ → RequestHead → List ℕ → Type 0
IsGood bytes h rest = IsHead bytes h rest × AreLawfulLengths (lengths h)

-- the length that the lines state, or one over the limit if it is larger
abbrev pub States : Option ℕ → List (List ℕ) → Type 0
States None known = known ≡ []
States (Some n) known = (digits : List ℕ) × (known ≡ digits ∷ []) × (n ≡ min 16385 (digits_value 10 digits))
