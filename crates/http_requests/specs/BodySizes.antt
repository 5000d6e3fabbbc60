-- The number of body bytes that a head asks for.
use Rattle.std.specs.Prelude.{◌≡◌, ◌≢◌, ◌⊎◌, ℕ, Bool, List, [], ◌∷◌, codes, nat_lt, if◌then◌else◌}
use Rattle.std.specs.Str.{bytes_eq}
use Rattle.std.specs.Str.Parse.{digits_value}
use Rattle.httparse.specs.Grammar.{RequestHead}
use Rattle.http_requests.specs.Heads.{lengths, is_coded}
use Rattle.http_requests.specs.Paths.{Path, message, resource, IsPath, path_text}

-- the size, from the lengths and the coding that the head states
abbrev pub stated_size : List (List ℕ) → Bool → ℕ
stated_size [] coded = 0
stated_size (digits ∷ more) coded =
    if coded then 0
    else if nat_lt 16384 (digits_value 10 digits) then 0
    else digits_value 10 digits

-- the size at a path, depending on the method
abbrev pub size_at : Path → RequestHead → ℕ
size_at (message caller key) h = if bytes_eq h.method (codes "POST") then stated_size (lengths h) (is_coded h) else 0
size_at (resource r) h = 0

-- the head asks for a body of n bytes, which is 0 if it is refused
abbrev pub WantsBody : RequestHead → ℕ → Type 0
WantsBody h n =
    (((p : Path) → IsPath p → h.target ≢ path_text p) × (n ≡ 0))
    ⊎ ((p : Path) × IsPath p × (h.target ≡ path_text p) × (n ≡ size_at p h))
