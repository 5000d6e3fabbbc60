-- What the bytes of a request ask for: RFC 9112, section 3, and this office's refusals in their order.
use Rattle.std.specs.Prelude.{◌≡◌, ◌≢◌, ◌⊎◌, ◌≤◌, IsTrue, ℕ, Bool, List, []}
use Rattle.std.specs.Prelude.{◌∷◌, length, take, codes, nat_lt, if◌then◌else◌}
use Rattle.std.specs.Str.{bytes_eq}
use Rattle.std.specs.Str.Parse.{digits_value}
use Rattle.httparse.specs.Grammar.{RequestHead}
use Rattle.values.specs.declared.refusal.Refusal.{Refusal}
use Rattle.values.specs.declared.refusal.Refusal.TheVariants.{BadHead, NoRoute, WrongMethod}
use Rattle.values.specs.declared.refusal.Refusal.TheVariants.{LengthRequired, TooLong, ShortBody}
use Rattle.http_requests.specs.declared.resource.Resource.{Resource}
use Rattle.http_requests.specs.Heads.{IsGood, lengths, is_coded}
use Rattle.values.specs.Names.{is_name}
use Rattle.values.specs.Refusals.{refusal_number}
use Rattle.http_requests.specs.Paths.{Path, message, resource, IsPath, path_text}

-- a refusal, a GET of a resource, or a POST of a message
pub data Ask : Type 0 where
  refused : Refusal → Ask
  get : Resource → Ask
  post : (caller key message : List ℕ) → Ask

-- the meaning of a POST, from the lengths and the coding that the head states and the bytes after the head
abbrev pub posted : List ℕ → List ℕ → List (List ℕ) → Bool → List ℕ → Ask
posted caller key [] coded rest = refused LengthRequired
posted caller key (digits ∷ more) coded rest =
    if coded then refused LengthRequired
    else if nat_lt 16384 (digits_value 10 digits) then refused TooLong
    else if nat_lt (length rest) (digits_value 10 digits) then refused ShortBody
    else post caller key (take (digits_value 10 digits) rest)

-- what is asked at a path, depending on the method
abbrev pub asked_at : Path → RequestHead → List ℕ → Ask
asked_at (message caller key) h rest =
    if bytes_eq h.method (codes "POST") then posted caller key (lengths h) (is_coded h) rest else refused WrongMethod
asked_at (resource r) h rest = if bytes_eq h.method (codes "GET") then get r else refused WrongMethod

-- what a head and the bytes after it ask for
abbrev pub HeadAsks : RequestHead → List ℕ → Ask → Type 0
HeadAsks h rest a =
    (((p : Path) → IsPath p → h.target ≢ path_text p) × (a ≡ refused NoRoute))
    ⊎ ((p : Path) × IsPath p × (h.target ≡ path_text p) × (a ≡ asked_at p h rest))

-- what the bytes of a request ask for
abbrev pub Asks : List ℕ → Ask → Type 0
Asks bytes a =
    (((h : RequestHead) (rest : List ℕ) → ¬ (IsGood bytes h rest)) × (a ≡ refused BadHead))
    ⊎ ((h : RequestHead) × (rest : List ℕ) × IsGood bytes h rest × HeadAsks h rest a)

-- a refusal is one of the first six, names and serials are valid, and a message is no longer than a body may be
abbrev pub IsLawfulAsk : Ask → Type 0
IsLawfulAsk (refused r) = refusal_number r ≤ 6
IsLawfulAsk (get r) = IsPath (resource r)
IsLawfulAsk (post caller key text) = IsTrue (is_name caller) × IsTrue (is_name key) × (length text ≤ 16384)
