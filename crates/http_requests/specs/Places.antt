-- What may follow in a head after a place: the remaining bytes, with `count` more header lines.
use Rattle.std.specs.Prelude.{◌≡◌, ℕ, ◌+◌, ◌≤◌, Bool, ◌&&◌, nat_lt, List, [], ◌∷◌, ◌++◌, length, drop, codes, All}
use Rattle.httparse.specs.Ascii.{line_feed, space, digit_zero, colon, del}
use Rattle.httparse.specs.Grammar.{Field, IsField, LineEnd, RequestHead, ReadsRequest, AllPass}
use Rattle.httparse.specs.Grammar.{is_token_byte, is_value_byte, print_end, print_section}
use Rattle.http_requests.specs.declared.growing.Place.{Place}
use Rattle.http_requests.specs.declared.growing.Spot.{Spot}
use Rattle.http_requests.specs.declared.growing.Place.TheVariants.{Start, Method, BeforeTarget, Target, Version}
use Rattle.http_requests.specs.declared.growing.Place.TheVariants.{VersionEnd, Feed, Line, LastFeed, Name, Value}
use Rattle.http_requests.specs.declared.growing.Place.TheVariants.{Whole, Elsewhere}

-- `count` header lines, and the empty line
pub record IsHeaderSection (count : ℕ) (bytes : List ℕ) : Type 0 where
  pub fields : List Field
  pub last : LineEnd
  pub valid : All IsField fields
  pub size : length fields ≡ count
  pub text : bytes ≡ print_section fields last

-- the end of a line, and the bytes after it
pub record IsEnd (count : ℕ) (bytes : List ℕ) : Type 0 where
  pub end : LineEnd
  pub rest : List ℕ
  pub next : IsHeaderSection count rest
  pub text : bytes ≡ print_end end ++ rest

-- the line feed of an end of two bytes, and the bytes after it
pub record IsFeed (count : ℕ) (bytes : List ℕ) : Type 0 where
  pub rest : List ℕ
  pub next : IsHeaderSection count rest
  pub text : bytes ≡ line_feed ∷ rest

-- the rest of a value
pub record IsValue (count : ℕ) (bytes : List ℕ) : Type 0 where
  pub raw : List ℕ
  pub rest : List ℕ
  pub valid : AllPass is_value_byte raw
  pub next : IsEnd count rest
  pub text : bytes ≡ raw ++ rest

-- the rest of a name
pub record IsName (count : ℕ) (bytes : List ℕ) : Type 0 where
  pub name : List ℕ
  pub rest : List ℕ
  pub valid : AllPass is_token_byte name
  pub next : IsValue count rest
  pub text : bytes ≡ name ++ colon ∷ rest

-- the rest of a version after its first `came` bytes
pub record IsVersion (came count : ℕ) (bytes : List ℕ) : Type 0 where
  pub minor : ℕ
  pub rest : List ℕ
  pub valid : minor ≤ 1
  pub next : IsEnd count rest
  pub text : bytes ≡ drop came (codes "HTTP/1.") ++ (digit_zero + minor) ∷ rest

-- a visible ASCII byte
abbrev pub is_visible : ℕ → Bool
is_visible b = nat_lt space b && nat_lt b del

-- the rest of a target of visible bytes: at least `least` of them
pub record IsTarget (least count : ℕ) (bytes : List ℕ) : Type 0 where
  pub target : List ℕ
  pub rest : List ℕ
  pub enough : least ≤ length target
  pub valid : AllPass is_visible target
  pub next : IsVersion 0 count rest
  pub text : bytes ≡ target ++ space ∷ rest

-- the rest of a method: at least `least` bytes
pub record IsMethod (least count : ℕ) (bytes : List ℕ) : Type 0 where
  pub method : List ℕ
  pub rest : List ℕ
  pub enough : least ≤ length method
  pub valid : AllPass is_token_byte method
  pub next : IsTarget 1 count rest
  pub text : bytes ≡ method ++ space ∷ rest

-- these bytes, with `count` more header lines, complete a head from this place (from `Elsewhere`, none do)
abbrev pub MayFollow : Place → ℕ → List ℕ → Type 0
MayFollow Start count bytes = IsMethod 1 count bytes
MayFollow Method count bytes = IsMethod 0 count bytes
MayFollow BeforeTarget count bytes = IsTarget 1 count bytes
MayFollow Target count bytes = IsTarget 0 count bytes
MayFollow (Version came) count bytes = IsVersion came count bytes
MayFollow VersionEnd count bytes = IsEnd count bytes
MayFollow Feed count bytes = IsFeed count bytes
MayFollow Line count bytes = IsHeaderSection count bytes
MayFollow LastFeed count bytes = (count ≡ 0) × (bytes ≡ line_feed ∷ [])
MayFollow Name count bytes = IsName count bytes
MayFollow Value count bytes = IsValue count bytes
MayFollow Whole count bytes = (count ≡ 0) × (bytes ≡ [])
MayFollow Elsewhere count bytes = ⊥

-- the bytes are a head with `lines` header lines
pub record IsHeadOf (lines : ℕ) (bytes : List ℕ) : Type 0 where
  pub head : RequestHead
  pub reads : ReadsRequest bytes head []
  pub size : length head.fields ≡ lines

-- the bytes end at this place, after the start of `lines` header lines: any bytes that may follow complete a head
abbrev pub EndsAt : Place → ℕ → List ℕ → Type 0
EndsAt place lines bytes =
    (count : ℕ) (rest : List ℕ) → MayFollow place count rest → IsHeadOf (lines + count) (bytes ++ rest)

-- the bytes end at the spot
abbrev pub IsAt : Spot → List ℕ → Type 0
IsAt spot bytes = EndsAt spot.place spot.lines bytes

-- this byte leads from one place to another
abbrev pub Leads : Place → ℕ → Place → Type 0
Leads place byte next =
    (count : ℕ) (rest : List ℕ) → MayFollow next count rest → MayFollow place count (byte ∷ rest)

-- this byte begins a header line at the place
abbrev pub BeginsLine : Place → ℕ → Type 0
BeginsLine place byte = (count : ℕ) (rest : List ℕ) → IsName count rest → MayFollow place (1 + count) (byte ∷ rest)
