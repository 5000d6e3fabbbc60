-- A published list read from the front: the item at the front of the bytes, and the bytes after it.
use Rattle.std.specs.Prelude.{◌≡◌, ℕ, ◌+◌, List, [], ◌∷◌, ◌++◌, length, take, drop, nat_lt, ◌==◌, if◌then◌else◌}
use Rattle.std.specs.Prelude.{Option, Some, None, find, ◌≢◌, ◌≤◌, true}
use Rattle.std.specs.Option.{option_map}
use Rattle.std.specs.List.{flat_map, AllByRecursion}
use Rattle.std.specs.Str.{bytes_eq}
use Rattle.wire.specs.Texts.{string_text, u32_text, u64_text}
use Rattle.wire.specs.Reading.{string_at, u64_at}
use Rattle.lines.specs.Keys.{key_blob, key_of}
use Rattle.krl.specs.declared.run.Run.{Run}
use Rattle.krl.specs.declared.ca_part.CaPart.{CaPart}
use Rattle.krl.specs.declared.krl_head.KrlHead.{KrlHead}
use Rattle.krl.specs.Sets.{AreRuns, contains}
use Rattle.krl.specs.Format.{IsString, magic, section_text, tagged_text}
use Rattle.krl.specs.Published.{AreDistinctCas, is_short, published_sections}
use Rattle.krl.specs.Contents.{AreContents, Ascend, AscendBehind, KrlContents}
use Rattle.krl.specs.Lengths.{listed_text, range_text}

infixl 10 ◌>>=◌
abbrev pub ◌>>=◌ : {A B : Type 0} → Option A → (A → Option B) → Option B
None >>= f = None
(Some x) >>= f = f x

-- the bytes after `front`, if they begin with it
abbrev pub behind_at : List ℕ → List ℕ → Option (List ℕ)
behind_at front bytes =
    if nat_lt (length bytes) (length front) then None
    else if bytes_eq (take (length front) bytes) front then Some (drop (length front) bytes) else None

-- ---- the header

-- the magic number and the version of the format; the flags, and the empty reserved and comment strings
abbrev pub head_begin : List ℕ
head_begin = u64_text magic ++ u32_text 1

abbrev pub head_end : List ℕ
head_end = u64_text 0 ++ (string_text [] ++ string_text [])

unfoldable pub head_at : List ℕ → Option (KrlHead × List ℕ)
head_at bytes = do
  begun ← behind_at head_begin bytes
  version ← u64_at begun
  date ← u64_at version.1
  rest ← behind_at head_end date.1
  Some (record { version = version.0; date = date.0 }, rest)

-- ---- runs

abbrev pub run_between : ℕ → ℕ → Run
run_between lo hi = record { lo = lo; hi = hi }

-- a run of one serial, or of two if the next serial follows it
abbrev pub short_from : ℕ → List ℕ → Option (ℕ × List ℕ) → Run × List ℕ
short_from lo rest None = (run_between lo lo, rest)
short_from lo rest (Some next) = if next.0 == lo + 1 then (run_between lo next.0, next.1) else (run_between lo lo, rest)

unfoldable pub short_at : List ℕ → Option (Run × List ℕ)
short_at bytes = do
  lo ← u64_at bytes
  Some (short_from lo.0 lo.1 (u64_at lo.1))

-- the type and the length of a range
abbrev pub range_begin : List ℕ
range_begin = 0x21 ∷ u32_text 16

-- a range of at least three serials
unfoldable pub long_at : List ℕ → Option (Run × List ℕ)
long_at bytes = do
  begun ← behind_at range_begin bytes
  lo ← u64_at begun
  hi ← u64_at lo.1
  if is_short (run_between lo.0 hi.0) then None else Some (run_between lo.0 hi.0, hi.1)

-- the lower of a listed short run and a range, with the rest of the list and of the ranges
abbrev pub lower : List ℕ → List ℕ → Option (Run × List ℕ) → Option (Run × List ℕ) → Option (Run × (List ℕ × List ℕ))
lower listed ranges None None = None
lower listed ranges (Some s) None = Some (s.0, (s.1, ranges))
lower listed ranges None (Some l) = Some (l.0, (listed, l.1))
lower listed ranges (Some s) (Some l) =
    if nat_lt s.0.lo l.0.lo then Some (s.0, (s.1, ranges)) else Some (l.0, (listed, l.1))

abbrev pub run_at : List ℕ → List ℕ → Option (Run × (List ℕ × List ℕ))
run_at listed ranges = lower listed ranges (short_at listed) (long_at ranges)

-- the list of the serials of the runs, and their ranges followed by `after`
pub record AreSplit (listed ranges : List ℕ) (rs : List Run) (after : List ℕ) : Type 0 where
  pub short : listed ≡ flat_map listed_text rs
  pub long : ranges ≡ flat_map range_text rs ++ after

-- ---- sections

-- a part of this type, if there is any data
abbrev pub part_if_any : ℕ → List ℕ → List ℕ
part_if_any kind [] = []
part_if_any kind (b ∷ bytes) = tagged_text kind (b ∷ bytes)

-- the data of a part of this type at the front, and the bytes after it; no data if there is no part of this type
abbrev pub some_data : Option (List ℕ × List ℕ) → Option (List ℕ × List ℕ)
some_data None = None
some_data (Some x) = if length x.0 == 0 then None else Some x

abbrev pub data_from : List ℕ → Option (List ℕ) → Option (List ℕ × List ℕ)
data_from bytes None = Some ([], bytes)
data_from bytes (Some rest) = some_data (string_at rest)

abbrev pub part_at : ℕ → List ℕ → Option (List ℕ × List ℕ)
part_at kind bytes = data_from bytes (behind_at (kind ∷ []) bytes)

-- a CA, the list of the serials of its runs, its ranges with what follows them, and the bytes after the section
unfoldable pub section_at : List ℕ → Option ((List ℕ × (List ℕ × List ℕ)) × List ℕ)
section_at bytes = do
  begun ← behind_at (1 ∷ []) bytes
  data_bytes ← string_at begun
  blob ← string_at data_bytes.0
  ca ← key_of blob.0
  rest ← behind_at (string_text []) blob.1
  runs ← part_at 0x20 rest
  Some ((ca, runs), data_bytes.1)

-- the data of a section: the CA's key, an empty reserved string, the list of serials, and the ranges with what follows
-- them
abbrev pub section_bytes : List ℕ → List ℕ → List ℕ → List ℕ
section_bytes ca listed ranges =
    string_text (key_blob ca) ++ (string_text [] ++ (part_if_any 0x20 listed ++ ranges))

-- the list of the serials of the runs; and their ranges, with the list of key ids of this data, if there is any
abbrev pub listed_bytes : CaPart → List ℕ
listed_bytes p = flat_map listed_text p.runs

abbrev pub ranges_bytes : List ℕ → CaPart → List ℕ
ranges_bytes ids p = flat_map range_text p.runs ++ part_if_any 0x23 ids

-- the section of a CA, with this key id data
abbrev pub whole_data : List ℕ → CaPart → List ℕ
whole_data ids p = section_bytes p.ca (listed_bytes p) (ranges_bytes ids p)

abbrev pub whole_text : List ℕ → CaPart → List ℕ
whole_text ids p = tagged_text 1 (whole_data ids p)

-- a key of 32 bytes, runs, something that is revoked, and data whose length fits in 32 bits
pub record IsWhole (ids : List ℕ) (p : CaPart) : Type 0 where
  pub key : length p.ca ≡ 32
  pub runs : AreRuns p.runs
  pub busy : p.runs ≡ [] → ids ≢ []
  pub short : IsString (whole_data ids p)

-- sections of at most eight CAs, with this key id data
pub record AreWhole (sections ids : List ℕ) (cas : List CaPart) : Type 0 where
  pub few : length cas ≤ 8
  pub whole : AllByRecursion (IsWhole ids) cas
  pub text : sections ≡ flat_map (whole_text ids) cas

-- the runs of the CA's first part, as they are written
abbrev pub runs_under : List ℕ → List ℕ → List CaPart → Option (List ℕ × List ℕ)
runs_under ids ca cas = option_map (λ p. (listed_bytes p, ranges_bytes ids p)) (find (λ p. bytes_eq p.ca ca) cas)

-- ascending key ids that come after the last one, if there is one
abbrev pub AscendNext : Option (List ℕ) → List (List ℕ) → Type 0
AscendNext None ids = Ascend ids
AscendNext (Some last) ids = AscendBehind last ids

-- the data of a list of ascending key ids
pub record AreIds (bytes : List ℕ) (ids : List (List ℕ)) : Type 0 where
  pub ascending : Ascend ids
  pub short : AllByRecursion IsString ids
  pub text : bytes ≡ flat_map string_text ids

-- the header and the sections of a published list, and the data of its key ids
pub record AreListed (head : KrlHead) (sections ids : List ℕ) (c : KrlContents) : Type 0 where
  pub lawful : AreContents c
  pub head_is : c.head ≡ head
  pub sections_are : sections ≡ flat_map section_text (published_sections c.cas c.ids)
  pub ids_are : ids ≡ flat_map string_text c.ids

-- the sections of a list, the data of its key ids, the CA parts and the key ids
pub record AreSections (sections bytes : List ℕ) (cas : List CaPart) (ids : List (List ℕ)) : Type 0 where
  pub whole : AreWhole sections bytes cas
  pub distinct : AreDistinctCas cas
  pub key_ids : AreIds bytes ids

-- there is another part, and its runs contain each serial of this part
abbrev pub IsKeptBy : CaPart → Option CaPart → Type 0
IsKeptBy p None = ⊥
IsKeptBy p (Some q) = (n : ℕ) → contains p.runs n ≡ true → contains q.runs n ≡ true

-- the serials of each part are in the other list's part for the same CA
abbrev pub ArePartsKept : List CaPart → List CaPart → Type 0
ArePartsKept cas others = AllByRecursion (λ p. IsKeptBy p (find (λ q. bytes_eq q.ca p.ca) others)) cas
