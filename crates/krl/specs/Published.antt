-- The list that is written: the shortest serial parts, and a section for each CA that has something revoked.
use Rattle.std.specs.Prelude.{◌≡◌, ◌==◌, ℕ, ◌+◌, ◌≤◌, List, [], ◌∷◌, ◌++◌, length, Bool, true}
use Rattle.std.specs.Prelude.{false, ◌&&◌, ◌||◌, ◌⊎◌, ◌≢◌, nat_lt, nat_le, if◌then◌else◌}
use Rattle.std.specs.List.{list_any, list_all, flat_map}
use Rattle.std.specs.Str.{bytes_eq}
use Rattle.lines.specs.Keys.{key_blob}
use Rattle.krl.specs.declared.run.Run.{Run}
use Rattle.krl.specs.declared.ca_part.CaPart.{CaPart}
use Rattle.krl.specs.declared.krl_head.KrlHead.{KrlHead}
use Rattle.krl.specs.Sets.{is_within, is_among, contains}
pub use Rattle.krl.specs.Sets.{IsMemberOf}
use Rattle.krl.specs.Format.{Part, Serials, Range, KeyIds, OtherPart, part_text, Section, Certificates, section_data}
use Rattle.krl.specs.Format.{section_text, Header, RevocationList, krl_text, IsCut, is_supported, revokes}

-- ---- serials

-- whether the part names the serial
abbrev pub names_serial : ℕ → Part → Bool
names_serial n (Serials ns) = is_among ns n
names_serial n (Range r) = is_within n r
names_serial n (KeyIds ids) = false
names_serial n (OtherPart t data_bytes) = false

-- the set of serials that parts name
abbrev pub named_set : List Part → ℕ → Bool
named_set ps n = list_any (names_serial n) ps

-- the length of parts in bytes, with types and lengths
abbrev pub parts_length : List Part → ℕ
parts_length ps = length (flat_map part_text ps)

-- whether the run has only one or two serials
abbrev pub is_short : Run → Bool
is_short r = nat_lt r.hi (r.lo + 2)

abbrev pub serials_of : Run → List ℕ
serials_of r = if r.lo == r.hi then r.lo ∷ [] else r.lo ∷ r.hi ∷ []

-- the serials of the short runs
abbrev pub listed : List Run → List ℕ
listed [] = []
listed (r ∷ rs) = if is_short r then serials_of r ++ listed rs else listed rs

-- the long runs
abbrev pub ranges : List Run → List Part
ranges [] = []
ranges (r ∷ rs) = if is_short r then ranges rs else Range r ∷ ranges rs

-- a part that lists the serials, if there are any
abbrev pub serial_list : List ℕ → List Part
serial_list [] = []
serial_list (n ∷ ns) = Serials (n ∷ ns) ∷ []

-- the parts that name the serials of runs: a list of those of the short runs, and the long runs as ranges
abbrev pub serial_parts : List Run → List Part
serial_parts rs = serial_list (listed rs) ++ ranges rs

-- the length of these parts
abbrev pub serial_length : List Run → ℕ
serial_length rs = parts_length (serial_parts rs)

-- the parts name the set of the runs, and no other parts that name this set have fewer bytes
pub record AreShortest (parts : List Part) (rs : List Run) : Type 0 where
  pub names : (n : ℕ) → named_set parts n ≡ contains rs n
  pub shortest : (others : List Part) → ((n : ℕ) → named_set others n ≡ contains rs n)
      → parts_length parts ≤ parts_length others

-- ---- lists

-- a part that lists the key ids, if there are any
abbrev pub key_id_parts : List (List ℕ) → List Part
key_id_parts [] = []
key_id_parts (i ∷ ids) = KeyIds (i ∷ ids) ∷ []

-- whether nothing is revoked under the CA
abbrev pub is_idle : List (List ℕ) → CaPart → Bool
is_idle ids p = length p.runs == 0 && length ids == 0

abbrev pub ca_section : List (List ℕ) → CaPart → Section
ca_section ids p = Certificates (key_blob p.ca) [] (serial_parts p.runs ++ key_id_parts ids)

-- the section of a CA that has revoked serials, or of every CA once a key id is revoked
abbrev pub sections_of : List (List ℕ) → CaPart → List Section
sections_of ids p = if is_idle ids p then [] else ca_section ids p ∷ []

abbrev pub published_sections : List CaPart → List (List ℕ) → List Section
published_sections cas ids = flat_map (sections_of ids) cas

abbrev pub published_header : KrlHead → Header
published_header head = record { version = head.version; date = head.date; reserved = []; comment = [] }

abbrev pub composed_list : KrlHead → List CaPart → List (List ℕ) → RevocationList
composed_list head cas ids = record { header = published_header head; sections = published_sections cas ids }

abbrev pub published_text : KrlHead → List CaPart → List (List ℕ) → List ℕ
published_text head cas ids = krl_text (composed_list head cas ids)

-- the text's length, which doesn't depend on the version and the date: a header of 44 bytes, and the sections
abbrev pub published_length : List CaPart → List (List ℕ) → ℕ
published_length cas ids = 44 + length (flat_map section_text (published_sections cas ids))

-- whether the length of the data of the CA's section, if it has one, fits in 32 bits
abbrev pub part_fits : List (List ℕ) → CaPart → Bool
part_fits ids p = is_idle ids p || nat_le (length (section_data (ca_section ids p))) 4294967295

abbrev pub fits : List CaPart → List (List ℕ) → Bool
fits cas ids = list_all (part_fits ids) cas

-- whether the key id is in the list
abbrev pub is_listed_key_id : List (List ℕ) → List ℕ → Bool
is_listed_key_id ids key_id = list_any (λ i. bytes_eq i key_id) ids

-- no two parts have the same CA
abbrev pub AreDistinctCas : List CaPart → Type 0
AreDistinctCas [] = Unit {0}
AreDistinctCas (p ∷ ps) = ((q : CaPart) → IsMemberOf q ps → q.ca ≢ p.ca) × AreDistinctCas ps

-- the list revokes exactly what the CA parts and key ids name
pub record RevokesExactly (l : RevocationList) (cas : List CaPart) (ids : List (List ℕ)) : Type 0 where
  -- under a CA that has a part: its serials, and each of the key ids
  pub own : (p : CaPart) → IsMemberOf p cas → (serial : ℕ) (key_id : List ℕ)
      → revokes (key_blob p.ca) serial key_id l ≡ (contains p.runs serial || is_listed_key_id ids key_id)
  -- under any other blob: nothing
  pub others : (blob : List ℕ) → ((p : CaPart) → IsMemberOf p cas → key_blob p.ca ≢ blob)
      → (serial : ℕ) (key_id : List ℕ) → revokes blob serial key_id l ≡ false

-- the bytes can be divided in only one way, as this list, which is supported
pub record AreOnly (bytes : List ℕ) (l : RevocationList) : Type 0 where
  pub cut : IsCut bytes l
  pub one : (m : RevocationList) → IsCut bytes m → m ≡ l
  pub supported : is_supported l ≡ true
