-- What a published list means, which bytes are published lists, and when one list forgets nothing of another.
use Rattle.std.specs.Prelude.{◌≡◌, ℕ, ◌<◌, ◌≤◌, ◌^◌, List, [], ◌∷◌, length, Bool, true, false}
use Rattle.std.specs.List.{list_all, list_any, AllByRecursion}
use Rattle.std.specs.Str.{bytes_eq}
use Rattle.std.specs.Ordering.{nat_cmp}
use Rattle.std.specs.Cmp.Lexicographic.{slice_cmp}
use Rattle.std.specs.declared.cmp.Ordering.TheVariants.{Less}
use Rattle.krl.specs.declared.ca_part.CaPart.{CaPart}
use Rattle.krl.specs.declared.krl_head.KrlHead.{KrlHead}
use Rattle.krl.specs.Sets.{AreRuns, contains}
use Rattle.krl.specs.Format.{IsString, RevocationList, revokes, section_data}
use Rattle.krl.specs.Published.{AreDistinctCas, IsMemberOf, ca_section, fits, is_idle, is_listed_key_id, composed_list}
use Rattle.krl.specs.Published.{published_text}

-- the head, the parts of the CAs that have a section, and the key ids
pub record KrlContents : Type 0 where
  pub head : KrlHead
  pub cas : List CaPart
  pub ids : List (List ℕ)

-- the key ids ascend in byte order, and the first comes after `before`
abbrev pub AscendBehind : List ℕ → List (List ℕ) → Type 0
AscendBehind before [] = Unit {0}
AscendBehind before (i ∷ ids) = (slice_cmp nat_cmp before i ≡ Less) × AscendBehind i ids

abbrev pub Ascend : List (List ℕ) → Type 0
Ascend [] = Unit {0}
Ascend (i ∷ ids) = AscendBehind i ids

-- a key of 32 bytes, runs, something that is revoked, and section data whose length fits in 32 bits
pub record IsContentsPart (ids : List (List ℕ)) (p : CaPart) : Type 0 where
  pub key : length p.ca ≡ 32
  pub runs : AreRuns p.runs
  pub busy : is_idle ids p ≡ false
  pub short : IsString (section_data (ca_section ids p))

-- 64-bit numbers, at most eight CAs, all different, and ascending key ids
pub record AreContents (c : KrlContents) : Type 0 where
  pub version : c.head.version < 2 ^ 64
  pub date : c.head.date < 2 ^ 64
  pub few : length c.cas ≤ 8
  pub parts : AllByRecursion (IsContentsPart c.ids) c.cas
  pub distinct : AreDistinctCas c.cas
  pub ascending : Ascend c.ids
  -- if no CA has a section, no key id is written
  pub unwritten : c.cas ≡ [] → c.ids ≡ []

-- the list that is written for these contents
abbrev pub list_of : KrlContents → RevocationList
list_of c = composed_list c.head c.cas c.ids

-- the bytes are the text of these contents
pub record Publishes (bytes : List ℕ) (c : KrlContents) : Type 0 where
  pub lawful : AreContents c
  pub text : bytes ≡ published_text c.head c.cas c.ids

-- a head, CA parts and key ids whose list, once written, can be read back: as above, but a CA may have nothing
-- revoked
pub record AreReadBack (head : KrlHead) (cas : List CaPart) (ids : List (List ℕ)) : Type 0 where
  pub version : head.version < 2 ^ 64
  pub date : head.date < 2 ^ 64
  pub few : length cas ≤ 8
  pub parts : AllByRecursion (λ p. (length p.ca ≡ 32) × AreRuns p.runs) cas
  pub distinct : AreDistinctCas cas
  pub ascending : Ascend ids
  pub fit : fits cas ids ≡ true

-- the bytes are a published list
abbrev pub IsPublished : List ℕ → Type 0
IsPublished bytes = (c : KrlContents) × Publishes bytes c

-- each certificate that the old list revokes under its CA, by its serial or its key id, is revoked by the new one too
abbrev pub ForgetsNothing : RevocationList → RevocationList → Type 0
ForgetsNothing old new =
    (blob : List ℕ) (serial : ℕ) (key_id : List ℕ) → revokes blob serial key_id old ≡ true
    → revokes blob serial key_id new ≡ true

-- the contents revoke the serial under the CA with this key
abbrev pub NamesSerial : KrlContents → List ℕ → ℕ → Type 0
NamesSerial c ca serial = (p : CaPart) × IsMemberOf p c.cas × (p.ca ≡ ca) × (contains p.runs serial ≡ true)

-- the contents revoke the key id under the CA with this key
abbrev pub NamesKeyId : KrlContents → List ℕ → List ℕ → Type 0
NamesKeyId c ca key_id = (p : CaPart) × IsMemberOf p c.cas × (p.ca ≡ ca) × (is_listed_key_id c.ids key_id ≡ true)

-- each pair of CA and serial, and each pair of CA and key id, is in the new contents too
pub record KeepsEachPair (old new : KrlContents) : Type 0 where
  pub serials : (ca : List ℕ) (serial : ℕ) → NamesSerial old ca serial → NamesSerial new ca serial
  pub key_ids : (ca key_id : List ℕ) → NamesKeyId old ca key_id → NamesKeyId new ca key_id

-- the key of each CA that has a section is one of these
abbrev pub are_cas_among : List (List ℕ) → KrlContents → Bool
are_cas_among keys c = list_all (λ p. list_any (λ k. bytes_eq k p.ca) keys) c.cas
