-- The key revocation list: OpenSSH PROTOCOL.krl, its header, certificate sections, serial lists, serial ranges and
-- key id lists.
use Rattle.std.specs.Prelude.{◌≡◌, ◌≢◌, ◌==◌, ℕ, ◌<◌, ◌^◌, List, [], ◌∷◌, ◌++◌, length, Bool, true, false, ◌&&◌, ◌||◌}
use Rattle.std.specs.List.{list_any, list_all, flat_map, AllByRecursion}
use Rattle.std.specs.Str.{bytes_eq}
use Rattle.wire.specs.Texts.{u32_text, u64_text, string_text}
use Rattle.krl.specs.declared.run.Run.{Run}
use Rattle.krl.specs.Sets.{is_within, is_among}

-- a part of a certificates section
pub data Part : Type 0 where
  Serials : List ℕ → Part
  Range : Run → Part
  KeyIds : List (List ℕ) → Part
  OtherPart : ℕ → List ℕ → Part

-- KRL_SECTION_CERT_SERIAL_LIST, KRL_SECTION_CERT_SERIAL_RANGE, KRL_SECTION_CERT_KEY_ID, or another type
abbrev pub part_type : Part → ℕ
part_type (Serials ns) = 0x20
part_type (Range r) = 0x21
part_type (KeyIds ids) = 0x23
part_type (OtherPart t data_bytes) = t

-- a uint64 for each serial; uint64 min and max; a string for each key id
abbrev pub part_data : Part → List ℕ
part_data (Serials ns) = flat_map u64_text ns
part_data (Range r) = u64_text r.lo ++ u64_text r.hi
part_data (KeyIds ids) = flat_map string_text ids
part_data (OtherPart t data_bytes) = data_bytes

-- byte type, string data
abbrev pub tagged_text : ℕ → List ℕ → List ℕ
tagged_text t data_bytes = t ∷ string_text data_bytes

abbrev pub part_text : Part → List ℕ
part_text p = tagged_text (part_type p) (part_data p)

-- a section: a certificates section with the CA key, the reserved string and the parts, or another type with its data
pub data Section : Type 0 where
  Certificates : List ℕ → List ℕ → List Part → Section
  OtherSection : ℕ → List ℕ → Section

-- KRL_SECTION_CERTIFICATES, or another type
abbrev pub section_type : Section → ℕ
section_type (Certificates ca reserved parts) = 1
section_type (OtherSection t data_bytes) = t

abbrev pub section_data : Section → List ℕ
section_data (Certificates ca reserved parts) = string_text ca ++ (string_text reserved ++ flat_map part_text parts)
section_data (OtherSection t data_bytes) = data_bytes

abbrev pub section_text : Section → List ℕ
section_text s = tagged_text (section_type s) (section_data s)

-- the header's values: krl_version, generated_date, reserved and comment
pub record Header : Type 0 where
  pub version : ℕ
  pub date : ℕ
  pub reserved : List ℕ
  pub comment : List ℕ

-- "SSHKRL\n\0" as a number
abbrev pub magic : ℕ
magic = 0x5353484b524c0a00

-- uint64 KRL_MAGIC, uint32 KRL_FORMAT_VERSION, uint64 krl_version, uint64 generated_date, uint64 flags,
-- string reserved, string comment
abbrev pub header_text : Header → List ℕ
header_text h =
    u64_text magic ++ (u32_text 1 ++ (u64_text h.version ++ (u64_text h.date ++ (u64_text 0
    ++ (string_text h.reserved ++ string_text h.comment)))))

pub record RevocationList : Type 0 where
  pub header : Header
  pub sections : List Section

abbrev pub krl_text : RevocationList → List ℕ
krl_text l = header_text l.header ++ flat_map section_text l.sections

-- ---- well-formed lists

-- a string's length is a uint32
abbrev pub IsString : List ℕ → Type 0
IsString b = length b < 2 ^ 32

-- 64-bit serials; at least one key id; a type other than these three
abbrev pub IsPartContent : Part → Type 0
IsPartContent (Serials ns) = AllByRecursion (λ n. n < 2 ^ 64) ns
IsPartContent (Range r) = (r.lo < 2 ^ 64) × (r.hi < 2 ^ 64)
IsPartContent (KeyIds ids) = (ids ≢ []) × AllByRecursion IsString ids
IsPartContent (OtherPart t data_bytes) = (t ≢ 0x20) × (t ≢ 0x21) × (t ≢ 0x23)

abbrev pub IsPart : Part → Type 0
IsPart p = IsPartContent p × IsString (part_data p)

-- at least one part; a type other than that of certificates sections
abbrev pub IsSectionContent : Section → Type 0
IsSectionContent (Certificates ca reserved parts) =
    IsString ca × IsString reserved × (parts ≢ []) × AllByRecursion IsPart parts
IsSectionContent (OtherSection t data_bytes) = t ≢ 1

abbrev pub IsSection : Section → Type 0
IsSection s = IsSectionContent s × IsString (section_data s)

abbrev pub IsHeader : Header → Type 0
IsHeader h = (h.version < 2 ^ 64) × (h.date < 2 ^ 64) × IsString h.reserved × IsString h.comment

-- the bytes are the list's text: a header, sections and their parts
pub record IsCut (bytes : List ℕ) (l : RevocationList) : Type 0 where
  pub header : IsHeader l.header
  pub sections : AllByRecursion IsSection l.sections
  pub text : bytes ≡ krl_text l

-- ---- supported lists

abbrev pub is_supported_part : Part → Bool
is_supported_part (OtherPart t data_bytes) = false
is_supported_part _ = true

abbrev pub is_supported_section : Section → Bool
is_supported_section (Certificates ca reserved parts) = list_all is_supported_part parts
is_supported_section (OtherSection t data_bytes) = false

-- every section is a certificates section, and every part has one of the three types
abbrev pub is_supported : RevocationList → Bool
is_supported l = list_all is_supported_section l.sections

-- ---- what lists revoke

-- whether the part names the serial or the key id
abbrev pub names : ℕ → List ℕ → Part → Bool
names serial key_id (Serials ns) = is_among ns serial
names serial key_id (Range r) = is_within serial r
names serial key_id (KeyIds ids) = list_any (λ i. bytes_eq i key_id) ids
names serial key_id (OtherPart t data_bytes) = false

-- an empty CA key means every CA
abbrev pub is_for : List ℕ → List ℕ → Bool
is_for blob ca = length ca == 0 || bytes_eq ca blob

abbrev pub section_revokes : List ℕ → ℕ → List ℕ → Section → Bool
section_revokes blob serial key_id (Certificates ca reserved parts) =
    is_for blob ca && list_any (names serial key_id) parts
section_revokes blob serial key_id (OtherSection t data_bytes) = false

-- whether the list revokes the certificate with this serial and key id under the CA with this blob
abbrev pub revokes : List ℕ → ℕ → List ℕ → RevocationList → Bool
revokes blob serial key_id l = list_any (section_revokes blob serial key_id) l.sections
