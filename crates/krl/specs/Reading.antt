-- Results of the reader's steps.
use Rattle.std.specs.Prelude.{◌≡◌, ℕ, List, ◌++◌, Bool, true, MatchOption}
use Rattle.std.specs.List.{list_any, flat_map, AllByRecursion}
use Rattle.krl.specs.declared.krl_fault.KrlFault.{KrlFault}
use Rattle.krl.specs.declared.krl_fault.KrlFault.TheVariants.{Unsupported, BadSection}
use Rattle.krl.specs.Format.{Part, part_type, part_data, part_text, names, Section, section_type}
use Rattle.krl.specs.Format.{section_data, section_text, section_revokes, is_supported_section}
use Rattle.krl.specs.Format.{IsSectionContent, RevocationList, is_supported, revokes, IsCut}
use Rattle.krl.specs.Faults.{IsReadPart, NoPart, is_part_type, refused_unless, IsReadSection}

-- the bytes are the joined texts of items, and the result is whether one of them passes the test
abbrev pub AreItems : {X : Type 0} → (X → List ℕ) → (X → Type 0) → (X → Bool) → List ℕ → Bool → Type 0
AreItems {X} text Is test bytes b =
    (items : List X) × AllByRecursion Is items × (bytes ≡ flat_map text items) × (b ≡ list_any test items)

-- a part with this type and data, and whether it names the serial or the key id
abbrev pub ReadsPartData : ℕ → List ℕ → ℕ → List ℕ → Bool → Type 0
ReadsPartData kind data_bytes serial key_id b =
    (p : Part) × IsReadPart p × (part_type p ≡ kind) × (part_data p ≡ data_bytes) × (b ≡ names serial key_id p)

-- no supported part has this type and data, and this is the fault
abbrev pub RefusesPartData : ℕ → List ℕ → KrlFault → Type 0
RefusesPartData kind data_bytes f =
    MatchOption (refused_unless (is_part_type kind) (Unsupported kind))
    (NoPart (kind, data_bytes) × (f ≡ BadSection)) (λ g. f ≡ g)

-- a part at the front, the bytes after it, and whether it names the serial or the key id
abbrev pub ReadsPart : List ℕ → List ℕ → ℕ → List ℕ → Bool → Type 0
ReadsPart old new serial key_id b = (p : Part) × IsReadPart p × (old ≡ part_text p ++ new) × (b ≡ names serial key_id p)

-- a certificates section with this data, and whether it revokes the certificate
abbrev pub ReadsCertificates : List ℕ → List ℕ → ℕ → List ℕ → Bool → Type 0
ReadsCertificates data_bytes blob serial key_id b =
    (s : Section) × IsSectionContent s × (is_supported_section s ≡ true) × (section_type s ≡ 1)
    × (section_data s ≡ data_bytes) × (b ≡ section_revokes blob serial key_id s)

-- a section at the front, the bytes after it, and whether it revokes the certificate
abbrev pub ReadsSection : List ℕ → List ℕ → List ℕ → ℕ → List ℕ → Bool → Type 0
ReadsSection old new blob serial key_id b =
    (s : Section) × IsReadSection s × (old ≡ section_text s ++ new) × (b ≡ section_revokes blob serial key_id s)

-- the bytes divided into a supported list, and whether it revokes the certificate
pub record ReadsList (bytes blob : List ℕ) (serial : ℕ) (key_id : List ℕ) (b : Bool) : Type 0 where
  pub list : RevocationList
  pub cut : IsCut bytes list
  pub supported : is_supported list ≡ true
  pub revoked : b ≡ revokes blob serial key_id list
