-- The first fault of a list: the fault after the longest prefix of whole, valid fields, sections and parts.
use Rattle.std.specs.Prelude.{◌≡◌, ◌≢◌, ◌==◌, ℕ, ◌<◌, ◌^◌, List, [], ◌++◌, ◌⊎◌, Bool}
use Rattle.std.specs.Prelude.{true, ◌||◌, Option, Some, None, MatchOption, if◌then◌else◌}
use Rattle.std.specs.List.{flat_map, AllByRecursion}
use Rattle.wire.specs.Texts.{u32_text, u64_text, string_text}
use Rattle.krl.specs.declared.krl_fault.KrlFault.{KrlFault}
use Rattle.krl.specs.declared.krl_fault.KrlFault.TheVariants.{Truncated, BadMagic, BadVersion}
use Rattle.krl.specs.declared.krl_fault.KrlFault.TheVariants.{BadFlags, Unsupported, BadSection}
use Rattle.krl.specs.Format.{Part, part_type, part_data, part_text, tagged_text, Section}
use Rattle.krl.specs.Format.{section_text, Header, magic, header_text, IsString, IsPart}
use Rattle.krl.specs.Format.{IsSection, IsHeader, is_supported_part, is_supported_section}

-- The fault of a field: the field is cut short; or it is whole, and its value is refused; or it is valid, and the fault
-- comes after it.
abbrev pub FieldFault : {X : Type 0} → (X → List ℕ) → (X → Type 0) → KrlFault → (X → Option KrlFault)
    → (X → List ℕ → KrlFault → Type 0) → List ℕ → KrlFault → Type 0
FieldFault {X} text IsValue cut refusal After bytes f =
    (((x : X) (rest : List ℕ) → IsValue x → bytes ≢ text x ++ rest) × (f ≡ cut))
    ⊎ ((x : X) × (rest : List ℕ) × IsValue x × (bytes ≡ text x ++ rest)
    × MatchOption (refusal x) (After x rest f) (λ g. f ≡ g))

-- there is no fault after the field
abbrev pub NothingAfter : {X : Type 0} → X → List ℕ → KrlFault → Type 0
NothingAfter x rest f = ⊥

-- The fault after the longest prefix of valid, supported items.
abbrev pub ItemFault : {X : Type 0} → (X → List ℕ) → (X → Type 0) → (List ℕ → KrlFault → Type 0)
    → List ℕ → KrlFault → Type 0
ItemFault {X} text IsItem Fault bytes f =
    (done : List X) × (rest : List ℕ) × AllByRecursion IsItem done × (bytes ≡ flat_map text done ++ rest)
    × (rest ≢ []) × Fault rest f

abbrev pub IsU32 : ℕ → Type 0
IsU32 n = n < 2 ^ 32

abbrev pub IsU64 : ℕ → Type 0
IsU64 n = n < 2 ^ 64

abbrev pub accepted : {X : Type 0} → X → Option KrlFault
accepted x = None

abbrev pub refused_unless : Bool → KrlFault → Option KrlFault
refused_unless b f = if b then None else Some f

abbrev pub is_magic : ℕ → Bool
is_magic n = n == magic

abbrev pub is_zero : ℕ → Bool
is_zero n = n == 0

abbrev pub is_one : ℕ → Bool
is_one n = n == 1

-- the fault of the header from one of its fields on; a field's value is judged after the whole field was read
abbrev pub CommentFault : List ℕ → KrlFault → Type 0
CommentFault = FieldFault string_text IsString Truncated accepted NothingAfter

abbrev pub ReservedFault : List ℕ → KrlFault → Type 0
ReservedFault = FieldFault string_text IsString Truncated accepted (λ _. CommentFault)

abbrev pub FlagsFault : List ℕ → KrlFault → Type 0
FlagsFault = FieldFault u64_text IsU64 Truncated (λ n. refused_unless (is_zero n) BadFlags) (λ _. ReservedFault)

abbrev pub DateFault : List ℕ → KrlFault → Type 0
DateFault = FieldFault u64_text IsU64 Truncated accepted (λ _. FlagsFault)

abbrev pub NumberFault : List ℕ → KrlFault → Type 0
NumberFault = FieldFault u64_text IsU64 Truncated accepted (λ _. DateFault)

abbrev pub VersionFault : List ℕ → KrlFault → Type 0
VersionFault = FieldFault u32_text IsU32 Truncated (λ n. refused_unless (is_one n) BadVersion) (λ _. NumberFault)

abbrev pub HeaderFault : List ℕ → KrlFault → Type 0
HeaderFault = FieldFault u64_text IsU64 Truncated (λ n. refused_unless (is_magic n) BadMagic) (λ _. VersionFault)

-- the type and the data of a section or a part
abbrev pub Tagged : Type 0
Tagged = ℕ × List ℕ

abbrev pub text_of : Tagged → List ℕ
text_of x = tagged_text x.0 x.1

abbrev pub HasString : Tagged → Type 0
HasString x = IsString x.1

-- no part of this type has this data
abbrev pub NoPart : Tagged → Type 0
NoPart x = (p : Part) → IsPart p → part_type p ≡ x.0 → part_data p ≢ x.1

abbrev pub is_part_type : ℕ → Bool
is_part_type t = t == 0x20 || (t == 0x21 || t == 0x23)

-- a part's type is judged after its data was read
abbrev pub PartFault : List ℕ → KrlFault → Type 0
PartFault =
    FieldFault text_of HasString BadSection (λ x. refused_unless (is_part_type x.0) (Unsupported x.0))
    (λ x rest f. NoPart x × (f ≡ BadSection))

pub record IsReadPart (p : Part) : Type 0 where
  pub lawful : IsPart p
  pub supported : is_supported_part p ≡ true

-- there are no parts, or one has a fault
abbrev pub PartsFault : List ℕ → KrlFault → Type 0
PartsFault bytes f = ((bytes ≡ []) × (f ≡ BadSection)) ⊎ ItemFault part_text IsReadPart PartFault bytes f

abbrev pub CertificatesFault : List ℕ → KrlFault → Type 0
CertificatesFault =
    FieldFault string_text IsString BadSection accepted (λ _.
    FieldFault string_text IsString BadSection accepted (λ _. PartsFault))

-- a section's type is judged after its data was read
abbrev pub SectionFault : List ℕ → KrlFault → Type 0
SectionFault =
    FieldFault text_of HasString Truncated (λ x. refused_unless (is_one x.0) (Unsupported x.0))
    (λ x rest f. CertificatesFault x.1 f)

pub record IsReadSection (s : Section) : Type 0 where
  pub lawful : IsSection s
  pub supported : is_supported_section s ≡ true

-- the first fault of a list
abbrev pub FirstFault : List ℕ → KrlFault → Type 0
FirstFault bytes f =
    HeaderFault bytes f
    ⊎ ((h : Header) × (rest : List ℕ) × IsHeader h × (bytes ≡ header_text h ++ rest)
    × ItemFault section_text IsReadSection SectionFault rest f)
