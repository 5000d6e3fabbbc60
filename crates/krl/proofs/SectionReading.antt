-- Reading parts, sections and lists.
use Rattle.krl.proofs.Words.{AllByRecursion, Bool, Certificates, CertificatesFault, FieldFault, FirstFault, Header}
use Rattle.krl.proofs.Words.{IfNone, IfOk, IfSome, IsCut, IsHeader, IsPart, IsReadPart, IsReadSection, IsSection}
use Rattle.krl.proofs.Words.{IsString, IsU64, ItemFault, KeyIds, KrlFault, List, MatchOption, None, Option, OtherPart}
use Rattle.krl.proofs.Words.{Part, Range, ReadsList, Result, RevocationList, Run, Section, SectionFault, Serials, Some}
use Rattle.krl.proofs.Words.{[], ap, arith, bytes_eq, flat_map, header_text, inl, inr, is_for, is_supported}
use Rattle.krl.proofs.Words.{is_supported_part, is_supported_section, is_within, list_all, names, ne_eqb, part_text}
use Rattle.krl.proofs.Words.{refl, section_revokes, section_text, string_text, subst, sym, true, u64_text, ℕ, ◌&&◌}
use Rattle.krl.proofs.Words.{◌++◌, ◌<◌, ◌==◌, ◌^◌, ◌∙◌, ◌∷◌, ◌≡◌, ◌≢◌}
use Rattle.krl.specs.Reading.{AreItems}
use Rattle.std.specs.Prelude.{IfErr}
use Rattle.std.specs.Option.{ok_or}
use Rattle.krl.specs.declared.krl_fault.KrlFault.TheVariants.{BadSection, Unsupported}
use Rattle.krl.specs.Faults.{NoPart, NothingAfter}
use Rattle.krl.specs.Reading.{ReadsPartData, RefusesPartData, ReadsCertificates}
use Rattle.std.proofs.Common.{Ok, Err}
use Rattle.krl.specs.Format.{tagged_text, revokes}
use Rattle.krl.proofs.Texts.{cut_unique}
use Rattle.krl.proofs.FaultLaws.{no_first_fault, one_first_fault}

-- ---- parts

no_serials : (bytes : List ℕ) → ((ns : List ℕ) → AllByRecursion IsU64 ns → bytes ≢ flat_map u64_text ns)
    → NoPart (0x20, bytes)
no_serials bytes none (Serials ns) h t e = none ns h.0 (sym e)
no_serials bytes none (Range r) h t e = omega arith
no_serials bytes none (KeyIds ids) h t e = omega arith
no_serials bytes none (OtherPart u b) h t e = h.0.0 t

no_range : (bytes : List ℕ) → ((r : Run) → r.lo < 2 ^ 64 → r.hi < 2 ^ 64 → bytes ≢ u64_text r.lo ++ u64_text r.hi)
    → NoPart (0x21, bytes)
no_range bytes none (Serials ns) h t e = omega arith
no_range bytes none (Range r) h t e = none r h.0.0 h.0.1 (sym e)
no_range bytes none (KeyIds ids) h t e = omega arith
no_range bytes none (OtherPart u b) h t e = h.0.1 t

no_key_ids : (bytes : List ℕ)
    → ((ids : List (List ℕ)) → ids ≢ [] → AllByRecursion IsString ids → bytes ≢ flat_map string_text ids)
    → NoPart (0x23, bytes)
no_key_ids bytes none (Serials ns) h t e = omega arith
no_key_ids bytes none (Range r) h t e = omega arith
no_key_ids bytes none (KeyIds ids) h t e = none ids h.0.0 h.0.1 (sym e)
no_key_ids bytes none (OtherPart u b) h t e = h.0.2 t

-- the result of reading a serial list
pub serials_read : (bytes : List ℕ) (serial : ℕ) (key_id : List ℕ) → IsString bytes → (o : Option Bool)
    → IfSome o (AreItems u64_text IsU64 (λ n. serial == n) bytes)
    → IfNone o ((ns : List ℕ) → AllByRecursion IsU64 ns → bytes ≢ flat_map u64_text ns)
    → IfOk (ok_or o BadSection) (ReadsPartData 0x20 bytes serial key_id)
    × IfErr (ok_or o BadSection) (RefusesPartData 0x20 bytes)
serials_read bytes serial key_id fits (Some b) found none = (
  (
    Serials found.0,
    record { lawful = (found.1, subst IsString found.2 fits); supported = refl },
    refl,
    sym found.2,
    found.3,
  ),
  tt,
)
serials_read bytes serial key_id fits None found none = (tt, (no_serials bytes none, refl))

-- the result of reading a range
pub range_read : (bytes : List ℕ) (serial : ℕ) (key_id : List ℕ) → IsString bytes → (o : Option Bool)
    → IfSome o (λ b. (r : Run) × (r.lo < 2 ^ 64) × (r.hi < 2 ^ 64) × (bytes ≡ u64_text r.lo ++ u64_text r.hi)
    × (b ≡ is_within serial r))
    → IfNone o ((r : Run) → r.lo < 2 ^ 64 → r.hi < 2 ^ 64 → bytes ≢ u64_text r.lo ++ u64_text r.hi)
    → IfOk (ok_or o BadSection) (ReadsPartData 0x21 bytes serial key_id)
    × IfErr (ok_or o BadSection) (RefusesPartData 0x21 bytes)
range_read bytes serial key_id fits (Some b) found none = (
  (
    Range found.0,
    record { lawful = ((found.1, found.2), subst IsString found.3 fits); supported = refl },
    refl,
    sym found.3,
    found.4,
  ),
  tt,
)
range_read bytes serial key_id fits None found none = (tt, (no_range bytes none, refl))

-- the result of reading a key id list
pub key_ids_read : (bytes : List ℕ) (serial : ℕ) (key_id : List ℕ) → IsString bytes → (o : Option Bool)
    → IfSome o (λ b. bytes ≢ []) → IfSome o (AreItems string_text IsString (λ i. bytes_eq i key_id) bytes)
    → IfNone o ((ids : List (List ℕ)) → ids ≢ [] → AllByRecursion IsString ids → bytes ≢ flat_map string_text ids)
    → IfOk (ok_or o BadSection) (ReadsPartData 0x23 bytes serial key_id)
    × IfErr (ok_or o BadSection) (RefusesPartData 0x23 bytes)
key_ids_read bytes serial key_id fits (Some b) some found none = (
  (
    KeyIds found.0,
    record {
      lawful =
          ((λ none. some (found.2 ∙ ap (flat_map string_text) none), found.1), subst IsString found.2 fits);
      supported =
          refl;
    },
    refl,
    sym found.2,
    found.3,
  ),
  tt,
)
key_ids_read bytes serial key_id fits None some found none = (tt, (no_key_ids bytes none, refl))

-- ---- sections

lawful_parts : (ps : List Part) → AllByRecursion IsReadPart ps
    → AllByRecursion IsPart ps × (list_all is_supported_part ps ≡ true)
lawful_parts [] h = (tt, refl)
lawful_parts (p ∷ ps) h = let more = lawful_parts ps h.1 in ((h.0.lawful, more.0), rw (h.0.supported) (more.1))

lawful_sections : (ss : List Section) → AllByRecursion IsReadSection ss
    → AllByRecursion IsSection ss × (list_all is_supported_section ss ≡ true)
lawful_sections [] h = (tt, refl)
lawful_sections (s ∷ ss) h = let more = lawful_sections ss h.1 in ((h.0.lawful, more.0), rw (h.0.supported) (more.1))

-- the result of reading a certificates section's data
pub certificates_read : (bytes ca reserved mid rest blob : List ℕ) (serial : ℕ) (key_id : List ℕ) (mine named : Bool)
    → IsString ca → IsString reserved → bytes ≡ string_text ca ++ mid → mid ≡ string_text reserved ++ rest → rest ≢ []
    → AreItems part_text IsReadPart (names serial key_id) rest named → mine ≡ is_for blob ca
    → ReadsCertificates bytes blob serial key_id (mine && named)
certificates_read bytes ca reserved mid rest blob serial key_id mine named p q e g some items is =
    let both = lawful_parts items.0 items.1 in (
      Certificates ca reserved items.0,
      (p, q, (λ none. some (items.2 ∙ ap (flat_map part_text) none)), both.0),
      both.1,
      refl,
      sym (e ∙ ap (λ (m : List ℕ). string_text ca ++ m) (g ∙ ap (λ (r : List ℕ). string_text reserved ++ r) items.2)),
      (λ i. is i && items.3 i),
    )

-- a section of another type
pub other_section : (old new : List ℕ) (kind : ℕ) (bytes : List ℕ) → IsString bytes
    → old ≡ tagged_text kind bytes ++ new → kind ≢ 1 → SectionFault old (Unsupported kind)
other_section old new kind bytes fits e apart = inr ((kind, bytes), new, fits, e, rw (ne_eqb kind 1 apart) refl)

-- a certificates section whose data is refused
pub section_refused : (old new : List ℕ) (kind : ℕ) (bytes : List ℕ) (r : Result Bool KrlFault) → IsString bytes
    → old ≡ tagged_text kind bytes ++ new → kind ≡ 1 → IfErr r (CertificatesFault bytes) → IfErr r (SectionFault old)
section_refused old new kind bytes (Ok b) fits e one bad = tt
section_refused old new kind bytes (Err f) fits e one bad =
    inr ((1, bytes), new, fits, e ∙ ap (λ (t : ℕ). tagged_text t bytes ++ new) one, bad)

-- ---- fields of the header

-- a fault of the field itself stays its fault if more fields follow
pub more_after : {X : Type 0} (text : X → List ℕ) (Is : X → Type 0) (cut : KrlFault) (refusal : X → Option KrlFault)
    (After : X → List ℕ → KrlFault → Type 0) (bytes : List ℕ) (f : KrlFault)
    → FieldFault text Is cut refusal NothingAfter bytes f → FieldFault text Is cut refusal After bytes f
more_after text Is cut refusal After bytes f (inl short) = inl short
more_after text Is cut refusal After bytes f (inr whole) =
    inr (whole.0, whole.1, whole.2, whole.3, none (refusal whole.0) whole.4)
  where
    none : (o : Option KrlFault) → MatchOption o ⊥ (λ g. f ≡ g) → MatchOption o (After whole.0 whole.1 f) (λ g. f ≡ g)
    none None h = absurd h
    none (Some g) h = h

-- the fault of a valid field is the fault after it
pub later : {X : Type 0} (text : X → List ℕ) (Is : X → Type 0) (cut : KrlFault) (refusal : X → Option KrlFault)
    (After : X → List ℕ → KrlFault → Type 0) (x : X) (bytes rest : List ℕ) (f : KrlFault) → Is x
    → bytes ≡ text x ++ rest → refusal x ≡ None → After x rest f → FieldFault text Is cut refusal After bytes f
later text Is cut refusal After x bytes rest f is e fine bad = inr (x, rest, is, e, rw fine bad)

-- ---- lists

pub list_read : (bytes rest blob : List ℕ) (serial : ℕ) (key_id : List ℕ) (h : Header) (r : Result Bool KrlFault)
    → IsHeader h → bytes ≡ header_text h ++ rest
    → IfOk r (AreItems section_text IsReadSection (section_revokes blob serial key_id) rest)
    → IfOk r (ReadsList bytes blob serial key_id)
list_read bytes rest blob serial key_id h (Ok b) is e items =
    let both = lawful_sections items.0 items.1 in
    record {
      list = record { header = h; sections = items.0 };
      cut = record { header = is; sections = both.0; text = e ∙ ap (λ (t : List ℕ). header_text h ++ t) items.2 };
      supported = both.1;
      revoked = items.3;
    }
list_read bytes rest blob serial key_id h (Err f) is e items = tt

pub list_refused : (bytes rest : List ℕ) (h : Header) (r : Result Bool KrlFault) → IsHeader h
    → bytes ≡ header_text h ++ rest
    → IfErr r (ItemFault section_text IsReadSection SectionFault rest) → IfErr r (FirstFault bytes)
list_refused bytes rest h (Ok b) is e bad = tt
list_refused bytes rest h (Err f) is e bad = inr (h, rest, is, e, bad)

pub only_answer : (bytes blob : List ℕ) (serial : ℕ) (key_id : List ℕ) (r : Result Bool KrlFault)
    → IfOk r (ReadsList bytes blob serial key_id) → IfErr r (FirstFault bytes)
    → (l : RevocationList) → IsCut bytes l → is_supported l ≡ true → r ≡ Ok (revokes blob serial key_id l)
only_answer bytes blob serial key_id (Ok b) found fault l cut fine =
    let same = cut_unique bytes found.list l found.cut cut in
    ap Ok (found.revoked ∙ ap (revokes blob serial key_id) same)
only_answer bytes blob serial key_id (Err f) found fault l cut fine = absurd (no_first_fault bytes l f cut fine fault)

pub only_fault : (bytes blob : List ℕ) (serial : ℕ) (key_id : List ℕ) (r : Result Bool KrlFault)
    → IfOk r (ReadsList bytes blob serial key_id) → IfErr r (FirstFault bytes)
    → (f : KrlFault) → FirstFault bytes f → r ≡ Err f
only_fault bytes blob serial key_id (Ok b) found fault f bad =
    absurd (no_first_fault bytes found.list f found.cut found.supported bad)
only_fault bytes blob serial key_id (Err g) found fault f bad = ap Err (one_first_fault bytes g f fault bad)
