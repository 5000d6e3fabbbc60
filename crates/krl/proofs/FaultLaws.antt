-- Bytes that can be divided into a supported list have no fault, and no bytes have two first faults.
use Rattle.krl.proofs.Words.{AllByRecursion, Bool, Certificates, CertificatesFault, FieldFault, FirstFault, Header}
use Rattle.krl.proofs.Words.{HeaderFault, IsCut, IsHeader, IsPart, IsReadPart, IsReadSection, IsSection, IsString}
use Rattle.krl.proofs.Words.{ItemFault, KeyIds, KrlFault, List, MatchOption, None, Option, OtherPart, OtherSection}
use Rattle.krl.proofs.Words.{Part, Range, RevocationList, Section, SectionFault, Serials, Some, [], accepted, and_parts}
use Rattle.krl.proofs.Words.{append_assoc, flat_map, header_text, inl, inr, is_supported, is_supported_part}
use Rattle.krl.proofs.Words.{is_supported_section, list_all, lit<, magic, part_data, part_text, part_type, refl}
use Rattle.krl.proofs.Words.{section_data, section_text, string_text, subst, sym, true, ℕ, ◌++◌, ◌∙◌, ◌∷◌, ◌≡◌, ◌≢◌}
use Rattle.krl.specs.declared.krl_fault.KrlFault.TheVariants.{Truncated, BadMagic, BadVersion, BadFlags, Unsupported}
use Rattle.krl.specs.declared.krl_fault.KrlFault.TheVariants.{BadSection}
use Rattle.krl.specs.Faults.{is_part_type, PartFault, PartsFault, NoPart, refused_unless, is_magic, is_one, is_zero}
use Rattle.krl.specs.Faults.{VersionFault, NumberFault, DateFault, FlagsFault, ReservedFault, CommentFault}
use Rattle.krl.specs.Faults.{NothingAfter}
use Rattle.krl.proofs.Items.{goes_on, no_items}
use Rattle.krl.proofs.Texts.{AreTexts, u32_texts, u64_texts, string_texts, tagged_texts, part_texts, section_texts}
use Rattle.krl.proofs.Texts.{header_fields, header_unique}

-- bytes have at most one fault of this kind
abbrev pub IsOne : (List ℕ → KrlFault → Type 0) → Type 0
IsOne Fault = (bytes : List ℕ) (f g : KrlFault) → Fault bytes f → Fault bytes g → f ≡ g

-- ---- one field

one_answer : (o : Option KrlFault) (A B : Type 0) (f g : KrlFault) → (A → B → f ≡ g) → MatchOption o A (λ k. f ≡ k)
    → MatchOption o B (λ k. g ≡ k) → f ≡ g
one_answer None A B f g one a b = one a b
one_answer (Some k) A B f g one a b = a ∙ sym b

module _ {X : Type 0} {text : X → List ℕ} {Is : X → Type 0} (texts : AreTexts text Is) (cut : KrlFault)
    (refusal : X → Option KrlFault) (After : X → List ℕ → KrlFault → Type 0) where
  -- the same value and the same rest
  moved : (x y : X) (r s : List ℕ) (f : KrlFault) → Is x → Is y → text x ++ r ≡ text y ++ s
      → MatchOption (refusal x) (After x r f) (λ g. f ≡ g) → MatchOption (refusal y) (After y s f) (λ g. f ≡ g)
  moved x y r s f p q e =
      let both = texts.same x y r s p q e in
      subst (λ (z : X × List ℕ). MatchOption (refusal z.0) (After z.0 z.1 f) (λ g. f ≡ g)) (λ i. (both.0 i, both.1 i))

  -- a valid field has no fault if none comes after it
  pub no_field_fault : (x : X) (rest bytes : List ℕ) (f : KrlFault) → bytes ≡ text x ++ rest → Is x → refusal x ≡ None
      → (After x rest f → ⊥) → FieldFault text Is cut refusal After bytes f → ⊥
  no_field_fault x rest bytes f e is fine none (inl short) = short.0 x rest is e
  no_field_fault x rest bytes f e is fine none (inr (y, left, lawful, same, bad)) =
      none (rw fine at (moved y x left rest f lawful is (sym same ∙ e) bad))

  -- a field has at most one fault if the same is true of what comes after it
  pub one_field_fault : ((x : X) → IsOne (After x)) → IsOne (FieldFault text Is cut refusal After)
  one_field_fault one bytes f g (inl a) (inl b) = a.1 ∙ sym b.1
  one_field_fault one bytes f g (inl a) (inr b) = absurd (a.0 b.0 b.1 b.2 b.3)
  one_field_fault one bytes f g (inr a) (inl b) = absurd (b.0 a.0 a.1 a.2 a.3)
  one_field_fault one bytes f g (inr a) (inr b) =
      one_answer (refusal a.0) (After a.0 a.1 f) (After a.0 a.1 g) f g (one a.0 a.1 f g) a.4
      (moved b.0 a.0 b.1 a.1 g b.2 a.2 (sym b.3 ∙ a.3) b.4)

-- ---- many items

-- items that have at most one fault, and none if they are valid
pub record IsItems {X : Type 0} (text : X → List ℕ) (Is : X → Type 0) (Fault : List ℕ → KrlFault → Type 0)
    : Type 0 where
  pub texts : AreTexts text Is
  pub none : (x : X) (rest : List ℕ) (f : KrlFault) → Is x → Fault (text x ++ rest) f → ⊥
  pub one : IsOne Fault

module _ {X : Type 0} {text : X → List ℕ} {Is : X → Type 0} {Fault : List ℕ → KrlFault → Type 0}
    (items : IsItems text Is Fault) where
  no_item_fault : (all : List X) (rest : List ℕ) (f : KrlFault) → AllByRecursion Is all → flat_map text all ≡ rest
      → ItemFault text Is Fault rest f → ⊥
  no_item_fault all rest f p e (done, left, q, same, some, bad) =
      let next = goes_on items.texts all done left p q (e ∙ same) some in
      items.none next.0 next.1 f next.2 (subst (λ (b : List ℕ). Fault b f) next.3 bad)

  lawful_fault : (x : X) (xs : List X) (r s : List ℕ) (f : KrlFault) → Is x → s ≡ flat_map text (x ∷ xs) ++ r
      → Fault s f → ⊥
  lawful_fault x xs r s f is e bad = items.none x (flat_map text xs ++ r) f is
      (subst (λ (b : List ℕ). Fault b f) (e ∙ append_assoc (text x) (flat_map text xs) r) bad)

  one_item_fault : (xs ys : List X) (r s : List ℕ) (f g : KrlFault) → AllByRecursion Is xs → AllByRecursion Is ys
      → flat_map text xs ++ r ≡ flat_map text ys ++ s → Fault r f → Fault s g → f ≡ g
  one_item_fault [] [] r s f g p q e a b = items.one r f g a (subst (λ (x : List ℕ). Fault x g) (sym e) b)
  one_item_fault [] (y ∷ ys) r s f g p q e a b = absurd (lawful_fault y ys s r f q.0 e a)
  one_item_fault (x ∷ xs) [] r s f g p q e a b = absurd (lawful_fault x xs r s g p.0 (sym e) b)
  one_item_fault (x ∷ xs) (y ∷ ys) r s f g p q e a b =
      let whole = sym (append_assoc (text x) (flat_map text xs) r) ∙ e ∙ append_assoc (text y) (flat_map text ys) s in
      let both = items.texts.same x y (flat_map text xs ++ r) (flat_map text ys ++ s) p.0 q.0 whole in
      one_item_fault xs ys r s f g p.1 q.1 both.1 a b

  one_items_fault : IsOne (ItemFault text Is Fault)
  one_items_fault bytes f g a b = one_item_fault a.0 b.0 a.1 b.1 f g a.2 b.2 (sym a.3 ∙ b.3) a.5 b.5

-- ---- parts

part_supported : (p : Part) → is_supported_part p ≡ true → is_part_type (part_type p) ≡ true
part_supported (Serials ns) e = refl
part_supported (Range r) e = refl
part_supported (KeyIds ids) e = refl
part_supported (OtherPart t b) e = absurd cc

read_parts : IsItems part_text IsReadPart PartFault
read_parts = record {
  texts = record { some = part_texts.some; same = λ x y r s p q. part_texts.same x y r s p.lawful q.lawful };
  none = λ p rest f is.
      no_field_fault tagged_texts BadSection (λ x. refused_unless (is_part_type x.0) (Unsupported x.0))
      (λ x rest f. NoPart x × (f ≡ BadSection)) (part_type p, part_data p) rest _ f refl is.lawful.1
      (rw (part_supported p is.supported) refl) (λ none. none.0 p is.lawful refl refl);
  one = one_field_fault tagged_texts _ _ (λ x rest f. NoPart x × (f ≡ BadSection)) (λ x rest f g a b. a.1 ∙ sym b.1);
}

-- ---- certificates sections

-- what is valid and supported is read
all_read : {X : Type 0} (Is Read : X → Type 0) (test : X → Bool) → ((x : X) → Is x → test x ≡ true → Read x)
    → (xs : List X) → AllByRecursion Is xs → list_all test xs ≡ true → AllByRecursion Read xs
all_read Is Read test read [] h e = tt
all_read Is Read test read (x ∷ xs) h e =
    let both = and_parts (test x) (list_all test xs) e in
    (read x h.0 both.0, all_read Is Read test read xs h.1 both.1)

no_parts_fault : (ps : List Part) (f : KrlFault) → AllByRecursion IsReadPart ps → ps ≢ []
    → PartsFault (flat_map part_text ps) f → ⊥
no_parts_fault ps f h some (inl none) = no_items part_texts ps some none.0
no_parts_fault ps f h some (inr bad) = no_item_fault read_parts ps _ f h refl bad

-- the text of parts followed by some bytes isn't empty
parts_and_more : (ps : List Part) (r : List ℕ) → r ≢ [] → flat_map part_text ps ++ r ≢ []
parts_and_more [] r some e = some e
parts_and_more (p ∷ ps) r some e = cc

one_parts_fault : IsOne PartsFault
one_parts_fault bytes f g (inl a) (inl b) = a.1 ∙ sym b.1
one_parts_fault bytes f g (inl a) (inr b) = absurd (parts_and_more b.0 b.1 b.4 (sym b.3 ∙ a.0))
one_parts_fault bytes f g (inr a) (inl b) = absurd (parts_and_more a.0 a.1 a.4 (sym a.3 ∙ b.0))
one_parts_fault bytes f g (inr a) (inr b) = one_items_fault read_parts bytes f g a b

-- the fault after the CA's key
abbrev BehindCa : List ℕ → KrlFault → Type 0
BehindCa = FieldFault string_text IsString BadSection accepted (λ _. PartsFault)

no_certificates_fault : (ca reserved : List ℕ) (ps : List Part) (f : KrlFault)
    → IsSection (Certificates ca reserved ps) → list_all is_supported_part ps ≡ true
    → CertificatesFault (section_data (Certificates ca reserved ps)) f → ⊥
no_certificates_fault ca reserved ps f h e =
    no_field_fault string_texts BadSection accepted (λ _. BehindCa) ca _ _ f refl h.0.0 refl
    (no_field_fault string_texts BadSection accepted (λ _. PartsFault) reserved _ _ f refl h.0.1 refl
    (no_parts_fault ps f (all_read IsPart IsReadPart is_supported_part
    (λ p lawful supported. record { lawful = lawful; supported = supported }) ps h.0.3 e) h.0.2))

one_certificates_fault : IsOne CertificatesFault
one_certificates_fault =
    one_field_fault string_texts _ accepted _ (λ _. one_field_fault string_texts _ accepted _ (λ _. one_parts_fault))

-- ---- sections

no_section_fault : (s : Section) (rest : List ℕ) (f : KrlFault) → IsSection s → is_supported_section s ≡ true
    → SectionFault (section_text s ++ rest) f → ⊥
no_section_fault (Certificates ca reserved ps) rest f h e =
    no_field_fault tagged_texts Truncated (λ x. refused_unless (is_one x.0) (Unsupported x.0))
    (λ x _. CertificatesFault x.1) (1, section_data (Certificates ca reserved ps)) rest _ f refl h.1 refl
    (no_certificates_fault ca reserved ps f h e)
no_section_fault (OtherSection t b) rest f h e = absurd cc

read_sections : IsItems section_text IsReadSection SectionFault
read_sections = record {
  texts = record { some = section_texts.some; same = λ x y r s p q. section_texts.same x y r s p.lawful q.lawful };
  none = λ s rest f is. no_section_fault s rest f is.lawful is.supported;
  one = one_field_fault tagged_texts _ _ (λ x _. CertificatesFault x.1) (λ x _. one_certificates_fault x.1);
}

-- ---- the header

abbrev unless : (ℕ → Bool) → KrlFault → ℕ → Option KrlFault
unless test f n = refused_unless (test n) f

no_header_fault : (h : Header) (rest : List ℕ) (f : KrlFault) → IsHeader h → HeaderFault (header_text h ++ rest) f → ⊥
no_header_fault h rest f is =
    no_field_fault u64_texts Truncated (unless is_magic BadMagic) (λ _. VersionFault) magic _ _ f (header_fields h rest)
    (lit< tt) refl
    (no_field_fault u32_texts Truncated (unless is_one BadVersion) (λ _. NumberFault) 1 _ _ f refl (lit< tt) refl
    (no_field_fault u64_texts Truncated accepted (λ _. DateFault) h.version _ _ f refl is.0 refl
    (no_field_fault u64_texts Truncated accepted (λ _. FlagsFault) h.date _ _ f refl is.1 refl
    (no_field_fault u64_texts Truncated (unless is_zero BadFlags) (λ _. ReservedFault) 0 _ _ f refl (lit< tt) refl
    (no_field_fault string_texts Truncated accepted (λ _. CommentFault) h.reserved _ _ f refl is.2 refl
    (no_field_fault string_texts Truncated accepted NothingAfter h.comment rest _ f refl is.3 refl (λ none. none)))))))

one_header_fault : IsOne HeaderFault
one_header_fault =
    one_field_fault u64_texts _ _ _ (λ _. one_field_fault u32_texts _ _ _ (λ _.
    one_field_fault u64_texts _ accepted _ (λ _. one_field_fault u64_texts _ accepted _ (λ _.
    one_field_fault u64_texts _ _ _ (λ _. one_field_fault string_texts _ accepted _ (λ _.
    one_field_fault string_texts _ accepted _ (λ _ rest f g none. absurd none)))))))

-- ---- lists

-- bytes that can be divided into a supported list have no first fault
pub no_first_fault : (bytes : List ℕ) (l : RevocationList) (f : KrlFault) → IsCut bytes l → is_supported l ≡ true
    → FirstFault bytes f → ⊥
no_first_fault bytes l f cut fine (inl bad) =
    no_header_fault l.header _ f cut.header (subst (λ (b : List ℕ). HeaderFault b f) cut.text bad)
no_first_fault bytes l f cut fine (inr (h, rest, is, e, bad)) =
    let both = header_unique l.header h _ rest cut.header is (sym cut.text ∙ e) in
    no_item_fault read_sections l.sections rest f (all_read IsSection IsReadSection is_supported_section
    (λ s lawful supported. record { lawful = lawful; supported = supported }) l.sections cut.sections fine) both.1 bad

-- and no bytes have two
pub one_first_fault : IsOne FirstFault
one_first_fault bytes f g (inl a) (inl b) = one_header_fault bytes f g a b
one_first_fault bytes f g (inl a) (inr b) =
    absurd (no_header_fault b.0 b.1 f b.2 (subst (λ (x : List ℕ). HeaderFault x f) b.3 a))
one_first_fault bytes f g (inr a) (inl b) =
    absurd (no_header_fault a.0 a.1 g a.2 (subst (λ (x : List ℕ). HeaderFault x g) a.3 b))
one_first_fault bytes f g (inr a) (inr b) =
    let both = header_unique a.0 b.0 a.1 b.1 a.2 b.2 (sym a.3 ∙ b.3) in
    one_items_fault read_sections a.1 f g a.4
    (subst (λ (x : List ℕ). ItemFault section_text IsReadSection SectionFault x g) (sym both.1) b.4)
