-- Texts that can be cut off the front of bytes in only one way.
use Rattle.krl.proofs.Words.{AllByRecursion, Certificates, Header, IsCut, IsHeader, IsPart, IsSection, IsString, IsU32}
use Rattle.krl.proofs.Words.{IsU64, KeyIds, List, OtherPart, OtherSection, Part, Range, RevocationList, Section}
use Rattle.krl.proofs.Words.{Serials, [], ap, append_assoc, arith, flat_map, header_text, lit<, magic, part_data}
use Rattle.krl.proofs.Words.{part_text, part_type, refl, section_data, section_text, string_text, sym, u32_text}
use Rattle.krl.proofs.Words.{u64_text, w32, ℕ, ◌++◌, ◌^◌, ◌∙◌, ◌∷◌, ◌≡◌, ◌≢◌}
use Rattle.std.specs.Int.{w64}
use Rattle.wire.proofs.Laws.{wide32, wide64, number_unique, string_unique}
use Rattle.krl.specs.Format.{section_type}
use Rattle.krl.specs.Faults.{Tagged, text_of, HasString}

-- Texts that aren't empty, and that can be cut off the front of bytes in only one way.
pub record AreTexts {X : Type 0} (text : X → List ℕ) (Is : X → Type 0) : Type 0 where
  pub some : (x : X) (r : List ℕ) → text x ++ r ≢ []
  pub same : (x y : X) (r s : List ℕ) → Is x → Is y → text x ++ r ≡ text y ++ s → (x ≡ y) × (r ≡ s)

pub u32_texts : AreTexts u32_text IsU32
u32_texts = record { some = λ x r e. absurd cc; same = number_unique w32 (2 ^ 32) wide32 }

pub u64_texts : AreTexts u64_text IsU64
u64_texts = record { some = λ x r e. absurd cc; same = number_unique w64 (2 ^ 64) wide64 }

pub string_texts : AreTexts string_text IsString
string_texts = record { some = λ x r e. absurd cc; same = string_unique }

tail_and_head : (a b : ℕ) (xs ys : List ℕ) → a ∷ xs ≡ b ∷ ys → (xs ≡ ys) × (a ≡ b)
tail_and_head a b xs ys e = (cc, cc)

pub tagged_texts : AreTexts text_of HasString
tagged_texts = record {
  some = λ x r e. absurd cc;
  same = λ x y r s p q e.
      let parts = tail_and_head x.0 y.0 (string_text x.1 ++ r) (string_text y.1 ++ s) e in
      let tail = string_unique x.1 y.1 r s p q parts.0 in
      ((λ i. (parts.1 i, tail.0 i)), tail.1);
}

-- joined texts are those of only one list
pub items_unique : {X : Type 0} {text : X → List ℕ} {Is : X → Type 0} → AreTexts text Is → (xs ys : List X)
    → AllByRecursion Is xs → AllByRecursion Is ys → flat_map text xs ≡ flat_map text ys → xs ≡ ys
items_unique texts [] [] p q e = refl
items_unique {text = text} texts [] (y ∷ ys) p q e = absurd (texts.some y (flat_map text ys) (sym e))
items_unique {text = text} texts (x ∷ xs) [] p q e = absurd (texts.some x (flat_map text xs) e)
items_unique {text = text} texts (x ∷ xs) (y ∷ ys) p q e =
    let both = texts.same x y (flat_map text xs) (flat_map text ys) p.0 q.0 e in
    let rest = items_unique texts xs ys p.1 q.1 both.1 in
    λ i. both.0 i ∷ rest i

-- ---- parts

part_from : (p q : Part) → IsPart p → IsPart q → part_type p ≡ part_type q → part_data p ≡ part_data q → p ≡ q
part_from (Serials ns) (Serials ms) p q t d = ap Serials (items_unique u64_texts ns ms p.0 q.0 d)
part_from (Serials ns) (Range s) p q t d = absurd (omega arith)
part_from (Serials ns) (KeyIds js) p q t d = absurd (omega arith)
part_from (Serials ns) (OtherPart u b) p q t d = absurd (q.0.0 (sym t))
part_from (Range r) (Serials ms) p q t d = absurd (omega arith)
part_from (Range r) (Range s) p q t d =
    let lo = u64_texts.same r.lo s.lo (u64_text r.hi) (u64_text s.hi) p.0.0 q.0.0 d in
    let hi = u64_texts.same r.hi s.hi [] [] p.0.1 q.0.1 (ap (λ (x : List ℕ). x ++ []) lo.1) in
    λ i. Range (record { lo = lo.0 i; hi = hi.0 i })
part_from (Range r) (KeyIds js) p q t d = absurd (omega arith)
part_from (Range r) (OtherPart u b) p q t d = absurd (q.0.1 (sym t))
part_from (KeyIds is) (Serials ms) p q t d = absurd (omega arith)
part_from (KeyIds is) (Range s) p q t d = absurd (omega arith)
part_from (KeyIds is) (KeyIds js) p q t d = ap KeyIds (items_unique string_texts is js p.0.1 q.0.1 d)
part_from (KeyIds is) (OtherPart u b) p q t d = absurd (q.0.2 (sym t))
part_from (OtherPart u b) (Serials ms) p q t d = absurd (p.0.0 t)
part_from (OtherPart u b) (Range s) p q t d = absurd (p.0.1 t)
part_from (OtherPart u b) (KeyIds js) p q t d = absurd (p.0.2 t)
part_from (OtherPart u b) (OtherPart v c) p q t d = λ i. OtherPart (t i) (d i)

pub part_texts : AreTexts part_text IsPart
part_texts = record {
  some = λ x r e. absurd cc;
  same = λ x y r s p q e.
      let both = tagged_texts.same (part_type x, part_data x) (part_type y, part_data y) r s p.1 q.1 e in
      (part_from x y p q (ap (λ (t : Tagged). t.0) both.0) (ap (λ (t : Tagged). t.1) both.0), both.1);
}

-- ---- sections

section_from : (p q : Section) → IsSection p → IsSection q → section_type p ≡ section_type q
    → section_data p ≡ section_data q → p ≡ q
section_from (Certificates ca r ps) (Certificates da s qs) p q t d =
    let front = string_unique ca da (string_text r ++ flat_map part_text ps)
    (string_text s ++ flat_map part_text qs) p.0.0 q.0.0 d in
    let mid = string_unique r s (flat_map part_text ps) (flat_map part_text qs) p.0.1 q.0.1 front.1 in
    let parts = items_unique part_texts ps qs p.0.3 q.0.3 mid.1 in
    λ i. Certificates (front.0 i) (mid.0 i) (parts i)
section_from (Certificates ca r ps) (OtherSection u b) p q t d = absurd (q.0 (sym t))
section_from (OtherSection u b) (Certificates da s qs) p q t d = absurd (p.0 t)
section_from (OtherSection u b) (OtherSection v c) p q t d = λ i. OtherSection (t i) (d i)

pub section_texts : AreTexts section_text IsSection
section_texts = record {
  some = λ x r e. absurd cc;
  same = λ x y r s p q e.
      let both = tagged_texts.same (section_type x, section_data x) (section_type y, section_data y) r s p.1 q.1 e in
      (section_from x y p q (ap (λ (t : Tagged). t.0) both.0) (ap (λ (t : Tagged). t.1) both.0), both.1);
}

-- ---- headers

-- a header's fields, and what follows it
pub header_fields : (h : Header) (r : List ℕ)
    → header_text h ++ r ≡ u64_text magic
    ++ (u32_text 1
    ++ (u64_text h.version
    ++ (u64_text h.date ++ (u64_text 0 ++ (string_text h.reserved ++ (string_text h.comment ++ r))))))
header_fields h r = simp append_assoc

pub header_unique : (h k : Header) (r s : List ℕ) → IsHeader h → IsHeader k → header_text h ++ r ≡ header_text k ++ s
    → (h ≡ k) × (r ≡ s)
header_unique h k r s p q e =
    let e0 = sym (header_fields h r) ∙ e ∙ header_fields k s in
    let e1 = u64_texts.same magic magic _ _ (lit< tt) (lit< tt) e0 in
    let e2 = u32_texts.same 1 1 _ _ (lit< tt) (lit< tt) e1.1 in
    let e3 = u64_texts.same h.version k.version _ _ p.0 q.0 e2.1 in
    let e4 = u64_texts.same h.date k.date _ _ p.1 q.1 e3.1 in
    let e5 = u64_texts.same 0 0 _ _ (lit< tt) (lit< tt) e4.1 in
    let e6 = string_texts.same h.reserved k.reserved _ _ p.2 q.2 e5.1 in
    let e7 = string_texts.same h.comment k.comment r s p.3 q.3 e6.1 in
    (λ i. record { version = e3.0 i; date = e4.0 i; reserved = e6.0 i; comment = e7.0 i }, e7.1)

-- bytes can be divided in only one way
pub cut_unique : (bytes : List ℕ) (l m : RevocationList) → IsCut bytes l → IsCut bytes m → l ≡ m
cut_unique bytes l m p q =
    let front = header_unique l.header m.header _ _ p.header q.header (sym p.text ∙ q.text) in
    let sections = items_unique section_texts l.sections m.sections p.sections q.sections front.1 in
    λ i. record { header = front.0 i; sections = sections i }
