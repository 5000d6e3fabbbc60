-- Texts of parts and sections, piece by piece.
use Rattle.krl.proofs.Words.{Bool, CaPart, KeyIds, List, None, Option, Result, Run, Serials, Some, Writes, [], ap}
use Rattle.krl.proofs.Words.{append_assoc, arith, ca_section, eqb, false, flat_map, flat_map-append, is_idle, is_short}
use Rattle.krl.proofs.Words.{key_id_length, key_id_parts, length, listed, listed_length, listed_text, ne_eqb, part_text}
use Rattle.krl.proofs.Words.{published_sections, range_text, ranges, refl, same_Some, section_data, section_text}
use Rattle.krl.proofs.Words.{serial_list, serial_parts, string_text, sum_by, sym, true, u32_text, u64_text, writes_as}
use Rattle.krl.proofs.Words.{writes_failed, writes_stop, writes_then, ℕ, ◌++◌, ◌∙◌, ◌∷◌, ◌≡◌, ◌≢◌, ◌≤◌}
use Rattle.std.specs.Prelude.{IsErr, is_ok}
use Rattle.std.specs.Option.{SomeIff}
use Rattle.std.proofs.lemmas.List.{append-nil}
use Rattle.krl.specs.Published.{sections_of}
use Rattle.krl.proofs.LengthLaws.{listed_texts, listed_lengths, range_texts, key_ids_lengths}

-- ---- what calls wrote, one after the other

module _ {S : Type 0} {taken : S → Option (List ℕ)} {failed room : S → ℕ} where
  -- A piece was not written to its end, so the text was not either.
  pub stops : {E : Type 0} (r : Result (Unit {0}) E) {old new : S} (a b : List ℕ) {text : List ℕ} → IsErr r
      → a ++ b ≡ text → Writes taken failed room old new false a → Writes taken failed room old new (is_ok r) text
  stops r a b err e first = writes_failed r _ _ _ err (writes_as e (writes_stop _ _ a b first))

  -- A piece was written, and then the others.
  pub writes_on : {old mid new : S} {ok : Bool} (a b : List ℕ) {text : List ℕ} → a ++ b ≡ text
      → Writes taken failed room old mid true a → Writes taken failed room mid new ok b
      → Writes taken failed room old new ok text
  writes_on a b e first second = writes_as e (writes_then _ _ _ _ a b first second)

-- ---- pieces

-- the number that was returned
value : (o : Option ℕ) (P : Type 0) {v : ℕ} (n : ℕ) → SomeIff o P v → o ≡ Some n → v ≡ n
value None P n h e = absurd cc
value (Some x) P n h e = sym h.1 ∙ same_Some _ _ e

pub short_two : (r : Run) → is_short r ≡ true → r.lo ≢ r.hi → u64_text r.lo ++ u64_text r.hi ≡ listed_text r
short_two r short apart = rw (short, ne_eqb r.lo r.hi apart) refl

pub long_one : (r : Run) → is_short r ≡ false → (0x21 ∷ u32_text 16) ++ (u64_text r.lo ++ u64_text r.hi) ≡ range_text r
long_one r long = rw long refl

list_pieces : (ns : List ℕ) (n : ℕ) (t : List ℕ) → length (flat_map u64_text ns) ≡ n → flat_map u64_text ns ≡ t
    → n ≢ 0 → (0x20 ∷ u32_text n) ++ t ≡ flat_map part_text (serial_list ns)
list_pieces [] n t e same some = absurd (some (sym e))
list_pieces (m ∷ ns) n t e same some =
    (λ i. 0x20 ∷ (u32_text (sym e i) ++ sym same i)) ∙ sym (append-nil (part_text (Serials (m ∷ ns))))

list_nothing : (ns : List ℕ) → length (flat_map u64_text ns) ≡ 0 → [] ≡ flat_map part_text (serial_list ns)
list_nothing [] e = refl
list_nothing (m ∷ ns) e = absurd (omega arith)

-- the list of the serials of the short runs, or nothing, by the length that was returned
module _ (rs : List Run) (o : Option ℕ) (n : ℕ) (h : SomeIff o (sum_by listed_length rs ≤ 4294967295)
    (sum_by listed_length rs)) (e : o ≡ Some n) where
  pub listed_pieces : n ≢ 0
      → (0x20 ∷ u32_text n) ++ flat_map listed_text rs ≡ flat_map part_text (serial_list (listed rs))
  listed_pieces = list_pieces (listed rs) n _ (listed_lengths rs ∙ value o _ n h e) (listed_texts rs)

  pub listed_nothing : n ≡ 0 → [] ≡ flat_map part_text (serial_list (listed rs))
  listed_nothing none = list_nothing (listed rs) (listed_lengths rs ∙ value o _ n h e ∙ none)

-- the list of the key ids
pub key_id_pieces : (ids : List (List ℕ)) (o : Option ℕ) (n : ℕ)
    → SomeIff o (sum_by key_id_length ids ≤ 4294967295) (sum_by key_id_length ids) → o ≡ Some n
    → false ≡ eqb (length ids) 0
    → (0x23 ∷ u32_text n) ++ flat_map string_text ids ≡ flat_map part_text (key_id_parts ids)
key_id_pieces [] o n h e some = absurd cc
key_id_pieces (i ∷ ids) o n h e some =
    ap (λ (k : ℕ). 0x23 ∷ (u32_text k ++ flat_map string_text (i ∷ ids)))
    (sym (value o _ n h e) ∙ sym (key_ids_lengths (i ∷ ids))) ∙ sym (append-nil (part_text (KeyIds (i ∷ ids))))

-- the parts of a section: the list, the ranges, and the key ids
pub parts_pieces : (rs : List Run) (ids : List (List ℕ))
    → flat_map part_text (serial_list (listed rs)) ++ (flat_map range_text rs ++ flat_map part_text (key_id_parts ids))
    ≡ flat_map part_text (serial_parts rs ++ key_id_parts ids)
parts_pieces rs ids =
    let list = flat_map part_text (serial_list (listed rs)) in
    rw (← range_texts rs, flat_map-append, flat_map-append)
    (sym (append_assoc list (flat_map part_text (ranges rs)) (flat_map part_text (key_id_parts ids))))

-- a section: its type and length, and its data
pub section_pieces : (ids : List (List ℕ)) (p : CaPart) (o : Option ℕ) (n : ℕ)
    → SomeIff o (length (section_data (ca_section ids p)) ≤ 4294967295) (length (section_data (ca_section ids p)))
    → o ≡ Some n → (1 ∷ u32_text n) ++ section_data (ca_section ids p) ≡ section_text (ca_section ids p)
section_pieces ids p o n h e =
    ap (λ (k : ℕ). 1 ∷ (u32_text k ++ section_data (ca_section ids p))) (sym (value o _ n h e))

-- the section of a CA, if it has one
pub one_section : (ids : List (List ℕ)) (p : CaPart) → is_idle ids p ≡ false
    → section_text (ca_section ids p) ≡ flat_map section_text (sections_of ids p)
one_section ids p busy = rw busy (sym (append-nil (section_text (ca_section ids p))))

pub no_section : (ids : List (List ℕ)) (p : CaPart) → is_idle ids p ≡ true
    → [] ≡ flat_map section_text (sections_of ids p)
no_section ids p idle = rw idle refl

-- the sections, CA by CA
abbrev pub sections_text : List (List ℕ) → CaPart → List ℕ
sections_text ids p = flat_map section_text (sections_of ids p)

pub all_sections : (cas : List CaPart) (ids : List (List ℕ))
    → flat_map (sections_text ids) cas ≡ flat_map section_text (published_sections cas ids)
all_sections [] ids = refl
all_sections (p ∷ cas) ids =
    ap (λ t. sections_text ids p ++ t) (all_sections cas ids)
    ∙ sym (flat_map-append section_text (sections_of ids p) (published_sections cas ids))
