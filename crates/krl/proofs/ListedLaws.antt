-- Published lists in pieces: a header, and sections with the data of the key ids.
use Rattle.krl.proofs.Words.{AllByRecursion, Bool, CaPart, IsString, KeyIds, KrlHead, List, Serials}
use Rattle.krl.proofs.Words.{[], ap, arith, ca_section, cond, eqb, eq-eqb, false, flat_map}
use Rattle.krl.proofs.Words.{header_text, is_idle, key_blob, key_id_parts, length, listed}
use Rattle.krl.proofs.Words.{ne_eqb, part_text, published_sections, range_text, refl, same_Some}
use Rattle.krl.proofs.Words.{section_data, section_text, serial_list, string_text, subst, sym, true, u64_text}
use Rattle.krl.proofs.Words.{ℕ, ◌&&◌, ◌++◌, ◌<◌, ◌^◌, ◌∙◌, ◌∷◌, ◌≡◌, ◌≢◌}
use Rattle.std.proofs.lemmas.List.{append-nil}
use Rattle.krl.specs.Published.{published_header, published_text}
use Rattle.krl.specs.Contents.{AreContents, KrlContents, IsContentsPart, Publishes}
use Rattle.krl.specs.Fronts.{AreListed, AreSections, IsWhole, head_at, part_if_any}
use Rattle.krl.specs.Fronts.{whole_data, whole_text}
use Rattle.krl.proofs.Booleans.{clash}
use Rattle.krl.proofs.FrontLaws.{head_again}
use Rattle.krl.proofs.LengthLaws.{listed_texts}
use Rattle.krl.proofs.Publishing.{strings_fit}
use Rattle.krl.proofs.SectionLaws.{ids_fit}
use Rattle.krl.proofs.WritingLaws.{parts_pieces}

-- ---- the data of a section

list_text : (ns : List ℕ) → flat_map part_text (serial_list ns) ≡ part_if_any 0x20 (flat_map u64_text ns)
list_text [] = refl
list_text (n ∷ ns) = append-nil (part_text (Serials (n ∷ ns)))

ids_text : (ids : List (List ℕ)) → flat_map part_text (key_id_parts ids) ≡ part_if_any 0x23 (flat_map string_text ids)
ids_text [] = refl
ids_text (i ∷ ids) = append-nil (part_text (KeyIds (i ∷ ids)))

-- a published section is a whole section
pub data_is : (ids : List (List ℕ)) (p : CaPart)
    → section_data (ca_section ids p) ≡ whole_data (flat_map string_text ids) p
data_is ids p =
    let list = list_text (listed p.runs) ∙ ap (part_if_any 0x20) (listed_texts p.runs) in
    ap (λ t. string_text (key_blob p.ca) ++ (string_text [] ++ t))
    (sym (parts_pieces p.runs ids) ∙ (λ i. list i ++ (flat_map range_text p.runs ++ ids_text ids i)))

pub sections_are : (cas : List CaPart) (ids : List (List ℕ)) → AllByRecursion (IsContentsPart ids) cas
    → flat_map section_text (published_sections cas ids) ≡ flat_map (whole_text (flat_map string_text ids)) cas
sections_are [] ids h = refl
sections_are (p ∷ cas) ids h = by_idle (is_idle ids p) h.0.busy (sections_are cas ids h.1)
  where
    by_idle : (b : Bool) → b ≡ false
        → flat_map section_text (published_sections cas ids) ≡ flat_map (whole_text (flat_map string_text ids)) cas
        → flat_map section_text (cond b [] (ca_section ids p ∷ []) ++ published_sections cas ids)
        ≡ flat_map (whole_text (flat_map string_text ids)) (p ∷ cas)
    by_idle true busy more = absurd cc
    by_idle false busy more = λ i. (1 ∷ string_text (data_is ids p i)) ++ more i

-- ---- CAs with nothing revoked

no_runs : (p : CaPart) → p.runs ≡ [] → eqb (length p.runs) 0 ≡ true
no_runs p e = eq-eqb (length p.runs) 0 (ap length e)

-- something is revoked by a part if it has a run, or if there is a key id
pub busy_from : (ids : List (List ℕ)) (p : CaPart) → (p.runs ≡ [] → flat_map string_text ids ≢ [])
    → is_idle ids p ≡ false
busy_from ids p busy = by_both (eqb (length p.runs) 0) (eqb (length ids) 0) refl refl
  where
    no_items : {X : Type 0} (xs : List X) → eqb (length xs) 0 ≡ true → xs ≡ []
    no_items [] e = refl
    no_items (x ∷ xs) e = absurd (clash (eqb (length (x ∷ xs)) 0) e (ne_eqb (length (x ∷ xs)) 0 (λ z. omega arith)))

    by_both : (a b : Bool) → eqb (length p.runs) 0 ≡ a → eqb (length ids) 0 ≡ b → (a && b) ≡ false
    by_both true true e f = absurd (busy (no_items p.runs e) (ap (flat_map string_text) (no_items ids f)))
    by_both true false e f = refl
    by_both false b e f = refl

pub busy_to : (ids : List (List ℕ)) (p : CaPart) → is_idle ids p ≡ false → p.runs ≡ [] → flat_map string_text ids ≢ []
busy_to ids p busy none = by_ids ids busy
  where
    by_ids : (ids : List (List ℕ)) → is_idle ids p ≡ false → flat_map string_text ids ≢ []
    by_ids [] busy e = clash (is_idle [] p) (rw none refl) busy
    by_ids (i ∷ ids) busy e = cc

-- ---- sections and contents

part_from : (ids : List (List ℕ)) (p : CaPart) → IsWhole (flat_map string_text ids) p → IsContentsPart ids p
part_from ids p w = record {
  key = w.key;
  runs = w.runs;
  busy = busy_from ids p w.busy;
  short = subst IsString (sym (data_is ids p)) w.short;
}

part_to : (ids : List (List ℕ)) (p : CaPart) → IsContentsPart ids p → IsWhole (flat_map string_text ids) p
part_to ids p h = record {
  key = h.key;
  runs = h.runs;
  busy = busy_to ids p h.busy;
  short = subst IsString (data_is ids p) h.short;
}

all_from : (ids : List (List ℕ)) (cas : List CaPart) → AllByRecursion (IsWhole (flat_map string_text ids)) cas
    → AllByRecursion (IsContentsPart ids) cas
all_from ids [] h = tt
all_from ids (p ∷ cas) h = (part_from ids p h.0, all_from ids cas h.1)

pub all_to : (ids : List (List ℕ)) (cas : List CaPart) → AllByRecursion (IsContentsPart ids) cas
    → AllByRecursion (IsWhole (flat_map string_text ids)) cas
all_to ids [] h = tt
all_to ids (p ∷ cas) h = (part_to ids p h.0, all_to ids cas h.1)

no_ids : (ids : List (List ℕ)) → flat_map string_text ids ≡ [] → ids ≡ []
no_ids [] e = refl
no_ids (i ∷ ids) e = absurd cc

-- the sections that were read are those of a published list
pub listed_found : (head : KrlHead) (sections bytes : List ℕ) (cas : List CaPart) (ids : List (List ℕ))
    → head.version < 2 ^ 64 → head.date < 2 ^ 64 → AreSections sections bytes cas ids → (sections ≡ [] → bytes ≡ [])
    → AreListed head sections bytes (record { head = head; cas = cas; ids = ids })
listed_found head sections bytes cas ids v d s none =
    let whole = subst (λ b. AllByRecursion (IsWhole b) cas) s.key_ids.text s.whole.whole in
    let parts = all_from ids cas whole in
    record {
      lawful = record {
        version = v;
        date = d;
        few = s.whole.few;
        parts = parts;
        distinct = s.distinct;
        ascending = s.key_ids.ascending;
        unwritten =
            λ no_cas. no_ids ids (sym s.key_ids.text ∙ none (s.whole.text ∙ ap (flat_map (whole_text bytes)) no_cas));
      };
      head_is = refl;
      sections_are = s.whole.text ∙ ap (λ b. flat_map (whole_text b) cas) s.key_ids.text
          ∙ sym (sections_are cas ids parts);
      ids_are = s.key_ids.text;
    }

ids_short : (c : KrlContents) → AreContents c → AllByRecursion IsString c.ids
ids_short c h = by_cas c.cas refl
  where
    by_cas : (cas : List CaPart) → c.cas ≡ cas → AllByRecursion IsString c.ids
    by_cas [] e = subst (AllByRecursion IsString) (sym (h.unwritten e)) tt
    by_cas (p ∷ cas) e =
        let first : AllByRecursion (IsContentsPart c.ids) (p ∷ cas) =
        subst (AllByRecursion (IsContentsPart c.ids)) e h.parts in
        strings_fit c.ids (ids_fit (flat_map string_text c.ids) p (part_to c.ids p first.0).short)

-- the sections of a published list
pub listed_sections : (c : KrlContents) → AreContents c → (sections : List ℕ)
    → sections ≡ flat_map section_text (published_sections c.cas c.ids)
    → AreSections sections (flat_map string_text c.ids) c.cas c.ids
listed_sections c h sections text = record {
  whole = record {
    few = h.few;
    whole = all_to c.ids c.cas h.parts;
    text = text ∙ sections_are c.cas c.ids h.parts;
  };
  distinct = h.distinct;
  key_ids = record { ascending = h.ascending; short = ids_short c h; text = refl };
}

-- the header and the sections of a published list
pub pieces : (head : KrlHead) (sections : List ℕ) (c : KrlContents) → AreContents c → head.version < 2 ^ 64
    → head.date < 2 ^ 64 → header_text (published_header head) ++ sections ≡ published_text c.head c.cas c.ids
    → (head ≡ c.head) × (sections ≡ flat_map section_text (published_sections c.cas c.ids))
pieces head sections c h v d e =
    let rest = flat_map section_text (published_sections c.cas c.ids) in
    let same = same_Some _ _ (sym (head_again head sections v d) ∙ ap head_at e
    ∙ head_again c.head rest h.version h.date) in
    (ap (λ (x : KrlHead × List ℕ). x.0) same, ap (λ (x : KrlHead × List ℕ). x.1) same)

-- the data of the key ids, if no CA has a section
pub ids_if_any : (c : KrlContents) → AreContents c → c.cas ≡ [] → flat_map string_text c.ids ≡ []
ids_if_any c h none = ap (flat_map string_text) (h.unwritten none)

-- the sections that a `PublishedList` holds are those of the contents that its bytes publish
pub shown : (head : KrlHead) (sections ids bytes : List ℕ) → ((c : KrlContents) × AreListed head sections ids c)
    → header_text (published_header head) ++ sections ≡ bytes → (d : KrlContents) → Publishes bytes d
    → AreSections sections (flat_map string_text d.ids) d.cas d.ids
shown head sections ids bytes listed view d is =
    let are = listed.1 in
    let v : head.version < 2 ^ 64 = subst (λ (h : KrlHead). h.version < 2 ^ 64) are.head_is are.lawful.version in
    let t : head.date < 2 ^ 64 = subst (λ (h : KrlHead). h.date < 2 ^ 64) are.head_is are.lawful.date in
    let same = pieces head sections d is.lawful v t (view ∙ is.text) in
    listed_sections d is.lawful sections same.1
