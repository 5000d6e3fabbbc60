-- A text is the text of only one list.
use Rattle.krl.proofs.Words.{AllByRecursion, AreRunsFrom, CaPart, IsString, List, None, Run, []}
use Rattle.krl.proofs.Words.{KrlHead, ap, flat_map, header_text, listed_text, range_text, refl, same_Some, section_text}
use Rattle.krl.proofs.Words.{string_text}
use Rattle.krl.proofs.Words.{subst, sym, published_sections, ℕ, ◌++◌, ◌+◌, ◌∙◌, ◌∷◌, ◌≡◌, ◌≢◌}
use Rattle.krl.specs.Published.{published_header, published_text}
use Rattle.krl.specs.Contents.{KrlContents, Publishes}
use Rattle.krl.specs.Fronts.{AreIds, AreListed, AreSplit, IsWhole, behind_at, listed_bytes, part_at, part_if_any}
use Rattle.krl.specs.Fronts.{range_begin}
use Rattle.krl.specs.Fronts.{ranges_bytes, run_at, section_at, whole_text}
use Rattle.krl.proofs.ListedLaws.{listed_sections, pieces}
use Rattle.krl.proofs.RunLaws.{no_run, run_again}
use Rattle.krl.proofs.RunsRead.{first_read, none_read}
use Rattle.krl.proofs.SectionLaws.{ids_again, no_range, whole_again}
use Rattle.krl.proofs.Texts.{items_unique, string_texts}
use Rattle.krl.proofs.WholeSections.{no_whole_text}

-- bytes are split into runs and what follows them in only one way
split_unique : (from base : ℕ) (l m a b : List ℕ) (rs qs : List Run) → AreRunsFrom from rs → AreRunsFrom base qs
    → behind_at range_begin a ≡ None → behind_at range_begin b ≡ None → AreSplit l m rs a → AreSplit l m qs b
    → (rs ≡ qs) × (a ≡ b)
split_unique from base l m a b [] qs h k x y s t =
    let none = (λ i. run_at (s.short i) (s.long i)) ∙ no_run a x in
    let other = none_read base l m qs b k y t none in
    (sym other.0, sym s.long ∙ other.2)
split_unique from base l m a b (r ∷ rs) qs h k x y s t =
    let some = (λ i. run_at (s.short i) (s.long i)) ∙ run_again from r rs a h x in
    let other = first_read base l m (flat_map listed_text rs) (flat_map range_text rs ++ a) r qs b k y t some in
    let others : AreRunsFrom base (r ∷ other.0) = subst (AreRunsFrom base) other.1 k in
    let rest = split_unique (r.hi + 2) (r.hi + 2) (flat_map listed_text rs) (flat_map range_text rs ++ a) a b rs other.0
    h.3 others.3 x y (record { short = refl; long = refl }) other.2 in
    ((λ i. r ∷ rest.0 i) ∙ sym other.1, rest.1)

part_unique : (ids others : List ℕ) (p q : CaPart) → IsWhole ids p → IsWhole others q
    → part_if_any 0x23 ids ≡ part_if_any 0x23 others → ids ≡ others
part_unique ids others p q w v e =
    ap (λ (x : List ℕ × List ℕ). x.0)
    (same_Some _ _ (sym (ids_again ids p w) ∙ ap (part_at 0x23) e ∙ ids_again others q v))

-- a section at the front is that of only one part
whole_unique : (ids others r s : List ℕ) (p q : CaPart) → IsWhole ids p → IsWhole others q
    → whole_text ids p ++ r ≡ whole_text others q ++ s → (p ≡ q) × (ids ≡ others) × (r ≡ s)
whole_unique ids others r s p q w v e =
    let same = same_Some _ _ (sym (whole_again ids r p w) ∙ ap section_at e ∙ whole_again others s q v) in
    let ca : p.ca ≡ q.ca = ap (λ (x : (List ℕ × (List ℕ × List ℕ)) × List ℕ). x.0.0) same in
    let short : listed_bytes p ≡ listed_bytes q = ap (λ (x : (List ℕ × (List ℕ × List ℕ)) × List ℕ). x.0.1.0) same in
    let long : ranges_bytes ids p ≡ ranges_bytes others q =
    ap (λ (x : (List ℕ × (List ℕ × List ℕ)) × List ℕ). x.0.1.1) same in
    let split = split_unique 0 0 (listed_bytes p) (ranges_bytes ids p) (part_if_any 0x23 ids) (part_if_any 0x23 others)
    p.runs q.runs w.runs v.runs (no_range ids) (no_range others) (record { short = refl; long = refl })
    (record { short = short; long = long }) in (
      λ i. record { ca = ca i; runs = split.0 i },
      part_unique ids others p q w v split.1,
      ap (λ (x : (List ℕ × (List ℕ × List ℕ)) × List ℕ). x.1) same,
    )

-- sections are those of only one list of parts
parts_unique : (ids others : List ℕ) (cas das : List CaPart) → AllByRecursion (IsWhole ids) cas
    → AllByRecursion (IsWhole others) das → flat_map (whole_text ids) cas ≡ flat_map (whole_text others) das
    → (cas ≡ das) × (cas ≢ [] → ids ≡ others)
parts_unique ids others [] das h k e =
    (sym (no_whole_text others das (sym e)), λ some. absurd (some refl))
parts_unique ids others (p ∷ cas) [] h k e = absurd (let none = no_whole_text ids (p ∷ cas) e in cc)
parts_unique ids others (p ∷ cas) (q ∷ das) h k e =
    let first = whole_unique ids others (flat_map (whole_text ids) cas)
    (flat_map (whole_text others) das) p q h.0 k.0 e in
    let rest = parts_unique ids others cas das h.1 k.1 first.2 in
    (λ i. first.0 i ∷ rest.0 i, λ some. first.1)

-- a text is the text of only one list
pub one_list : (bytes : List ℕ) (c d : KrlContents) → Publishes bytes c → Publishes bytes d → c ≡ d
one_list bytes c d p q =
    let rest = flat_map section_text (published_sections c.cas c.ids) in
    let front = pieces c.head rest d q.lawful p.lawful.version p.lawful.date (sym p.text ∙ q.text) in
    let these = listed_sections c p.lawful rest refl in
    let those = listed_sections d q.lawful rest front.1 in
    let parts = parts_unique (flat_map string_text c.ids) (flat_map string_text d.ids) c.cas d.cas these.whole.whole
    those.whole.whole (sym these.whole.text ∙ those.whole.text) in
    let ids : c.ids ≡ d.ids = by_cas c.cas refl parts.0 parts.1 these.key_ids.short those.key_ids.short in
    λ i. record { head = front.0 i; cas = parts.0 i; ids = ids i }
  where
    by_cas : (cas : List CaPart) → c.cas ≡ cas → c.cas ≡ d.cas
        → (c.cas ≢ [] → flat_map string_text c.ids ≡ flat_map string_text d.ids) → AllByRecursion IsString c.ids
        → AllByRecursion IsString d.ids → c.ids ≡ d.ids
    by_cas [] none same texts short small =
        p.lawful.unwritten none ∙ sym (q.lawful.unwritten (sym same ∙ none))
    by_cas (x ∷ cas) some same texts short small =
        items_unique string_texts c.ids d.ids short small (texts (λ none. let bad = sym some ∙ none in cc))

-- the key ids that a `PublishedList` holds are those of the contents that its bytes publish
pub shown_ids : (head : KrlHead) (sections ids bytes : List ℕ) → ((c : KrlContents) × AreListed head sections ids c)
    → header_text (published_header head) ++ sections ≡ bytes → (d : KrlContents) → Publishes bytes d → AreIds ids d.ids
shown_ids head sections ids bytes listed view d is =
    let are = listed.1 in
    let c = listed.0 in
    let text : bytes ≡ published_text c.head c.cas c.ids =
    sym view ∙ (λ i. header_text (published_header (sym are.head_is i)) ++ are.sections_are i) in
    let same : c ≡ d = one_list bytes c d (record { lawful = are.lawful; text = text }) is in
    let own = (listed_sections d is.lawful (flat_map section_text (published_sections d.cas d.ids)) refl).key_ids in
    record {
      ascending = own.ascending;
      short = own.short;
      text = are.ids_are ∙ ap (λ (x : KrlContents). flat_map string_text x.ids) same;
    }
