-- Written sections are read back.
use Rattle.krl.proofs.Words.{Bool, CaPart, IsString, List, None, Option, Range, Run, Some, [], ap, arith}
use Rattle.krl.proofs.Words.{bytes_eq, cond, false, flat_map, is_short, key_blob, length, length-append, listed_text}
use Rattle.krl.proofs.Words.{ltb, part_text, range_text, refl, string_text, subst, sym, take, true, ℕ, ◌++◌}
use Rattle.krl.proofs.Words.{◌∙◌, ◌∷◌, ◌≡◌, ◌≢◌, AreRuns, same_Some, serials_of, u64_text, eqb, drop, ne_eqb, u32_text}
use Rattle.krl.proofs.Words.{◌||◌, ◌&&◌, ◌⊎◌, inl, inr}
use Rattle.std.specs.Prelude.{not}
use Rattle.std.proofs.lemmas.List.{append-nil}
use Rattle.wire.proofs.Laws.{string_again}
use Rattle.wire.specs.Reading.{string_at}
use Rattle.lines.specs.Keys.{key_of}
use Rattle.lines.proofs.Blobs.{key_of_again, length-key_blob}
use Rattle.krl.specs.Format.{tagged_text}
use Rattle.krl.specs.Fronts.{AreSplit, IsWhole, behind_at, data_from, listed_bytes, part_at, part_if_any, range_begin}
use Rattle.krl.specs.Fronts.{ranges_bytes, section_at, section_bytes, some_data, whole_data, whole_text}
use Rattle.krl.proofs.FrontLaws.{behind_again, then}
use Rattle.krl.proofs.Publishing.{bytes_other}

neither : (t u : Bool) (x : Option (List ℕ)) → u ≡ false → cond t None (cond u x None) ≡ None
neither true u x e = refl
neither false u x e = rw e refl

-- bytes that begin with another byte
pub other_front : (a b : ℕ) (xs ys : List ℕ) → a ≢ b → behind_at (a ∷ xs) (b ∷ ys) ≡ None
other_front a b xs ys apart =
    let front = take (length (a ∷ xs)) (b ∷ ys) in
    let differ = bytes_other front (a ∷ xs) (λ e. apart cc) in
    neither (ltb (length (b ∷ ys)) (length (a ∷ xs))) (bytes_eq front (a ∷ xs))
    (Some (drop (length (a ∷ xs)) (b ∷ ys))) differ

-- no range comes after the runs
pub no_range : (ids : List ℕ) → behind_at range_begin (part_if_any 0x23 ids) ≡ None
no_range [] = refl
no_range (b ∷ ids) = other_front 0x21 0x23 (u32_text 16) (string_text (b ∷ ids)) (λ e. omega arith)

-- no second list of serials comes after the first one
pub no_list : (rs : List Run) (ids : List ℕ)
    → behind_at (0x20 ∷ []) (flat_map range_text rs ++ part_if_any 0x23 ids) ≡ None
no_list [] [] = refl
no_list [] (b ∷ ids) = other_front 0x20 0x23 [] (string_text (b ∷ ids)) (λ e. omega arith)
no_list (r ∷ rs) ids = by_short (is_short r) (no_list rs ids)
  where
    by_short : (b : Bool) → behind_at (0x20 ∷ []) (flat_map range_text rs ++ part_if_any 0x23 ids) ≡ None
        → behind_at (0x20 ∷ []) ((cond b [] (part_text (Range r)) ++ flat_map range_text rs) ++ part_if_any 0x23 ids)
        ≡ None
    by_short true more = more
    by_short false more =
        let range = u32_text 16 ++ (u64_text r.lo ++ u64_text r.hi) in
        other_front 0x20 0x21 [] ((range ++ flat_map range_text rs) ++ part_if_any 0x23 ids) (λ e. omega arith)

-- the data of a part is read back
pub part_again : (kind : ℕ) (d rest : List ℕ) → IsString d → behind_at (kind ∷ []) rest ≡ None
    → part_at kind (part_if_any kind d ++ rest) ≡ Some (d, rest)
part_again kind [] rest small none = ap (data_from rest) none
part_again kind (b ∷ d) rest small none =
    ap (data_from (part_if_any kind (b ∷ d) ++ rest)) (behind_again (kind ∷ []) (string_text (b ∷ d) ++ rest))
    ∙ ap some_data (string_again (b ∷ d) rest small) ∙ rw (ne_eqb (length (b ∷ d)) 0 (λ e. omega arith)) refl

listed_fits : (ca listed ranges : List ℕ) → IsString (section_bytes ca listed ranges) → IsString listed
listed_fits ca [] ranges small = omega arith
listed_fits ca (b ∷ listed) ranges small =
    let outer = length-append (string_text (key_blob ca))
    (string_text [] ++ (part_if_any 0x20 (b ∷ listed) ++ ranges)) in
    let inner = length-append (string_text []) (part_if_any 0x20 (b ∷ listed) ++ ranges) in
    let parts = length-append (part_if_any 0x20 (b ∷ listed)) ranges in
    let text = length-append (string_text []) (b ∷ listed) in
    omega arith

-- a section is read back
pub section_again : (ca listed ranges rest : List ℕ) → length ca ≡ 32 → IsString (section_bytes ca listed ranges)
    → behind_at (0x20 ∷ []) ranges ≡ None
    → section_at (tagged_text 1 (section_bytes ca listed ranges) ++ rest) ≡ Some ((ca, (listed, ranges)), rest)
unfolding section_at
section_again ca listed ranges rest len small none =
    let d = section_bytes ca listed ranges in
    let parts = part_if_any 0x20 listed ++ ranges in
    let blob : IsString (key_blob ca) = omega (arith, length-key_blob ca) in
    then (behind_at (1 ∷ []) (tagged_text 1 d ++ rest)) (string_text d ++ rest) _ _
    (behind_again (1 ∷ []) (string_text d ++ rest))
    (then (string_at (string_text d ++ rest)) (d, rest) _ _ (string_again d rest small)
    (then (string_at d) (key_blob ca, string_text [] ++ parts) _ _
    (string_again (key_blob ca) (string_text [] ++ parts) blob)
    (then (key_of (key_blob ca)) ca _ _ (key_of_again ca len)
    (then (behind_at (string_text []) (string_text [] ++ parts)) parts _ _ (behind_again (string_text []) parts)
    (then (part_at 0x20 parts) (listed, ranges) _ _
    (part_again 0x20 listed ranges (listed_fits ca listed ranges small) none) refl)))))

-- the section of a CA is read back
pub whole_again : (ids rest : List ℕ) (p : CaPart) → IsWhole ids p
    → section_at (whole_text ids p ++ rest) ≡ Some ((p.ca, (listed_bytes p, ranges_bytes ids p)), rest)
whole_again ids rest p w =
    section_again p.ca (listed_bytes p) (ranges_bytes ids p) rest w.key w.short (no_list p.runs ids)

-- the values that are read from a whole section
pub read_as : (bytes ids rest ca l m r : List ℕ) (p : CaPart) → IsWhole ids p → bytes ≡ whole_text ids p ++ rest
    → Some ((ca, (l, m)), r) ≡ section_at bytes
    → (ca ≡ p.ca) × AreSplit l m p.runs (part_if_any 0x23 ids) × (r ≡ rest)
read_as bytes ids rest ca l m r p w e is =
    let same = same_Some _ _ (is ∙ ap section_at e ∙ whole_again ids rest p w) in (
      ap (λ (x : (List ℕ × (List ℕ × List ℕ)) × List ℕ). x.0.0) same,
      record {
        short = ap (λ (x : (List ℕ × (List ℕ × List ℕ)) × List ℕ). x.0.1.0) same;
        long = ap (λ (x : (List ℕ × (List ℕ × List ℕ)) × List ℕ). x.0.1.1) same;
      },
      ap (λ (x : (List ℕ × (List ℕ × List ℕ)) × List ℕ). x.1) same,
    )

-- if no section is read, there is no whole one
pub none_whole : (bytes ids rest : List ℕ) (p : CaPart) → IsWhole ids p → bytes ≡ whole_text ids p ++ rest
    → None ≡ section_at bytes → ⊥
none_whole bytes ids rest p w e is = let both = is ∙ ap section_at e ∙ whole_again ids rest p w in cc

-- the length of the key id data fits if that of the section does
pub ids_fit : (ids : List ℕ) (p : CaPart) → IsString (whole_data ids p) → IsString ids
ids_fit [] p small = omega arith
ids_fit (b ∷ ids) p small =
    let ranges = ranges_bytes (b ∷ ids) p in
    let outer = length-append (string_text (key_blob p.ca))
    (string_text [] ++ (part_if_any 0x20 (listed_bytes p) ++ ranges)) in
    let inner = length-append (string_text []) (part_if_any 0x20 (listed_bytes p) ++ ranges) in
    let parts = length-append (part_if_any 0x20 (listed_bytes p)) ranges in
    let tail = length-append (flat_map range_text p.runs) (part_if_any 0x23 (b ∷ ids)) in
    let text = length-append (string_text []) (b ∷ ids) in
    omega arith

-- the key ids are read after the runs
pub ids_again : (ids : List ℕ) (p : CaPart) → IsWhole ids p → part_at 0x23 (part_if_any 0x23 ids) ≡ Some (ids, [])
ids_again ids p w =
    ap (part_at 0x23) (sym (append-nil (part_if_any 0x23 ids))) ∙ part_again 0x23 ids [] (ids_fit ids p w.short) refl

-- if no text is written for the runs, there are none
no_text : (rs : List Run) → flat_map listed_text rs ≡ [] → flat_map range_text rs ≡ [] → rs ≡ []
no_text [] e f = refl
no_text (r ∷ rs) e f = absurd (by_short (is_short r) e f)
  where
    by_short : (b : Bool) → cond b (flat_map u64_text (serials_of r)) [] ++ flat_map listed_text rs ≡ []
        → cond b [] (part_text (Range r)) ++ flat_map range_text rs ≡ [] → ⊥
    by_short false e f = cc
    by_short true e f = by_one (eqb r.lo r.hi) e
      where
        by_one : (b : Bool) → flat_map u64_text (cond b (r.lo ∷ []) (r.lo ∷ r.hi ∷ [])) ++ flat_map listed_text rs ≡ []
            → ⊥
        by_one true e = cc
        by_one false e = cc

no_front : (xs ys : List ℕ) → xs ++ ys ≡ [] → (xs ≡ []) × (ys ≡ [])
no_front [] ys e = (refl, e)
no_front (x ∷ xs) ys e = absurd cc

no_part : (kind : ℕ) (d : List ℕ) → part_if_any kind d ≡ [] → d ≡ []
no_part kind [] e = refl
no_part kind (b ∷ d) e = absurd cc

-- a whole section has something to be read
pub not_idle : (l m ids : List ℕ) (p : CaPart) → IsWhole ids p → AreSplit l m p.runs (part_if_any 0x23 ids)
    → l ≡ [] → m ≡ [] → ⊥
not_idle l m ids p w split no_l no_m =
    let both = no_front (flat_map range_text p.runs) (part_if_any 0x23 ids) (sym split.long ∙ no_m) in
    w.busy (no_text p.runs (sym split.short ∙ no_l) both.0) (no_part 0x23 ids both.1)

-- a section that was read to its end is whole
pub whole_found : (bytes rest ca l m after ids none : List ℕ) (rs : List Run) → length ca ≡ 32
    → bytes ≡ tagged_text 1 (section_bytes ca l m) ++ rest → IsString (section_bytes ca l m) → AreRuns rs
    → AreSplit l m rs after → after ≡ part_if_any 0x23 ids ++ none → none ≡ [] → (l ≡ [] → m ≡ [] → ⊥)
    → (p : CaPart) × IsWhole ids p × (bytes ≡ whole_text ids p ++ rest)
whole_found bytes rest ca l m after ids none rs len text small runs split parts end busy =
    let p : CaPart = record { ca = ca; runs = rs } in
    let tail : after ≡ part_if_any 0x23 ids = parts ∙ ap (λ t. part_if_any 0x23 ids ++ t) end
    ∙ append-nil (part_if_any 0x23 ids) in
    let long : m ≡ ranges_bytes ids p = split.long ∙ ap (λ t. flat_map range_text rs ++ t) tail in
    let same : section_bytes ca l m ≡ whole_data ids p = λ i. section_bytes ca (split.short i) (long i) in (
      p,
      record {
        key = len;
        runs = runs;
        busy = λ no_runs no_ids. busy (split.short ∙ ap (flat_map listed_text) no_runs)
            (long ∙ ap (λ qs. flat_map range_text qs ++ part_if_any 0x23 ids) no_runs ∙ ap (part_if_any 0x23) no_ids);
        short = subst IsString same small;
      },
      text ∙ ap (λ d. tagged_text 1 d ++ rest) same,
    )

-- the reason why a section that was read isn't whole
pub stopped : (a b c : Bool) → (not c || (a && b)) ≡ true → (c ≡ false) ⊎ ((a ≡ true) × (b ≡ true))
stopped true true true e = inr (refl, refl)
stopped true false true e = absurd cc
stopped false b true e = absurd cc
stopped a b false e = inl refl

pub went_on : (a b c : Bool) → (not c || (a && b)) ≡ false → (c ≡ true) × (a ≡ true → b ≡ true → ⊥)
went_on true true true e = absurd cc
went_on true false true e = (refl, λ x y. cc)
went_on false b true e = (refl, λ x y. cc)
went_on a b false e = absurd cc
