-- The published list is valid and supported, and revokes exactly what its parts name.
use Rattle.krl.proofs.Words.{AllByRecursion, AreRuns, AreRunsFrom, Bool, CaPart, IsCut, IsPart, IsSection, IsString}
use Rattle.krl.proofs.Words.{KeyIds, KrlHead, List, Part, Range, Run, [], and-false, and_from, and_parts, ap, arith}
use Rattle.krl.proofs.Words.{bytes_eq, ca_section, cond, contains, eqb, false, fits, flat_map, inl, inr, is_for}
use Rattle.krl.proofs.Words.{is_idle, is_short, is_supported_part, is_supported_section, key_blob, key_id_parts, leb}
use Rattle.krl.proofs.Words.{length, length-append, list_all, list_any, list_any-append, listed, named_set, names}
use Rattle.krl.proofs.Words.{names_serial, nat_tests, or-false, part_data, part_fits, part_text, published_sections}
use Rattle.krl.proofs.Words.{ranges, refl, section_data, section_revokes, serial_list, serial_parts, serials_of}
use Rattle.krl.proofs.Words.{string_text, subst, suc, sym, true, ℕ, ◌&&◌, ◌++◌, ◌+◌, ◌<◌, ◌^◌, ◌||◌, ◌∙◌, ◌∷◌, ◌≡◌, ◌≢◌}
use Rattle.krl.proofs.Words.{◌≤◌}
use Rattle.std.proofs.lemmas.List.Folds.{list_all-append}
use Rattle.std.proofs.lemmas.Slice.Eq.{bytes_eq-Decides}
use Rattle.krl.specs.Format.{IsPartContent}
use Rattle.krl.specs.Published.{composed_list, published_text, is_listed_key_id, IsMemberOf, AreDistinctCas}
use Rattle.krl.specs.Published.{RevokesExactly}
use Rattle.krl.specs.Published.{AreOnly}
use Rattle.krl.proofs.Booleans.{clash}
use Rattle.krl.proofs.Texts.{cut_unique}
use Rattle.krl.proofs.ShortestParts.{serials_named}

-- ---- the published list is valid

inner_fits : (ps : List Part) → IsString (flat_map part_text ps) → AllByRecursion (λ p. IsString (part_data p)) ps
inner_fits [] h = tt
inner_fits (p ∷ ps) h =
    let both = length-append (part_text p) (flat_map part_text ps) in
    (omega arith, inner_fits ps (omega arith))

pub strings_fit : (ids : List (List ℕ)) → IsString (flat_map string_text ids) → AllByRecursion IsString ids
strings_fit [] h = tt
strings_fit (i ∷ ids) h =
    let both = length-append (string_text i) (flat_map string_text ids) in
    (omega arith, strings_fit ids (omega arith))

-- the listed serials, and the ends of the ranges, fit in 64 bits
listed_small : (from : ℕ) (rs : List Run) → AreRunsFrom from rs → AllByRecursion (λ n. n < 2 ^ 64) (listed rs)
listed_small from [] h = tt
listed_small from (r ∷ rs) h = by_short (is_short r) (listed_small (r.hi + 2) rs h.3)
  where
    by_short : (b : Bool) → AllByRecursion (λ n. n < 2 ^ 64) (listed rs)
        → AllByRecursion (λ n. n < 2 ^ 64) (cond b (serials_of r ++ listed rs) (listed rs))
    by_short false more = more
    by_short true more = by_one (eqb r.lo r.hi)
      where
        by_one : (b : Bool) → AllByRecursion (λ n. n < 2 ^ 64) (cond b (r.lo ∷ []) (r.lo ∷ r.hi ∷ []) ++ listed rs)
        by_one true = (let a : r.lo ≤ r.hi = h.1 in let b : r.hi < 2 ^ 64 = h.2 in omega arith, more)
        by_one false = (let a : r.lo ≤ r.hi = h.1 in let b : r.hi < 2 ^ 64 = h.2 in omega arith, (h.2, more))

ranges_small : (from : ℕ) (rs : List Run) → AreRunsFrom from rs → AllByRecursion IsPartContent (ranges rs)
ranges_small from [] h = tt
ranges_small from (r ∷ rs) h =
    let a : r.lo ≤ r.hi = h.1 in
    let fits : r.hi < 2 ^ 64 = h.2 in
    let more = ranges_small (r.hi + 2) rs h.3 in
    elim (is_short r) as (λ b. AllByRecursion IsPartContent (cond b (ranges rs) (Range r ∷ ranges rs)))
    [ true ↦ more | false ↦ ((omega arith, fits), more) ]

all_append : {X : Type 0} (P : X → Type 0) (xs ys : List X) → AllByRecursion P xs → AllByRecursion P ys
    → AllByRecursion P (xs ++ ys)
all_append P [] ys h k = k
all_append P (x ∷ xs) ys h k = (h.0, all_append P xs ys h.1 k)

all_both : {X : Type 0} (P Q : X → Type 0) (xs : List X) → AllByRecursion P xs → AllByRecursion Q xs
    → AllByRecursion (λ x. P x × Q x) xs
all_both P Q [] h k = tt
all_both P Q (x ∷ xs) h k = ((h.0, k.0), all_both P Q xs h.1 k.1)

serial_content : (rs : List Run) → AreRuns rs → AllByRecursion IsPartContent (serial_parts rs)
serial_content rs h =
    all_append IsPartContent (serial_list (listed rs)) (ranges rs) (by_list (listed rs) (listed_small 0 rs h))
    (ranges_small 0 rs h)
  where
    by_list : (ns : List ℕ) → AllByRecursion (λ n. n < 2 ^ 64) ns → AllByRecursion IsPartContent (serial_list ns)
    by_list [] h = tt
    by_list (n ∷ ns) h = (h, tt)

key_id_content : (ids : List (List ℕ)) → AllByRecursion IsString ids → AllByRecursion IsPartContent (key_id_parts ids)
key_id_content [] h = tt
key_id_content (i ∷ ids) h = (((λ e. cc), h), tt)

id_fits : (ids : List (List ℕ)) → AllByRecursion (λ p. IsString (part_data p)) (key_id_parts ids)
    → AllByRecursion IsString ids
id_fits [] h = tt
id_fits (i ∷ ids) h = strings_fit (i ∷ ids) h.0

back : {X : Type 0} (P : X → Type 0) (xs ys : List X) → AllByRecursion P (xs ++ ys) → AllByRecursion P ys
back P [] ys h = h
back P (x ∷ xs) ys h = back P xs ys h.1

-- the parts of a section whose data fits are valid
lawful_parts : (rs : List Run) (ids : List (List ℕ)) → AreRuns rs
    → IsString (flat_map part_text (serial_parts rs ++ key_id_parts ids))
    → AllByRecursion IsPart (serial_parts rs ++ key_id_parts ids)
lawful_parts rs ids h small =
    let data_small = inner_fits (serial_parts rs ++ key_id_parts ids) small in
    all_both IsPartContent (λ p. IsString (part_data p)) (serial_parts rs ++ key_id_parts ids)
    (all_append IsPartContent (serial_parts rs) (key_id_parts ids) (serial_content rs h)
    (key_id_content ids
    (id_fits ids (back (λ p. IsString (part_data p)) (serial_parts rs) (key_id_parts ids) data_small))))
    data_small

no_parts : (rs : List Run) → serial_parts rs ≡ [] → rs ≡ []
no_parts [] e = refl
no_parts (r ∷ rs) e = absurd (by_short (is_short r) e)
  where
    by_short : (b : Bool) → serial_list (cond b (serials_of r ++ listed rs) (listed rs))
        ++ cond b (ranges rs) (Range r ∷ ranges rs) ≡ [] → ⊥
    by_short false e = by_list (listed rs) e
      where
        by_list : (ns : List ℕ) → serial_list ns ++ (Range r ∷ ranges rs) ≡ [] → ⊥
        by_list [] e = cc
        by_list (n ∷ ns) e = cc
    by_short true e = by_one (eqb r.lo r.hi) e
      where
        by_one : (b : Bool) → serial_list (cond b (r.lo ∷ []) (r.lo ∷ r.hi ∷ []) ++ listed rs) ++ ranges rs ≡ [] → ⊥
        by_one true e = cc
        by_one false e = cc

some_parts : (ids : List (List ℕ)) (p : CaPart) → is_idle ids p ≡ false → serial_parts p.runs ++ key_id_parts ids ≢ []
some_parts [] p idle e =
    let none = no_parts p.runs (front (serial_parts p.runs) e) in
    clash (is_idle [] p) (rw none refl) idle
  where
    front : (ps : List Part) → ps ++ [] ≡ [] → ps ≡ []
    front [] e = refl
    front (q ∷ ps) e = absurd cc
some_parts (i ∷ ids) p idle e = behind (serial_parts p.runs) e
  where
    behind : (ps : List Part) → ps ++ (KeyIds (i ∷ ids) ∷ []) ≡ [] → ⊥
    behind [] e = cc
    behind (q ∷ ps) e = cc

lawful_section : (ids : List (List ℕ)) (p : CaPart) → AreRuns p.runs → is_idle ids p ≡ false
    → IsString (section_data (ca_section ids p)) → IsSection (ca_section ids p)
lawful_section ids p h idle small =
    let ps = serial_parts p.runs ++ key_id_parts ids in
    let outer = length-append (string_text (key_blob p.ca)) (string_text [] ++ flat_map part_text ps) in
    let inner = length-append (string_text []) (flat_map part_text ps) in
    let blob = length-append (string_text []) (key_blob p.ca) in
    ((omega arith, omega arith, some_parts ids p idle, lawful_parts p.runs ids h (omega arith)), small)

pub fits_part : (ids : List (List ℕ)) (p : CaPart) → is_idle ids p ≡ false → part_fits ids p ≡ true
    → IsString (section_data (ca_section ids p))
fits_part ids p idle e = by_le (length (section_data (ca_section ids p))) (rw idle at e)
  where
    by_le : (n : ℕ) → leb n 4294967295 ≡ true → n < 2 ^ 32
    by_le n e = grind (arith, nat_tests)

pub lawful_sections : (cas : List CaPart) (ids : List (List ℕ)) → AllByRecursion (λ p. AreRuns p.runs) cas
    → fits cas ids ≡ true → AllByRecursion IsSection (published_sections cas ids)
lawful_sections [] ids h e = tt
lawful_sections (p ∷ cas) ids h e =
    let both = and_parts (part_fits ids p) (fits cas ids) e in
    by_idle (is_idle ids p) refl (lawful_sections cas ids h.1 both.1) both.0
  where
    by_idle : (b : Bool) → is_idle ids p ≡ b → AllByRecursion IsSection (published_sections cas ids)
        → part_fits ids p ≡ true
        → AllByRecursion IsSection (cond b [] (ca_section ids p ∷ []) ++ published_sections cas ids)
    by_idle true idle more one = more
    by_idle false idle more one = (lawful_section ids p h.0 idle (fits_part ids p idle one), more)

-- ---- the published list is supported

list_supported : (ns : List ℕ) → list_all is_supported_part (serial_list ns) ≡ true
list_supported [] = refl
list_supported (n ∷ ns) = refl

ranges_supported : (rs : List Run) → list_all is_supported_part (ranges rs) ≡ true
ranges_supported [] = refl
ranges_supported (r ∷ rs) =
    elim (is_short r) as (λ b. list_all is_supported_part (cond b (ranges rs) (Range r ∷ ranges rs)) ≡ true)
    [ true ↦ ranges_supported rs | false ↦ ranges_supported rs ]

ids_supported : (ids : List (List ℕ)) → list_all is_supported_part (key_id_parts ids) ≡ true
ids_supported [] = refl
ids_supported (i ∷ ids) = refl

parts_supported : (rs : List Run) (ids : List (List ℕ))
    → list_all is_supported_part (serial_parts rs ++ key_id_parts ids) ≡ true
parts_supported rs ids =
    list_all-append is_supported_part (serial_parts rs) (key_id_parts ids)
    ∙ and_from _ _ (list_all-append is_supported_part (serial_list (listed rs)) (ranges rs)
    ∙ and_from _ _ (list_supported (listed rs)) (ranges_supported rs)) (ids_supported ids)

sections_supported : (cas : List CaPart) (ids : List (List ℕ))
    → list_all is_supported_section (published_sections cas ids) ≡ true
sections_supported [] ids = refl
sections_supported (p ∷ cas) ids =
    let more = sections_supported cas ids in
    elim (is_idle ids p) as (λ b.
    list_all is_supported_section (cond b [] (ca_section ids p ∷ []) ++ published_sections cas ids) ≡ true)
    [ true ↦ more | false ↦ rw (parts_supported p.runs ids) more ]

-- the published text can be divided in only one way, as a supported list
pub only_cut : (head : KrlHead) (cas : List CaPart) (ids : List (List ℕ)) → head.version < 2 ^ 64 → head.date < 2 ^ 64
    → AllByRecursion (λ p. AreRuns p.runs) cas → fits cas ids ≡ true
    → AreOnly (published_text head cas ids) (composed_list head cas ids)
only_cut head cas ids v d h e =
    let cut : IsCut (published_text head cas ids) (composed_list head cas ids) =
    record { header = (v, d, omega arith, omega arith); sections = lawful_sections cas ids h e; text = refl } in
    record {
      cut = cut;
      one = λ m other. cut_unique (published_text head cas ids) m (composed_list head cas ids) other cut;
      supported = sections_supported cas ids;
    }

-- ---- what the list revokes

list_names : (serial : ℕ) (key_id : List ℕ) (ns : List ℕ)
    → list_any (names serial key_id) (serial_list ns) ≡ named_set (serial_list ns) serial
list_names serial key_id [] = refl
list_names serial key_id (n ∷ ns) = refl

ranges_name : (serial : ℕ) (key_id : List ℕ) (rs : List Run)
    → list_any (names serial key_id) (ranges rs) ≡ named_set (ranges rs) serial
ranges_name serial key_id [] = refl
ranges_name serial key_id (r ∷ rs) =
    let more = ranges_name serial key_id rs in
    elim (is_short r) as (λ b. list_any (names serial key_id) (cond b (ranges rs) (Range r ∷ ranges rs))
    ≡ named_set (cond b (ranges rs) (Range r ∷ ranges rs)) serial)
    [ true ↦ more | false ↦ ap (λ b. names_serial serial (Range r) || b) more ]

ids_name : (serial : ℕ) (key_id : List ℕ) (ids : List (List ℕ))
    → list_any (names serial key_id) (key_id_parts ids) ≡ is_listed_key_id ids key_id
ids_name serial key_id [] = refl
ids_name serial key_id (i ∷ ids) = or-false (is_listed_key_id (i ∷ ids) key_id)

parts_name : (serial : ℕ) (key_id : List ℕ) (rs : List Run) (ids : List (List ℕ)) → AreRuns rs
    → list_any (names serial key_id) (serial_parts rs ++ key_id_parts ids)
    ≡ (contains rs serial || is_listed_key_id ids key_id)
parts_name serial key_id rs ids h =
    list_any-append (names serial key_id) (serial_parts rs) (key_id_parts ids)
    ∙ (λ i. serials i || ids_name serial key_id ids i)
  where
    serials : list_any (names serial key_id) (serial_parts rs) ≡ contains rs serial
    serials =
        list_any-append (names serial key_id) (serial_list (listed rs)) (ranges rs)
        ∙ (λ i. list_names serial key_id (listed rs) i || ranges_name serial key_id rs i)
        ∙ sym (list_any-append (names_serial serial) (serial_list (listed rs)) (ranges rs))
        ∙ serials_named rs serial h

-- whether the CA part has this blob and names the serial or the key id
abbrev pub part_revokes : List ℕ → ℕ → List ℕ → List (List ℕ) → CaPart → Bool
part_revokes blob serial key_id ids p =
    bytes_eq (key_blob p.ca) blob && (contains p.runs serial || is_listed_key_id ids key_id)

not_zero : (n : ℕ) → 0 < n → eqb n 0 ≡ false
not_zero n lt = grind (arith, nat_tests)

nothing_idle : (serial : ℕ) (key_id : List ℕ) (ids : List (List ℕ)) (rs : List Run)
    → (eqb (length rs) 0 && eqb (length ids) 0) ≡ true → (contains rs serial || is_listed_key_id ids key_id) ≡ false
nothing_idle serial key_id [] [] e = refl
nothing_idle serial key_id (i ∷ ids) [] e =
    clash (eqb (suc (length ids)) 0) e (not_zero (suc (length ids)) (omega arith))
nothing_idle serial key_id ids (r ∷ rs) e =
    clash (eqb (suc (length rs)) 0) ((and_parts (eqb (suc (length rs)) 0) (eqb (length ids) 0) e).0)
    (not_zero (suc (length rs)) (omega arith))

for_blob : (blob ca : List ℕ) → is_for blob (key_blob ca) ≡ bytes_eq (key_blob ca) blob
for_blob blob ca =
    ap (λ b. b || bytes_eq (key_blob ca) blob)
    (not_zero (length (key_blob ca)) (let both = length-append (string_text []) ca in omega arith))

-- whether the list revokes the certificate, CA part by CA part
pub list_revokes : (blob : List ℕ) (serial : ℕ) (key_id : List ℕ) (cas : List CaPart) (ids : List (List ℕ))
    → AllByRecursion (λ p. AreRuns p.runs) cas
    → list_any (section_revokes blob serial key_id) (published_sections cas ids)
    ≡ list_any (part_revokes blob serial key_id ids) cas
list_revokes blob serial key_id [] ids h = refl
list_revokes blob serial key_id (p ∷ cas) ids h =
    by_idle (is_idle ids p) refl (list_revokes blob serial key_id cas ids h.1)
  where
    by_idle : (b : Bool) → is_idle ids p ≡ b
        → list_any (section_revokes blob serial key_id) (published_sections cas ids)
        ≡ list_any (part_revokes blob serial key_id ids) cas
        → list_any (section_revokes blob serial key_id)
        (cond b [] (ca_section ids p ∷ []) ++ published_sections cas ids)
        ≡ (part_revokes blob serial key_id ids p || list_any (part_revokes blob serial key_id ids) cas)
    by_idle true idle more =
        more ∙ sym
        (ap (λ b. (bytes_eq (key_blob p.ca) blob && b) || list_any (part_revokes blob serial key_id ids) cas)
        (nothing_idle serial key_id ids p.runs idle)
        ∙ ap (λ b. b || list_any (part_revokes blob serial key_id ids) cas) (and-false (bytes_eq (key_blob p.ca) blob)))
    by_idle false idle more = λ i. (for_blob blob p.ca i && parts_name serial key_id p.runs ids h.0 i) || more i

pub bytes_other : (a b : List ℕ) → a ≢ b → bytes_eq a b ≡ false
bytes_other a b apart = by_test (bytes_eq a b) refl
  where
    by_test : (t : Bool) → bytes_eq a b ≡ t → t ≡ false
    by_test true e = absurd (apart ((bytes_eq-Decides a b).0 e))
    by_test false e = refl

-- keys with the same blob are the same key
pub blob_key : (a b : List ℕ) → key_blob a ≡ key_blob b → a ≡ b
blob_key a b e = cc

none_revokes : (blob : List ℕ) (serial : ℕ) (key_id : List ℕ) (cas : List CaPart) (ids : List (List ℕ))
    → ((p : CaPart) → IsMemberOf p cas → key_blob p.ca ≢ blob)
    → list_any (part_revokes blob serial key_id ids) cas ≡ false
none_revokes blob serial key_id [] ids none = refl
none_revokes blob serial key_id (p ∷ cas) ids none =
    rw (bytes_other (key_blob p.ca) blob (none p (inl refl)))
    (none_revokes blob serial key_id cas ids (λ q c. none q (inr c)))

one_revokes : (serial : ℕ) (key_id : List ℕ) (cas : List CaPart) (ids : List (List ℕ)) (p : CaPart) → AreDistinctCas cas
    → IsMemberOf p cas
    → list_any (part_revokes (key_blob p.ca) serial key_id ids) cas ≡ (contains p.runs serial || is_listed_key_id ids key_id)
one_revokes serial key_id [] ids p d c = absurd c
one_revokes serial key_id (q ∷ cas) ids p d (inl same) =
    subst (λ (x : CaPart). list_any (part_revokes (key_blob x.ca) serial key_id ids) (q ∷ cas)
    ≡ (contains x.runs serial || is_listed_key_id ids key_id)) same
    (rw (
      (bytes_eq-Decides (key_blob q.ca) (key_blob q.ca)).1 refl,
      none_revokes (key_blob q.ca) serial key_id cas ids (λ r c e. d.0 r c (blob_key r.ca q.ca e)),
    )
    (or-false (contains q.runs serial || is_listed_key_id ids key_id)))
one_revokes serial key_id (q ∷ cas) ids p d (inr c) =
    rw (bytes_other (key_blob q.ca) (key_blob p.ca) (λ e. d.0 p c (sym (blob_key q.ca p.ca e))))
    (one_revokes serial key_id cas ids p d.1 c)

-- the published list revokes exactly what its parts name
pub revokes_exactly : (head : KrlHead) (cas : List CaPart) (ids : List (List ℕ))
    → AllByRecursion (λ p. AreRuns p.runs) cas → AreDistinctCas cas
    → RevokesExactly (composed_list head cas ids) cas ids
revokes_exactly head cas ids h d = record {
  own = λ p c serial key_id. list_revokes (key_blob p.ca) serial key_id cas ids h
      ∙ one_revokes serial key_id cas ids p d c;
  others = λ blob none serial key_id. list_revokes blob serial key_id cas ids h
      ∙ none_revokes blob serial key_id cas ids none;
}
