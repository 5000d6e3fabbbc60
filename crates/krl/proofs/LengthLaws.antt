-- Lengths of parts and of lists, as sums.
use Rattle.krl.proofs.Words.{Bool, CaPart, KeyIds, List, Range, Run, Serials, [], ap, arith, ca_section, cond, false}
use Rattle.krl.proofs.Words.{flat_map, flat_map-append, is_idle, is_short, key_blob, key_id_length, key_id_parts}
use Rattle.krl.proofs.Words.{length, length-append, listed, listed_length, listed_text, nat_tests, part_text}
use Rattle.krl.proofs.Words.{published_sections, range_length, range_text, ranges, refl, section_data, section_length}
use Rattle.krl.proofs.Words.{section_text, serial_list, serial_parts, serials_of, string_text, sum_by, sym, true}
use Rattle.krl.proofs.Words.{u64_text, ℕ, ◌*◌, ◌++◌, ◌+◌, ◌<◌, ◌∙◌, ◌∷◌, ◌≡◌, ◌≤◌}
use Rattle.std.proofs.lemmas.List.Sums.{sum_by-cons}
use Rattle.krl.specs.Published.{serial_length}
use Rattle.krl.specs.Lengths.{tagged_length}

pub u64s_length : (ns : List ℕ) → length (flat_map u64_text ns) ≡ 8 * length ns
u64s_length [] = refl
u64s_length (n ∷ ns) = let more = u64s_length ns in omega (arith, length-append (u64_text n) (flat_map u64_text ns))

-- the serials of the short runs, run by run
pub listed_texts : (rs : List Run) → flat_map u64_text (listed rs) ≡ flat_map listed_text rs
listed_texts [] = refl
listed_texts (r ∷ rs) = by_short (is_short r) (listed_texts rs)
  where
    by_short : (b : Bool) → flat_map u64_text (listed rs) ≡ flat_map listed_text rs
        → flat_map u64_text (cond b (serials_of r ++ listed rs) (listed rs))
        ≡ cond b (flat_map u64_text (serials_of r)) [] ++ flat_map listed_text rs
    by_short true more = flat_map-append u64_text (serials_of r) (listed rs)
        ∙ ap (λ t. flat_map u64_text (serials_of r) ++ t) more
    by_short false more = more

pub listed_lengths : (rs : List Run) → length (flat_map u64_text (listed rs)) ≡ sum_by listed_length rs
listed_lengths [] = refl
listed_lengths (r ∷ rs) = by_short (is_short r) (listed_lengths rs) ∙ sym (sum_by-cons listed_length r rs)
  where
    by_short : (b : Bool) → length (flat_map u64_text (listed rs)) ≡ sum_by listed_length rs
        → length (flat_map u64_text (cond b (serials_of r ++ listed rs) (listed rs)))
        ≡ cond b (8 * length (serials_of r)) 0 + sum_by listed_length rs
    by_short true more =
        let both = ap length (flat_map-append u64_text (serials_of r) (listed rs)) in
        let sum = length-append (flat_map u64_text (serials_of r)) (flat_map u64_text (listed rs)) in
        let here = u64s_length (serials_of r) in
        omega arith
    by_short false more = omega arith

-- the ranges of the long runs, run by run
pub range_texts : (rs : List Run) → flat_map part_text (ranges rs) ≡ flat_map range_text rs
range_texts [] = refl
range_texts (r ∷ rs) =
    elim (is_short r) as (λ b. flat_map part_text (cond b (ranges rs) (Range r ∷ ranges rs))
    ≡ cond b [] (part_text (Range r)) ++ flat_map range_text rs)
    [ true ↦ range_texts rs | false ↦ ap (λ t. part_text (Range r) ++ t) (range_texts rs) ]

pub range_lengths : (rs : List Run) → length (flat_map part_text (ranges rs)) ≡ sum_by range_length rs
range_lengths [] = refl
range_lengths (r ∷ rs) = by_short (is_short r) (range_lengths rs) ∙ sym (sum_by-cons range_length r rs)
  where
    by_short : (b : Bool) → length (flat_map part_text (ranges rs)) ≡ sum_by range_length rs
        → length (flat_map part_text (cond b (ranges rs) (Range r ∷ ranges rs))) ≡ cond b 0 21 + sum_by range_length rs
    by_short true more = omega arith
    by_short false more = let sum = length-append (part_text (Range r)) (flat_map part_text (ranges rs)) in omega arith

pub key_ids_lengths : (ids : List (List ℕ)) → length (flat_map string_text ids) ≡ sum_by key_id_length ids
key_ids_lengths [] = refl
key_ids_lengths (i ∷ ids) = let more = key_ids_lengths ids in let sum =
    length-append (string_text i) (flat_map string_text ids) in let inner = length-append (string_text []) i in
    let total = sum_by-cons key_id_length i ids in omega (arith, length-append i (flat_map string_text ids))

tagged_some : (n : ℕ) → 0 < n → tagged_length n ≡ 5 + n
tagged_some n lt = grind (arith, nat_tests)

-- the length of a list of serials with its type and length field
list_length : (ns : List ℕ)
    → length (flat_map part_text (serial_list ns)) ≡ tagged_length (length (flat_map u64_text ns))
list_length [] = refl
list_length (n ∷ ns) =
    let some = tagged_some (length (flat_map u64_text (n ∷ ns))) (omega (arith, u64s_length (n ∷ ns))) in
    let sum = length-append (part_text (Serials (n ∷ ns))) [] in
    omega arith

-- the length of the key ids with their type and length field
pub ids_length : (ids : List (List ℕ))
    → length (flat_map part_text (key_id_parts ids)) ≡ tagged_length (sum_by key_id_length ids)
ids_length [] = refl
ids_length (i ∷ ids) =
    let same = key_ids_lengths (i ∷ ids) in
    let some = tagged_some (sum_by key_id_length (i ∷ ids)) (omega arith) in
    let sum = length-append (part_text (KeyIds (i ∷ ids))) [] in
    omega arith

pub serial_lengths : (rs : List Run)
    → serial_length rs ≡ tagged_length (sum_by listed_length rs) + sum_by range_length rs
serial_lengths rs =
    ap length (flat_map-append part_text (serial_list (listed rs)) (ranges rs))
    ∙ length-append (flat_map part_text (serial_list (listed rs))) (flat_map part_text (ranges rs))
    ∙ (λ i. (list_length (listed rs) ∙ ap tagged_length (listed_lengths rs)) i + range_lengths rs i)

tagged_more : (n : ℕ) → n ≤ tagged_length n
tagged_more n = grind (arith, nat_tests)

-- each sum is at most the whole
pub listed_within : (rs : List Run) → sum_by listed_length rs ≤ serial_length rs
listed_within rs = let all = serial_lengths rs in let more = tagged_more (sum_by listed_length rs) in omega arith

pub ranges_within : (rs : List Run) → sum_by range_length rs ≤ serial_length rs
ranges_within rs = let all = serial_lengths rs in omega arith

pub data_lengths : (ids : List (List ℕ)) (p : CaPart)
    → length (section_data (ca_section ids p)) ≡ 8 + length (key_blob p.ca) + serial_length p.runs + tagged_length
    (sum_by key_id_length ids)
data_lengths ids p =
    let split = ap length (flat_map-append part_text (serial_parts p.runs) (key_id_parts ids)) in
    let parts = length-append (flat_map part_text (serial_parts p.runs)) (flat_map part_text (key_id_parts ids)) in
    let outer = length-append (string_text (key_blob p.ca))
    (string_text [] ++ flat_map part_text (serial_parts p.runs ++ key_id_parts ids)) in
    let inner = length-append (string_text []) (flat_map part_text (serial_parts p.runs ++ key_id_parts ids)) in
    let blob = length-append (string_text []) (key_blob p.ca) in
    let last = ids_length ids in
    omega arith

pub ids_within : (ids : List (List ℕ)) (p : CaPart)
    → sum_by key_id_length ids ≤ length (section_data (ca_section ids p))
ids_within ids p = let all = data_lengths ids p in let more = tagged_more (sum_by key_id_length ids) in omega arith

pub serials_within : (ids : List (List ℕ)) (p : CaPart)
    → serial_length p.runs ≤ length (section_data (ca_section ids p))
serials_within ids p = let all = data_lengths ids p in omega arith

-- what is known about the length of the serial parts, of a section's data, and of the pieces of these
pub ruleset serials_len = (serial_lengths, listed_within, ranges_within)

pub ruleset data_len = (data_lengths, serials_within, ids_within)

pub ruleset within_data = (ids_within, serials_within, listed_within)

pub sections_length : (cas : List CaPart) (ids : List (List ℕ))
    → length (flat_map section_text (published_sections cas ids)) ≡ sum_by (section_length ids) cas
sections_length [] ids = refl
sections_length (p ∷ cas) ids = by_idle (is_idle ids p) (sections_length cas ids)
    ∙ sym (sum_by-cons (section_length ids) p cas)
  where
    by_idle : (b : Bool) → length (flat_map section_text (published_sections cas ids)) ≡ sum_by (section_length ids) cas
        → length (flat_map section_text (cond b [] (ca_section ids p ∷ []) ++ published_sections cas ids))
        ≡ cond b 0 (5 + length (section_data (ca_section ids p))) + sum_by (section_length ids) cas
    by_idle true more = omega arith
    by_idle false more = let sum =
        length-append (section_text (ca_section ids p)) (flat_map section_text (published_sections cas ids)) in
        omega arith
