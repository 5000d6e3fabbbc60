-- No parts that name the set of the runs are shorter, whatever they are.
use Rattle.krl.proofs.Words.{AreRuns, AreRunsFrom, AreShortest, KeyIds, List, OtherPart, Part, Range, Run, Serials, []}
use Rattle.krl.proofs.Words.{ap, arith, cases_lt, cond, contains, eqb, false, flat_map, inl, inr, is_among, is_short}
use Rattle.krl.proofs.Words.{is_within, le-ltb, length, length-append, list_any-append, listed, named_set, names_serial}
use Rattle.krl.proofs.Words.{nat_tests, or-false, or_order, part_text, ranges, refl, serial_list, serial_parts}
use Rattle.krl.proofs.Words.{serials_of, sym, true, ℕ, ◌*◌, ◌++◌, ◌+◌, ◌<◌, ◌||◌, ◌∙◌, ◌∷◌, ◌≡◌, ◌≤◌}
use Rattle.std.proofs.lemmas.List.{nil_from_length}
use Rattle.krl.specs.Published.{parts_length}
use Rattle.krl.proofs.Booleans.{ltb-yes, or_group}
use Rattle.krl.proofs.LengthLaws.{u64s_length}
use Rattle.krl.proofs.Shortest.{part_len, parts_len, has, least_of_all, least, ranges_alone, how_short, short_saves}
use Rattle.krl.proofs.Shortest.{lists_len, parts_len-append, written_cost, no_listed}

-- ---- any parts

-- the listed serials, the ranges, and the lists
abbrev pub serials_in : List Part → List ℕ
serials_in [] = []
serials_in (Serials ns ∷ ps) = ns ++ serials_in ps
serials_in (Range r ∷ ps) = serials_in ps
serials_in (KeyIds ids ∷ ps) = serials_in ps
serials_in (OtherPart t bytes ∷ ps) = serials_in ps

abbrev pub ranges_in : List Part → List Run
ranges_in [] = []
ranges_in (Serials ns ∷ ps) = ranges_in ps
ranges_in (Range r ∷ ps) = r ∷ ranges_in ps
ranges_in (KeyIds ids ∷ ps) = ranges_in ps
ranges_in (OtherPart t bytes ∷ ps) = ranges_in ps

named_parts : (ps : List Part) (n : ℕ) → named_set ps n ≡ (has (serials_in ps) n || contains (ranges_in ps) n)
named_parts [] n = refl
named_parts (Serials ns ∷ ps) n = ap (λ b. has ns n || b) (named_parts ps n)
    ∙ sym (or_group (has ns n) (has (serials_in ps) n) (contains (ranges_in ps) n))
    ∙ ap (λ b. b || contains (ranges_in ps) n) (sym (list_any-append (eqb n) ns (serials_in ps)))
named_parts (Range r ∷ ps) n = ap (λ b. is_within n r || b) (named_parts ps n)
    ∙ or_order (is_within n r) (has (serials_in ps) n) (contains (ranges_in ps) n)
named_parts (KeyIds ids ∷ ps) n = named_parts ps n
named_parts (OtherPart t bytes ∷ ps) n = named_parts ps n

parts_cost : (ps : List Part) → 8 * length (serials_in ps) + 21 * length (ranges_in ps) ≤ parts_len ps
parts_cost [] = omega arith
parts_cost (Serials ns ∷ ps) = let more = parts_cost ps in let both = length-append ns (serials_in ps) in omega arith
parts_cost (Range r ∷ ps) = let more = parts_cost ps in omega arith
parts_cost (KeyIds ids ∷ ps) = let more = parts_cost ps in omega arith
parts_cost (OtherPart t bytes ∷ ps) = let more = parts_cost ps in omega arith

-- a listed serial needs a list
list_cost : (ps : List Part) → 0 < length (serials_in ps)
    → 5 + 8 * length (serials_in ps) + 21 * length (ranges_in ps) ≤ parts_len ps
list_cost [] lt = absurd (omega arith)
list_cost (Serials ns ∷ ps) lt = let more = parts_cost ps in let both = length-append ns (serials_in ps) in omega arith
list_cost (Range r ∷ ps) lt = let more = list_cost ps lt in omega arith
list_cost (KeyIds ids ∷ ps) lt = let more = list_cost ps lt in omega arith
list_cost (OtherPart t bytes ∷ ps) lt = let more = list_cost ps lt in omega arith

-- ---- no parts that name the same set are shorter than the written ones

written_len : (rs : List Run) → AreRuns rs → parts_len (serial_parts rs) ≤ least_of_all rs + 5
written_len rs h =
    let a = parts_len-append (serial_list (listed rs)) (ranges rs) in
    let b = lists_len (listed rs) in
    let c = written_cost 0 rs h in
    omega arith

written_ranges : (rs : List Run) → AreRuns rs → how_short rs ≡ 0 → parts_len (serial_parts rs) ≡ least_of_all rs
written_ranges rs h none =
    let e = no_listed rs none in
    let c = written_cost 0 rs h in
    let empty : length (listed rs) ≡ 0 = ap length e in
    let rest : parts_len (ranges rs) ≡ least_of_all rs = omega arith in
    ap (λ (ns : List ℕ). parts_len (serial_list ns ++ ranges rs)) e ∙ rest

pub shortest_cost : (rs : List Run) (ps : List Part) → AreRuns rs → ((n : ℕ) → named_set ps n ≡ contains rs n)
    → parts_len (serial_parts rs) ≤ parts_len ps
shortest_cost rs ps h same =
    let both : (n : ℕ) → contains rs n ≡ (has (serials_in ps) n || contains (ranges_in ps) n) = λ n. sym (same n)
    ∙ named_parts ps n in
    let bound = least rs (serials_in ps) (ranges_in ps) h both in
    let len = written_len rs h in
    let cost = parts_cost ps in
    elim (cases_lt 0 (length (serials_in ps))) [
      | inl some ↦ let more = list_cost ps some in omega arith
      | inr none ↦
          let e : serials_in ps ≡ [] = nil_from_length _ (omega arith) in
          let alone = ranges_alone rs (ranges_in ps) h
          (λ n. both n ∙ ap (λ (ns : List ℕ). has ns n || contains (ranges_in ps) n) e) in
          elim (cases_lt 0 (how_short rs)) [
            | inl short ↦ let save = short_saves 0 rs h in omega arith
            | inr long ↦ let exact = written_ranges rs h (omega arith) in omega arith
          ]
    ]

-- ---- in bytes

part_bytes : (p : Part) → part_len p ≤ length (part_text p)
part_bytes (Serials ns) = let same = u64s_length ns in omega arith
part_bytes (Range r) = omega arith
part_bytes (KeyIds ids) = omega arith
part_bytes (OtherPart t bytes) = omega arith

parts_bytes : (ps : List Part) → parts_len ps ≤ parts_length ps
parts_bytes [] = omega arith
parts_bytes (p ∷ ps) = let one = part_bytes p in let more = parts_bytes ps in let both =
    length-append (part_text p) (flat_map part_text ps) in omega arith

ranges_bytes : (rs : List Run) → parts_length (ranges rs) ≡ parts_len (ranges rs)
ranges_bytes [] = refl
ranges_bytes (r ∷ rs) =
    let both = length-append (part_text (Range r)) (flat_map part_text (ranges rs)) in
    let more = ranges_bytes rs in
    elim (is_short r) as (λ b.
    parts_length (cond b (ranges rs) (Range r ∷ ranges rs)) ≡ parts_len (cond b (ranges rs) (Range r ∷ ranges rs)))
    [ true ↦ more | false ↦ omega arith ]

-- the cost of the written parts is exactly their length
pub serial_bytes : (rs : List Run) → parts_length (serial_parts rs) ≡ parts_len (serial_parts rs)
serial_bytes rs = by_list (listed rs)
  where
    by_list : (ns : List ℕ) → parts_length (serial_list ns ++ ranges rs) ≡ parts_len (serial_list ns ++ ranges rs)
    by_list [] = ranges_bytes rs
    by_list (n ∷ ns) =
        let more = ranges_bytes rs in
        let same = u64s_length (n ∷ ns) in
        let both = length-append (part_text (Serials (n ∷ ns))) (flat_map part_text (ranges rs)) in
        omega arith

pub shortest_bytes : (rs : List Run) (others : List Part) → AreRuns rs → ((n : ℕ) → named_set others n ≡ contains rs n)
    → parts_length (serial_parts rs) ≤ parts_length others
shortest_bytes rs others h same = let cost = shortest_cost rs others h same in let here = serial_bytes rs in let there =
    parts_bytes others in omega arith

-- ---- the written parts name the set

run_named : (r : Run) (n : ℕ) → r.lo ≤ r.hi → r.hi < r.lo + 2 → is_among (serials_of r) n ≡ is_within n r
run_named r n le lt = grind (arith, nat_tests)

list_named : (ns : List ℕ) (n : ℕ) → named_set (serial_list ns) n ≡ is_among ns n
list_named [] n = refl
list_named (m ∷ ns) n = or-false (is_among (m ∷ ns) n)

runs_named : (from : ℕ) (rs : List Run) (n : ℕ) → AreRunsFrom from rs
    → (is_among (listed rs) n || named_set (ranges rs) n) ≡ contains rs n
runs_named from [] n h = refl
runs_named from (r ∷ rs) n h = elim (cases_lt r.hi (r.lo + 2)) [
  | inl lt ↦ rw (ltb-yes lt) (
      ap (λ b. b || named_set (ranges rs) n) (list_any-append (eqb n) (serials_of r) (listed rs))
      ∙ or_group (is_among (serials_of r) n) (is_among (listed rs) n) (named_set (ranges rs) n)
      ∙ ap (λ b. b || (is_among (listed rs) n || named_set (ranges rs) n)) (run_named r n h.1 lt)
      ∙ ap (λ b. is_within n r || b) (runs_named (r.hi + 2) rs n h.3))
  | inr ge ↦
      rw (le-ltb _ _ ge) (or_order (is_among (listed rs) n) (is_within n r) (named_set (ranges rs) n)
      ∙ ap (λ b. is_within n r || b) (runs_named (r.hi + 2) rs n h.3))
]

pub serials_named : (rs : List Run) (n : ℕ) → AreRuns rs → named_set (serial_parts rs) n ≡ contains rs n
serials_named rs n h = list_any-append (names_serial n) (serial_list (listed rs)) (ranges rs)
    ∙ ap (λ b. b || named_set (ranges rs) n) (list_named (listed rs) n) ∙ runs_named 0 rs n h

-- no parts are shorter than the written ones
pub are_shortest : (rs : List Run) → AreRuns rs → AreShortest (serial_parts rs) rs
are_shortest rs h = record {
  names = λ n. serials_named rs n h;
  shortest = λ others same. shortest_bytes rs others h same;
}
