-- The size of an office's list, by the number of revoked serials and key IDs under each CA.
use Rattle.std.proofs.Common.{◌≡◌, ℕ, zero, suc, ◌+◌, ◌-◌, ◌<◌, ◌≤◌, List, [], ◌∷◌, ◌++◌, length, Bool, true, false}
use Rattle.std.proofs.Common.{cond, eqb, ◌&&◌, refl, sym, ap, subst, ◌∙◌, inl, inr, arith, length-append}
use Rattle.std.specs.List.{AllByRecursion}
use Rattle.std.proofs.lemmas.Bool.{and_left, cases_eq, cases_lt, eq-eqb, ltb-true, ne_eqb}
use Rattle.krl.specs.declared.ca_part.CaPart.{CaPart}
use Rattle.krl.specs.declared.run.Run.{Run}
use Rattle.krl.specs.Format.{Range}
use Rattle.krl.specs.Published.{ca_section, is_idle, is_short, key_id_parts, listed, published_sections, ranges}
use Rattle.krl.specs.Published.{sections_of, serial_list, serial_parts, serials_of}
use Rattle.krl.specs.Sets.{runs_in, with_first}
use Rattle.list_guard.specs.Sizes.{part_size, section_size, sum_of}
use Rattle.office.specs.declared.ca.Ca.{Ca}
use Rattle.office.specs.Publication.{is_revoked_under, part_of, parts_from}
use Rattle.office.specs.State.{State as Office}

sum_append : {X : Type 0} (size : X → ℕ) (xs ys : List X) → sum_of size (xs ++ ys) ≡ sum_of size xs + sum_of size ys
sum_append size [] ys = omega arith
sum_append size (x ∷ xs) ys = let more = sum_append size xs ys in omega (arith, more)

-- ---- the serials of runs

-- each run has a serial
abbrev pub HaveSerials : List Run → Type 0
HaveSerials rs = AllByRecursion (λ r. r.lo ≤ r.hi) rs

-- how many serials they have
abbrev pub runs_size : List Run → ℕ
runs_size rs = sum_of (λ r. r.hi + 1 - r.lo) rs

abbrev pub one_if : Bool → ℕ
one_if b = cond b 1 0

-- how many of the `count` serials from `from` on are in the set
abbrev pub count_in : (ℕ → Bool) → ℕ → ℕ → ℕ
count_in set from zero = 0
count_in set from (suc count) = one_if (set from) + count_in set (from + 1) count

first_have : (n : ℕ) (rs : List Run) → HaveSerials rs → HaveSerials (with_first n rs)
first_have n [] have = (omega arith, tt)
first_have n (r ∷ rs) have = elim (cases_eq r.lo (n + 1)) [
  | inl next ↦ rw (eq-eqb r.lo (n + 1) next) (let some = have.0 in omega (arith, next, some), have.1)
  | inr apart ↦ rw (ne_eqb r.lo (n + 1) apart) (omega arith, have)
]

first_size : (n : ℕ) (rs : List Run) → HaveSerials rs → runs_size (with_first n rs) ≡ 1 + runs_size rs
first_size n [] have = omega arith
first_size n (r ∷ rs) have = elim (cases_eq r.lo (n + 1)) [
  | inl next ↦ rw (eq-eqb r.lo (n + 1) next) (let some = have.0 in omega (arith, next, some))
  | inr apart ↦ rw (ne_eqb r.lo (n + 1) apart) (omega arith)
]

-- the runs have this many serials, and each has one
record Have (rs : List Run) (count : ℕ) : Type 0 where
  some : HaveSerials rs
  size : runs_size rs ≡ count

one_more : (b : Bool) (n : ℕ) (rs : List Run) (count : ℕ) → Have rs count
    → Have (cond b (with_first n rs) rs) (one_if b + count)
one_more true n rs count have =
    let longer = first_size n rs have.some in
    let size = have.size in
    record { some = first_have n rs have.some; size = omega (arith, longer, size) }
one_more false n rs count have = let size = have.size in record { some = have.some; size = omega (arith, size) }

-- the runs of a set have its serials
runs_have : (set : ℕ → Bool) (from count : ℕ) → Have (runs_in set from count) (count_in set from count)
runs_have set from zero = record { some = tt; size = refl }
runs_have set from (suc count) =
    one_more (set from) from (runs_in set (from + 1) count) (count_in set (from + 1) count)
    (runs_have set (from + 1) count)

-- ---- the parts of a section

short_size : (r : Run) → r.lo ≤ r.hi → is_short r ≡ true → length (serials_of r) ≡ r.hi + 1 - r.lo
short_size r some short =
    let top = ltb-true r.hi (r.lo + 2) short in
    elim (cases_lt r.lo r.hi) [
      | inl two ↦ rw (ne_eqb r.lo r.hi (λ (e : r.lo ≡ r.hi). omega (arith, e, two))) (omega (arith, top, two))
      | inr one ↦ rw (eq-eqb r.lo r.hi (omega (arith, one, some))) (omega (arith, one, some))
    ]

list_part_size : (ns : List ℕ) → sum_of part_size (serial_list ns) ≡ length ns
list_part_size [] = refl
list_part_size (n ∷ ns) = omega arith

key_id_size : (ids : List (List ℕ)) → sum_of part_size (key_id_parts ids) ≡ length ids
key_id_size [] = refl
key_id_size (i ∷ ids) = omega arith

-- the serials of the short runs, and those of the long ones
both_sizes : (rs : List Run) → HaveSerials rs → length (listed rs) + sum_of part_size (ranges rs) ≡ runs_size rs
both_sizes [] have = omega arith
both_sizes (r ∷ rs) have = by_short (is_short r) refl (both_sizes rs have.1)
  where
    by_short : (b : Bool) → is_short r ≡ b → length (listed rs) + sum_of part_size (ranges rs) ≡ runs_size rs
        → length (cond b (serials_of r ++ listed rs) (listed rs))
        + sum_of part_size (cond b (ranges rs) (Range r ∷ ranges rs))
        ≡ (r.hi + 1 - r.lo) + runs_size rs
    by_short true short more =
        let own = short_size r have.0 short in
        let sum = length-append (serials_of r) (listed rs) in
        omega (arith, own, sum, more)
    by_short false long more = omega (arith, more)

parts_size : (rs : List Run) (ids : List (List ℕ)) → HaveSerials rs
    → sum_of part_size (serial_parts rs ++ key_id_parts ids) ≡ runs_size rs + length ids
parts_size rs ids have =
    let all = sum_append part_size (serial_parts rs) (key_id_parts ids) in
    let own : sum_of part_size (serial_parts rs)
    ≡ sum_of part_size (serial_list (listed rs)) + sum_of part_size (ranges rs)
    = sum_append part_size (serial_list (listed rs)) (ranges rs) in
    let short = list_part_size (listed rs) in
    let both = both_sizes rs have in
    let key_ids = key_id_size ids in
    omega (arith, all, own, short, both, key_ids)

-- ---- sections

-- the size of a CA's section, if this many serials and key IDs are revoked under it. If none is, it has no section
abbrev pub size_with : ℕ → ℕ
size_with n = cond (eqb n 0) 0 (1 + n)

not_zero : (n : ℕ) → 1 ≤ n → eqb n 0 ≡ false
not_zero n some = ne_eqb n 0 (λ (e : n ≡ 0). omega (arith, e, some))

pub size_of_some : (n : ℕ) → 1 ≤ n → size_with n ≡ 1 + n
size_of_some n some = ap (λ b. cond b 0 (1 + n)) (not_zero n some)

size_of_none : (n : ℕ) → n ≡ 0 → size_with n ≡ 0
size_of_none n none = ap (λ b. cond b 0 (1 + n)) (eq-eqb n 0 none)

-- a CA has no section exactly if nothing is revoked under it
idle_size : (rs : List Run) (ids : List (List ℕ)) → HaveSerials rs
    → (eqb (length rs) 0 && eqb (length ids) 0) ≡ eqb (runs_size rs + length ids) 0
idle_size [] ids have = let same : length ids ≡ 0 + length ids = omega arith in ap (λ (n : ℕ). eqb n 0) same
idle_size (r ∷ rs) ids have =
    let some = have.0 in
    let long : 1 ≤ runs_size (r ∷ rs) + length ids = omega (arith, some) in
    and_left (eqb (length (r ∷ rs)) 0) (eqb (length ids) 0) (not_zero (length (r ∷ rs)) (omega arith))
    ∙ sym (not_zero (runs_size (r ∷ rs) + length ids) long)

one_section : (ids : List (List ℕ)) (p : CaPart) → HaveSerials p.runs
    → sum_of section_size (sections_of ids p) ≡ size_with (runs_size p.runs + length ids)
one_section ids p have =
    by_idle (is_idle ids p) ∙ ap (λ b. cond b 0 (1 + (runs_size p.runs + length ids))) (idle_size p.runs ids have)
  where
    by_idle : (b : Bool) → sum_of section_size (cond b [] (ca_section ids p ∷ []))
        ≡ cond b 0 (1 + (runs_size p.runs + length ids))
    by_idle true = refl
    by_idle false = let parts = parts_size p.runs ids have in omega (arith, parts)

-- ---- lists

-- how many serials and key IDs are revoked under the CA at the place
abbrev pub amount : Office → ℕ → ℕ
amount s place =
    count_in (is_revoked_under s place) s.opening.first (length s.certificates) + length s.revoked_key_ids

-- the size of the sections of `count` CAs from the place `from` on, if these amounts are revoked under them
abbrev pub total : (ℕ → ℕ) → ℕ → ℕ → ℕ
total amounts from zero = 0
total amounts from (suc count) = size_with (amounts from) + total amounts (suc from) count

pub office_total : (s : Office) (from : ℕ) (cas : List Ca)
    → sum_of section_size (published_sections (parts_from s from cas) s.revoked_key_ids)
    ≡ total (amount s) from (length cas)
office_total s from [] = refl
office_total s from (ca ∷ cas) =
    let ids = s.revoked_key_ids in
    let part : CaPart = part_of s from ca in
    let have = runs_have (is_revoked_under s from) s.opening.first (length s.certificates) in
    let here : sum_of section_size (sections_of ids part) ≡ size_with (amount s from)
    = one_section ids part have.some ∙ ap (λ (n : ℕ). size_with (n + length ids)) have.size in
    let both = sum_append section_size (sections_of ids part) (published_sections (parts_from s (suc from) cas) ids) in
    let more = office_total s (suc from) cas in
    omega (arith, here, both, more)

-- ---- amounts that grow

pub size_grows : (m n : ℕ) → m ≤ n → size_with m ≤ size_with n
size_grows m n le = elim (cases_lt 0 m) [
  | inl some ↦
      let old = size_of_some m (omega (arith, some)) in
      let new = size_of_some n (omega (arith, some, le)) in
      omega (arith, old, new, le)
  | inr none ↦ let old = size_of_none m (omega (arith, none)) in omega (arith, old)
]

size_more : (m n : ℕ) → m + 1 ≤ n → size_with m + 1 ≤ size_with n
size_more m n lt =
    let new = size_of_some n (omega (arith, lt)) in
    elim (cases_lt 0 m) [
      | inl some ↦ let old = size_of_some m (omega (arith, some)) in omega (arith, old, new, lt)
      | inr none ↦ let old = size_of_none m (omega (arith, none)) in omega (arith, old, new, lt)
    ]

pub total_grows : (f g : ℕ → ℕ) (from count : ℕ) → ((place : ℕ) → place < from + count → f place ≤ g place)
    → total f from count ≤ total g from count
total_grows f g from zero each = omega arith
total_grows f g from (suc count) each =
    let here = size_grows (f from) (g from) (each from (omega arith)) in
    let more = total_grows f g (suc from) count (λ place lt. each place (omega (arith, lt))) in
    omega (arith, here, more)

-- the amount under one of the CAs has grown
pub total_more : (f g : ℕ → ℕ) (from count : ℕ) → ((place : ℕ) → place < from + count → f place ≤ g place)
    → (place : ℕ) → from ≤ place → place < from + count → f place + 1 ≤ g place
    → total f from count + 1 ≤ total g from count
total_more f g from zero each place low high gained = absurd (omega (arith, low, high))
total_more f g from (suc count) each place low high gained = elim (cases_lt from place) [
  | inl later ↦
      let here = size_grows (f from) (g from) (each from (omega arith)) in
      let more = total_more f g (suc from) count (λ p lt. each p (omega (arith, lt))) place (omega (arith, later))
      (omega (arith, high)) gained in
      omega (arith, here, more)
  | inr first ↦
      let same : place ≡ from = omega (arith, first, low) in
      let here = size_more (f from) (g from) (subst (λ (k : ℕ). f k + 1 ≤ g k) same gained) in
      let more = total_grows f g (suc from) count (λ p lt. each p (omega (arith, lt))) in
      omega (arith, here, more)
]

-- the section of one more CA
pub total_push : (f : ℕ → ℕ) (from count : ℕ)
    → total f from (suc count) ≡ total f from count + size_with (f (from + count))
total_push f from zero =
    let same : size_with (f from) ≡ size_with (f (from + 0)) = ap (λ (k : ℕ). size_with (f k)) (omega arith) in
    omega (arith, same)
total_push f from (suc count) =
    let more = total_push f (suc from) count in
    let same : size_with (f (suc from + count)) ≡ size_with (f (from + suc count))
    = ap (λ (k : ℕ). size_with (f k)) (omega arith) in
    omega (arith, more, same)
