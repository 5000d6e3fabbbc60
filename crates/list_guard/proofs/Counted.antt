-- Counting the items that bytes consist of, from the front.
use Rattle.std.proofs.Common.{◌/◌, ◌≤◌, Option, None, Some, drop, le-leb, leb, true, ◌≡◌, ◌≢◌, ◌++◌, ◌+◌, ◌*◌, ◌∷◌, [], ◌∙◌, ℕ, List, ap, arith, length, length-append, refl, subst, sym}
use Rattle.std.proofs.Math.Seq.{drop-append_seam}
use Rattle.std.proofs.lemmas.Bool.{and_from}
use Rattle.std.proofs.lemmas.Option.{same_Some}
use Rattle.std.specs.List.{AllByRecursion, flat_map}
use Rattle.krl.specs.declared.ca_part.CaPart.{CaPart}
use Rattle.krl.specs.Contents.{KrlContents, IsContentsPart, Publishes}
use Rattle.krl.specs.Published.{ca_section, fits, published_header, published_sections}
use Rattle.krl.specs.Sets.{AreRuns}
use Rattle.krl.proofs.Publishing.{lawful_sections}
use Rattle.krl.specs.Format.{IsPart, IsSection, KeyIds, OtherPart, Part, Range, Serials, header_text, part_data, part_type}
use Rattle.krl.specs.Format.{section_data, section_text}
use Rattle.list_guard.specs.Sizes.{part_size, sum_of}
use Rattle.wire.specs.Texts.{u64_text}

-- if the bytes are the joined texts of items, `rest` is the text of the last ones, and `count` counts those before them
abbrev pub CountsOn : {X : Type 0} → (X → List ℕ) → (X → Type 0) → (X → ℕ) → (bytes rest : List ℕ) → (count : ℕ) → Type 0
CountsOn {X} text Is size bytes rest count =
    (xs : List X) → AllByRecursion Is xs → bytes ≡ flat_map text xs
    → (left : List X) × AllByRecursion Is left × (rest ≡ flat_map text left) × (count + sum_of size left ≡ sum_of size xs)

pub none_counted : {X : Type 0} (text : X → List ℕ) (Is : X → Type 0) (size : X → ℕ) (bytes : List ℕ)
    → CountsOn text Is size bytes bytes 0
none_counted text Is size bytes xs all is = (xs, all, is, omega arith)

-- there is an item at the front, followed by others
abbrev pub Front : {X : Type 0} → (X → List ℕ) → (X → Type 0) → List ℕ → List X → Type 0
Front {X} text Is rest left =
    (x : X) × (others : List X) × (left ≡ x ∷ others) × Is x × AllByRecursion Is others × (rest ≡ text x ++ flat_map text others)

pub front : {X : Type 0} (text : X → List ℕ) (Is : X → Type 0) (rest : List ℕ) (left : List X) → AllByRecursion Is left
    → rest ≡ flat_map text left → rest ≢ [] → Front text Is rest left
front text Is rest [] all is some = absurd (some is)
front text Is rest (x ∷ xs) all is some = (x, xs, refl, all.0, all.1, is)

-- reading an item at the front gives its size, and the bytes after it
abbrev pub Reads : {X : Type 0} → (X → List ℕ) → (X → Type 0) → (X → ℕ) → (rest new : List ℕ) → (count : ℕ) → Type 0
Reads {X} text Is size rest new count =
    (x : X) (after : List ℕ) → Is x → rest ≡ text x ++ after → (count ≡ size x) × (new ≡ after)

pub one_more : {X : Type 0} (text : X → List ℕ) (Is : X → Type 0) (size : X → ℕ) (bytes rest new : List ℕ)
    (count more : ℕ) → rest ≢ [] → Reads text Is size rest new more → CountsOn text Is size bytes rest count
    → CountsOn text Is size bytes new (count + more)
one_more text Is size bytes rest new count more some reads on xs all is =
    let left = on xs all is in
    let next = front text Is rest left.0 left.1 left.2 some in
    let did = reads next.0 (flat_map text next.1) next.3 next.5 in
    let sum : sum_of size left.0 ≡ size next.0 + sum_of size next.1 = ap (sum_of size) next.2 in
    let before = left.3 in
    let its = did.0 in
    (next.1, next.4, did.1, omega (arith, before, its, sum))

-- if no byte is left, all items were counted
pub all_counted : {X : Type 0} (text : X → List ℕ) (Is : X → Type 0) (size : X → ℕ) (bytes rest : List ℕ) (count : ℕ)
    → ((x : X) (r : List ℕ) → text x ++ r ≢ []) → rest ≡ [] → CountsOn text Is size bytes rest count → (xs : List X)
    → AllByRecursion Is xs → bytes ≡ flat_map text xs → count ≡ sum_of size xs
all_counted {X} text Is size bytes rest count some none on xs all is =
    let left = on xs all is in
    let empty : left.0 ≡ [] = no_more left.0 (sym left.2 ∙ none) in
    let sum : sum_of size left.0 ≡ 0 = ap (sum_of size) empty in
    let before = left.3 in
    omega (arith, before, sum)
  where
    no_more : (ys : List X) → flat_map text ys ≡ [] → ys ≡ []
    no_more [] e = refl
    no_more (y ∷ ys) e = absurd (some y (flat_map text ys) e)

-- if bytes are left that don't start with an item, the whole bytes aren't the joined texts of items
pub none_stands : {X : Type 0} (text : X → List ℕ) (Is : X → Type 0) (size : X → ℕ) (bytes rest : List ℕ) (count : ℕ)
    → rest ≢ [] → ((x : X) (after : List ℕ) → Is x → rest ≢ text x ++ after) → CountsOn text Is size bytes rest count
    → (xs : List X) → AllByRecursion Is xs → bytes ≢ flat_map text xs
none_stands text Is size bytes rest count some none on xs all is =
    let left = on xs all is in
    let next = front text Is rest left.0 left.1 left.2 some in
    none next.0 (flat_map text next.1) next.3 next.5

-- ---- lengths

-- counting one for each item gives their number
pub sum_ones : {X : Type 0} (xs : List X) → sum_of (λ _. 1) xs ≡ length xs
sum_ones [] = refl
sum_ones (x ∷ xs) = let more = sum_ones xs in omega (arith, more)

-- each serial has eight bytes
pub serials_length : (ns : List ℕ) → length (flat_map u64_text ns) ≡ 8 * length ns
serials_length [] = refl
serials_length (n ∷ ns) =
    let more = serials_length ns in
    let both = length-append (u64_text n) (flat_map u64_text ns) in
    omega (arith, more, both)

-- so the number of serials in a list is an eighth of its length
pub serials_size : (p : Part) (bytes : List ℕ) → IsPart p → part_type p ≡ 0x20 → part_data p ≡ bytes
    → length bytes / 8 ≡ part_size p
serials_size (Serials ns) bytes is kind same =
    let long : 8 * length ns ≡ length bytes = sym (serials_length ns) ∙ ap length same in omega (arith, long)
serials_size (Range r) bytes is kind same = absurd (omega (arith, kind))
serials_size (KeyIds ids) bytes is kind same = absurd (omega (arith, kind))
serials_size (OtherPart t b) bytes is kind same = absurd (is.0.0 kind)

-- `Some` is injective on pairs
pub some_pair : (p q : ℕ × List ℕ) → Some p ≡ Some q → p ≡ q
some_pair p q same = same_Some p q same

pub none_some : {X : Type 0} (x : X) (o : Option X) → o ≡ None → o ≡ Some x → ⊥
none_some x o none some = absurd (let bad = sym none ∙ some in cc)

-- ---- the sections of a published list

all_runs : (cas : List CaPart) (ids : List (List ℕ)) → AllByRecursion (IsContentsPart ids) cas
    → AllByRecursion (λ p. AreRuns p.runs) cas
all_runs [] ids h = tt
all_runs (p ∷ cas) ids h = (h.0.runs, all_runs cas ids h.1)

all_fit : (cas : List CaPart) (ids : List (List ℕ)) → AllByRecursion (IsContentsPart ids) cas → fits cas ids ≡ true
all_fit [] ids h = refl
all_fit (p ∷ cas) ids h =
    let short = h.0.short in
    let fit : leb (length (section_data (ca_section ids p))) 4294967295 ≡ true = le-leb _ _ (omega (arith, short)) in
    and_from _ _ (rw h.0.busy fit) (all_fit cas ids h.1)

pub its_sections : (list : List ℕ) (c : KrlContents) → Publishes list c
    → AllByRecursion IsSection (published_sections c.cas c.ids)
its_sections list c is =
    lawful_sections c.cas c.ids (all_runs c.cas c.ids is.lawful.parts) (all_fit c.cas c.ids is.lawful.parts)

-- the sections follow the 44 bytes of the header
pub behind_head : (list : List ℕ) (c : KrlContents) → Publishes list c
    → drop 44 list ≡ flat_map section_text (published_sections c.cas c.ids)
behind_head list c is =
    let head = header_text (published_header c.head) in
    let rest = flat_map section_text (published_sections c.cas c.ids) in
    let long : length head ≡ 44 = omega arith in
    ap (drop 44) is.text ∙ subst (λ n. drop n (head ++ rest) ≡ rest) long (drop-append_seam head rest)

pub long_enough : (list : List ℕ) (c : KrlContents) → Publishes list c → 44 ≤ length list
long_enough list c is =
    let head = header_text (published_header c.head) in
    let rest = flat_map section_text (published_sections c.cas c.ids) in
    let both = ap length is.text in
    let sum = length-append head rest in
    let long : length head ≡ 44 = omega arith in
    omega (arith, both, sum, long)
