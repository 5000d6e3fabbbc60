-- Reading sections in order.
use Rattle.krl.proofs.Words.{AllByRecursion, Bool, CaPart, List, None, Option, Some, [], ap, append_assoc, arith}
use Rattle.krl.proofs.Words.{bytes_eq}
use Rattle.krl.proofs.Words.{cond, false, flat_map, inl, inr, length, length-append, list_all, refl, same_Some, subst}
use Rattle.krl.proofs.Words.{sym}
use Rattle.krl.proofs.Words.{true, ℕ, ◌++◌, ◌+◌, ◌∙◌, ◌∷◌, ◌≡◌, ◌≢◌, ◌≤◌}
use Rattle.std.specs.Option.{is_some, option_map}
use Rattle.std.proofs.lemmas.List.{append-nil, flat_map_more}
use Rattle.std.specs.Prelude.{find}
use Rattle.std.proofs.lemmas.Slice.Eq.{bytes_eq-Decides}
use Rattle.krl.specs.Published.{IsMemberOf}
use Rattle.krl.specs.Fronts.{AreSplit, AreWhole, IsWhole, listed_bytes, part_if_any, ranges_bytes, runs_under}
use Rattle.krl.specs.Fronts.{section_at}
use Rattle.krl.specs.Fronts.{whole_text}
use Rattle.krl.proofs.Booleans.{clash}
use Rattle.krl.proofs.SectionLaws.{none_whole, read_as}

-- The sections read so far, and what every reading of the whole has left after them.
pub record WholeSoFar (sections ids : List ℕ) (count : ℕ) (rest : List ℕ) : Type 0 where
  pub done : List CaPart
  pub as_many : length done ≡ count
  pub few : count ≤ 8
  pub whole : AllByRecursion (IsWhole ids) done
  pub read : sections ≡ flat_map (whole_text ids) done ++ rest
  pub left : (cas : List CaPart) → AreWhole sections ids cas
      → (others : List CaPart) × (length cas ≡ count + length others) × AllByRecursion (IsWhole ids) others
      × (rest ≡ flat_map (whole_text ids) others)

pub none_yet : (sections ids : List ℕ) → WholeSoFar sections ids 0 sections
none_yet sections ids = record {
  done = [];
  as_many = refl;
  few = omega arith;
  whole = tt;
  read = refl;
  left = λ cas are. (cas, omega arith, are.whole, are.text);
}

-- The result of reading the front of the remaining sections.
abbrev pub Reads : List ℕ → Option (List ℕ × List ℕ) → Type 0
Reads bytes result = (ids rest : List ℕ) (p : CaPart) → IsWhole ids p → bytes ≡ whole_text ids p ++ rest
    → result ≡ Some (ids, rest)

-- if bytes remain, some sections do, and the one that is read is the first of them
pub next_whole : (ids rest : List ℕ) (others : List CaPart) (result : Option (List ℕ × List ℕ)) → rest ≢ []
    → AllByRecursion (IsWhole ids) others → rest ≡ flat_map (whole_text ids) others → Reads rest result
    → (p : CaPart) × (ps : List CaPart) × (others ≡ p ∷ ps) × (result ≡ Some (ids, flat_map (whole_text ids) ps))
next_whole ids rest [] result some whole text reads = absurd (some text)
next_whole ids rest (p ∷ ps) result some whole text reads =
    (p, ps, refl, reads ids (flat_map (whole_text ids) ps) p whole.0 text)

all_more : (ids : List ℕ) (xs : List CaPart) (x : CaPart) → AllByRecursion (IsWhole ids) xs → IsWhole ids x
    → AllByRecursion (IsWhole ids) (xs ++ x ∷ [])
all_more ids [] x h p = (p, tt)
all_more ids (y ∷ xs) x h p = (h.0, all_more ids xs x h.1 p)

text_more : (text : CaPart → List ℕ) (xs : List CaPart) (x : CaPart) (rest : List ℕ)
    → flat_map text (xs ++ x ∷ []) ++ rest ≡ flat_map text xs ++ (text x ++ rest)
text_more text xs x rest =
    ap (λ t. t ++ rest) (sym (flat_map_more text [] xs x)) ∙ append_assoc (flat_map text xs) (text x) rest

-- one more section was read
pub one_whole : (sections ids rest next : List ℕ) (count : ℕ) (p : CaPart) → WholeSoFar sections ids count rest
    → rest ≢ [] → count ≢ 8 → IsWhole ids p → rest ≡ whole_text ids p ++ next → Reads rest (Some (ids, next))
    → WholeSoFar sections ids (count + 1) next
one_whole sections ids rest next count p so some room whole text reads = record {
  done = so.done ++ p ∷ [];
  as_many = let size = length-append so.done (p ∷ []) in let many = so.as_many in omega arith;
  few = let few = so.few in omega arith;
  whole = all_more ids so.done p so.whole whole;
  read = so.read ∙ ap (λ t. flat_map (whole_text ids) so.done ++ t) text
      ∙ sym (text_more (whole_text ids) so.done p next);
  left = λ cas are.
      let others = so.left cas are in
      let first = next_whole ids rest others.0 (Some (ids, next)) some others.2 others.3 reads in
      let after : next ≡ flat_map (whole_text ids) first.1 =
      ap (λ (x : List ℕ × List ℕ). x.1) (same_Some _ _ first.3) in
      let all : AllByRecursion (IsWhole ids) (first.0 ∷ first.1) =
      subst (AllByRecursion (IsWhole ids)) first.2 others.2 in
      let size = ap length first.2 in
      let many = others.1 in
      (first.1, omega arith, all.1, after);
}

-- if other key ids are read, or none, or a ninth section, then these aren't whole sections with these key ids
pub not_whole : (sections ids rest : List ℕ) (count : ℕ) (result : Option (List ℕ × List ℕ))
    → WholeSoFar sections ids count rest → rest ≢ [] → Reads rest result
    → ((next : List ℕ) → result ≡ Some (ids, next) → count ≡ 8) → (cas : List CaPart) → AreWhole sections ids cas → ⊥
not_whole sections ids rest count result so some reads stop cas are =
    let others = so.left cas are in
    let first = next_whole ids rest others.0 result some others.2 others.3 reads in
    let full = stop (flat_map (whole_text ids) first.1) first.3 in
    let size = ap length first.2 in
    let many = others.1 in
    let few = are.few in
    omega arith

pub whole_read : (sections ids rest : List ℕ) (count : ℕ) → WholeSoFar sections ids count rest → rest ≡ []
    → (cas : List CaPart) × AreWhole sections ids cas
whole_read sections ids rest count so none = (
  so.done,
  record {
    few = let many = so.as_many in let few = so.few in omega arith;
    whole = so.whole;
    text = so.read ∙ ap (λ t. flat_map (whole_text ids) so.done ++ t) none
        ∙ append-nil (flat_map (whole_text ids) so.done);
  },
)

-- ---- going through whole sections by their fronts

no_section : section_at [] ≡ None
unfolding section_at
no_section = refl

-- the section that is read at the front is the first one
pub first_section : (ids bytes ca l m r : List ℕ) (left : List CaPart) → AllByRecursion (IsWhole ids) left
    → bytes ≡ flat_map (whole_text ids) left → Some ((ca, (l, m)), r) ≡ section_at bytes
    → (p : CaPart) × (ps : List CaPart) × (left ≡ p ∷ ps) × (ca ≡ p.ca) × AreSplit l m p.runs (part_if_any 0x23 ids)
    × (r ≡ flat_map (whole_text ids) ps)
first_section ids bytes ca l m r [] whole text is =
    let none = is ∙ ap section_at text ∙ no_section in absurd cc
first_section ids bytes ca l m r (p ∷ ps) whole text is =
    let read = read_as bytes ids (flat_map (whole_text ids) ps) ca l m r p whole.0 text is in
    (p, ps, refl, read.0, read.1, read.2)

-- if none is read, none remains
pub no_more : (ids bytes : List ℕ) (left : List CaPart) → AllByRecursion (IsWhole ids) left
    → bytes ≡ flat_map (whole_text ids) left → None ≡ section_at bytes → left ≡ []
no_more ids bytes [] whole text is = refl
no_more ids bytes (p ∷ ps) whole text is =
    absurd (none_whole bytes ids (flat_map (whole_text ids) ps) p whole.0 text is)

-- the other sections are whole
pub others_whole : (ids : List ℕ) (left ps : List CaPart) (p : CaPart) → AllByRecursion (IsWhole ids) left
    → left ≡ p ∷ ps
    → IsWhole ids p × AllByRecursion (IsWhole ids) ps
others_whole ids left ps p whole same = subst (AllByRecursion (IsWhole ids)) same whole

-- ---- tests of CAs

pub all_lost : (f : CaPart → Bool) (cas left ps : List CaPart) (p : CaPart) → list_all f cas ≡ list_all f left
    → left ≡ p ∷ ps → f p ≡ false → false ≡ list_all f cas
all_lost f cas left ps p same is fails = sym (same ∙ ap (list_all f) is ∙ rw fails refl)

pub all_but : (f : CaPart → Bool) (cas left ps : List CaPart) (p : CaPart) → list_all f cas ≡ list_all f left
    → left ≡ p ∷ ps → f p ≡ true → list_all f cas ≡ list_all f ps
all_but f cas left ps p same is holds = same ∙ ap (list_all f) is ∙ rw holds refl

-- ---- the runs of a CA

pub runs_first : (ids ca : List ℕ) (ps : List CaPart) (p : CaPart) → bytes_eq p.ca ca ≡ true
    → runs_under ids ca (p ∷ ps) ≡ Some (listed_bytes p, ranges_bytes ids p)
runs_first ids ca ps p holds = rw holds refl

pub runs_later : (ids ca : List ℕ) (ps : List CaPart) (p : CaPart) → bytes_eq p.ca ca ≡ false
    → runs_under ids ca (p ∷ ps) ≡ runs_under ids ca ps
runs_later ids ca ps p fails = rw fails refl

-- runs that are found are those of a part
pub runs_found : (ids ca : List ℕ) (ps : List CaPart) (x : List ℕ × List ℕ) → runs_under ids ca ps ≡ Some x
    → (q : CaPart) × IsMemberOf q ps × (q.ca ≡ ca) × (x ≡ (listed_bytes q, ranges_bytes ids q))
runs_found ids ca [] x e = absurd cc
runs_found ids ca (p ∷ ps) x e = by_test (bytes_eq p.ca ca) refl (runs_found ids ca ps x) e
  where
    by_test : (b : Bool) → bytes_eq p.ca ca ≡ b
        → (runs_under ids ca ps ≡ Some x
        → (q : CaPart) × IsMemberOf q ps × (q.ca ≡ ca) × (x ≡ (listed_bytes q, ranges_bytes ids q)))
        → option_map {U = List ℕ × List ℕ} (λ q. (listed_bytes q, ranges_bytes ids q))
        (cond b (Some p) (find (λ q. bytes_eq q.ca ca) ps))
        ≡ Some x → (q : CaPart) × IsMemberOf q (p ∷ ps) × (q.ca ≡ ca) × (x ≡ (listed_bytes q, ranges_bytes ids q))
    by_test true holds more e = (p, inl refl, (bytes_eq-Decides p.ca ca).0 holds, sym (same_Some _ _ e))
    by_test false fails more e = let found = more e in (found.0, inr found.1, found.2, found.3)

-- if none are found, the CA has no part
pub runs_none : (ids ca : List ℕ) (ps : List CaPart) → runs_under ids ca ps ≡ None → (q : CaPart) → IsMemberOf q ps
    → q.ca ≢ ca
runs_none ids ca [] e q c same = absurd c
runs_none ids ca (p ∷ ps) e q c same = by_test (bytes_eq p.ca ca) refl (runs_none ids ca ps) e c
  where
    by_test : (b : Bool) → bytes_eq p.ca ca ≡ b
        → (runs_under ids ca ps ≡ None → (q : CaPart) → IsMemberOf q ps → q.ca ≢ ca)
        → option_map {U = List ℕ × List ℕ} (λ q. (listed_bytes q, ranges_bytes ids q))
        (cond b (Some p) (find (λ q. bytes_eq q.ca ca) ps))
        ≡ None → IsMemberOf q (p ∷ ps) → ⊥
    by_test true holds more e c = absurd cc
    by_test false fails more e (inl is) =
        clash (bytes_eq p.ca ca) ((bytes_eq-Decides p.ca ca).1 (ap (λ (x : CaPart). x.ca) is ∙ same)) fails
    by_test false fails more e (inr c) = more e q c same

module _ {A : Type 0} (ids ca : List ℕ) (ps : List CaPart) (o : Option A) (f : A → List ℕ × List ℕ)
    (reads : option_map f o ≡ runs_under ids ca ps) where
  pub another_part : is_some o ≡ true → (q : CaPart) × IsMemberOf q ps × (q.ca ≡ ca)
  another_part there = by_option o there reads
    where
      by_option : (o : Option A) → is_some o ≡ true → option_map f o ≡ runs_under ids ca ps
          → (q : CaPart) × IsMemberOf q ps × (q.ca ≡ ca)
      by_option None there reads = absurd cc
      by_option (Some x) there reads = let found = runs_found ids ca ps (f x) (sym reads) in (found.0, found.1, found.2)

  pub no_other : is_some o ≡ false → (q : CaPart) → IsMemberOf q ps → q.ca ≢ ca
  no_other none = by_option o none reads
    where
      by_option : (o : Option A) → is_some o ≡ false → option_map f o ≡ runs_under ids ca ps
          → (q : CaPart) → IsMemberOf q ps → q.ca ≢ ca
      by_option None none reads = runs_none ids ca ps (sym reads)
      by_option (Some x) none reads = absurd cc

-- if no bytes are written, there are no sections
pub no_whole_text : (ids : List ℕ) (cas : List CaPart) → flat_map (whole_text ids) cas ≡ [] → cas ≡ []
no_whole_text ids [] e = refl
no_whole_text ids (p ∷ cas) e = absurd cc
