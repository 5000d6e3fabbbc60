-- Reading key ids in order.
use Rattle.krl.proofs.Words.{AllByRecursion, Bool, IsString, List, None, Option, Some, [], ap, append_assoc}
use Rattle.krl.proofs.Words.{bytes_eq, false, flat_map, inl, inr, refl, same_Some, string_text, subst, sym, true}
use Rattle.krl.proofs.Words.{ℕ, ◌++◌, ◌∙◌, ◌∷◌, ◌≡◌, ◌≢◌}
use Rattle.std.specs.Ordering.{is_eq, nat_cmp, ordering_reverse}
use Rattle.std.specs.declared.cmp.Ordering.TheVariants.{Equal, Greater, Less}
use Rattle.std.specs.Cmp.Lexicographic.{slice_cmp}
use Rattle.std.proofs.lemmas.Cmp.{nat_list_cmp_total}
use Rattle.std.proofs.lemmas.List.{append-nil, flat_map_more}
use Rattle.std.proofs.lemmas.Map.Text.{is_eq-slice_cmp}
use Rattle.std.proofs.lemmas.Slice.Eq.{bytes_eq-Decides}
use Rattle.std.proofs.lemmas.Bool.{or_left}
use Rattle.wire.proofs.Laws.{string_again}
use Rattle.wire.specs.Reading.{string_at}
use Rattle.krl.specs.Published.{is_listed_key_id}
use Rattle.krl.specs.Contents.{Ascend, AscendBehind}
use Rattle.krl.specs.Fronts.{AreIds, AscendNext}
use Rattle.krl.proofs.Booleans.{clash, or_cases, or_true}

-- ---- the order of key ids

-- a key id differs from the one that it comes before
pub apart : (a b : List ℕ) → slice_cmp nat_cmp a b ≡ Less → bytes_eq a b ≡ false
apart a b less = sym (is_eq-slice_cmp a b) ∙ ap is_eq less

pub greater : (a b : List ℕ) → slice_cmp nat_cmp a b ≡ Greater → slice_cmp nat_cmp b a ≡ Less
greater a b more = nat_list_cmp_total.antisymm b a ∙ ap ordering_reverse more

pub equal : (a b : List ℕ) → slice_cmp nat_cmp a b ≡ Equal → a ≡ b
equal a b same = (bytes_eq-Decides a b).0 (sym (is_eq-slice_cmp a b) ∙ ap is_eq same)

-- a key id that comes before all of them is none of them
pub not_among : (i before : List ℕ) (ids : List (List ℕ)) → AscendBehind before ids → slice_cmp nat_cmp i before ≡ Less
    → is_listed_key_id ids i ≡ false
not_among i before [] h less = refl
not_among i before (j ∷ ids) h less =
    let below = nat_list_cmp_total.trans i before j less h.0 in
    let differ : bytes_eq j i ≡ false = bytes_eq-back i j (apart i j below) in
    rw differ (not_among i j ids h.1 below)
  where
    bytes_eq-back : (a b : List ℕ) → bytes_eq a b ≡ false → bytes_eq b a ≡ false
    bytes_eq-back a b differ = by_test (bytes_eq b a) refl
      where
        by_test : (t : Bool) → bytes_eq b a ≡ t → t ≡ false
        by_test false e = refl
        by_test true e = clash (bytes_eq a b) ((bytes_eq-Decides a b).1 (sym ((bytes_eq-Decides b a).0 e))) differ

-- ---- ascending key ids

-- The key ids read so far, and what every reading of the whole has left after them.
pub record IdsSoFar (bytes : List ℕ) (last : Option (List ℕ)) (rest : List ℕ) : Type 0 where
  pub done : List (List ℕ)
  pub lawful : (ids : List (List ℕ)) → AscendNext last ids → Ascend (done ++ ids)
  pub short : AllByRecursion IsString done
  pub read : bytes ≡ flat_map string_text done ++ rest
  pub left : (ids : List (List ℕ)) → AreIds bytes ids
      → (others : List (List ℕ)) × AscendNext last others × AllByRecursion IsString others
      × (rest ≡ flat_map string_text others)

pub no_ids : (bytes : List ℕ) → IdsSoFar bytes None bytes
no_ids bytes = record {
  done = [];
  lawful = λ ids h. h;
  short = tt;
  read = refl;
  left = λ ids are. (ids, are.ascending, are.short, are.text);
}

-- the key id that is read next is the first of the remaining ones
pub first_id : (rest : List ℕ) (others : List (List ℕ)) (result : Option (List ℕ × List ℕ)) → rest ≢ []
    → AllByRecursion IsString others → rest ≡ flat_map string_text others → result ≡ string_at rest
    → (i : List ℕ) × (is : List (List ℕ)) × (others ≡ i ∷ is) × (result ≡ Some (i, flat_map string_text is))
first_id rest [] result some short text reads = absurd (some text)
first_id rest (i ∷ is) result some short text reads =
    (i, is, refl, reads ∙ ap string_at text ∙ string_again i (flat_map string_text is) short.0)

-- a key id that comes next, and others after it
next_one : (last : Option (List ℕ)) (i : List ℕ) (is : List (List ℕ)) → AscendNext last (i ∷ is)
    → AscendNext last (i ∷ []) × AscendNext (Some i) is
next_one None i is h = (tt, h)
next_one (Some l) i is h = ((h.0, tt), h.1)

next_all : (last : Option (List ℕ)) (i : List ℕ) (is : List (List ℕ)) → AscendNext last (i ∷ [])
    → AscendNext (Some i) is → AscendNext last (i ∷ is)
next_all None i is h k = k
next_all (Some l) i is h k = (h.0, k)

all_more : (xs : List (List ℕ)) (x : List ℕ) → AllByRecursion IsString xs → IsString x
    → AllByRecursion IsString (xs ++ x ∷ [])
all_more [] x h p = (p, tt)
all_more (y ∷ xs) x h p = (h.0, all_more xs x h.1 p)

text_more : (xs : List (List ℕ)) (x rest : List ℕ)
    → flat_map string_text (xs ++ x ∷ []) ++ rest ≡ flat_map string_text xs ++ (string_text x ++ rest)
text_more xs x rest =
    ap (λ t. t ++ rest) (sym (flat_map_more string_text [] xs x))
    ∙ append_assoc (flat_map string_text xs) (string_text x) rest

-- one more key id was read
pub one_id : (bytes rest next id : List ℕ) (last : Option (List ℕ)) → IdsSoFar bytes last rest → rest ≢ []
    → AscendNext last (id ∷ []) → IsString id → rest ≡ string_text id ++ next → Some (id, next) ≡ string_at rest
    → IdsSoFar bytes (Some id) next
one_id bytes rest next id last so some behind short text reads = record {
  done = so.done ++ id ∷ [];
  lawful = λ ids h. subst Ascend (sym (append_assoc so.done (id ∷ []) ids))
      (so.lawful (id ∷ ids) (next_all last id ids behind h));
  short = all_more so.done id so.short short;
  read = so.read ∙ ap (λ t. flat_map string_text so.done ++ t) text ∙ sym (text_more so.done id next);
  left = λ ids are.
      let others = so.left ids are in
      let first = first_id rest others.0 (Some (id, next)) some others.2 others.3 reads in
      let same = same_Some _ _ first.3 in
      let id_is : id ≡ first.0 = ap (λ (x : List ℕ × List ℕ). x.0) same in
      let next_is : next ≡ flat_map string_text first.1 = ap (λ (x : List ℕ × List ℕ). x.1) same in
      let rise : AscendNext last (first.0 ∷ first.1) = subst (AscendNext last) first.2 others.1 in
      let all : AllByRecursion IsString (first.0 ∷ first.1) = subst (AllByRecursion IsString) first.2 others.2 in (
        first.1,
        subst (λ i. AscendNext (Some i) first.1) (sym id_is) (next_one last first.0 first.1 rise).1,
        all.1,
        next_is,
      );
}

-- if no key id can be read, or the one that is read doesn't come next, the whole isn't a list of key ids
pub not_ids : (bytes rest : List ℕ) (last : Option (List ℕ)) (result : Option (List ℕ × List ℕ))
    → IdsSoFar bytes last rest
    → rest ≢ [] → result ≡ string_at rest
    → ((id next : List ℕ) → result ≡ Some (id, next) → AscendNext last (id ∷ []) → ⊥) → (ids : List (List ℕ))
    → AreIds bytes ids → ⊥
not_ids bytes rest last result so some reads stop ids are =
    let others = so.left ids are in
    let first = first_id rest others.0 result some others.2 others.3 reads in
    let rise : AscendNext last (first.0 ∷ first.1) = subst (AscendNext last) first.2 others.1 in
    stop first.0 (flat_map string_text first.1) first.3 (next_one last first.0 first.1 rise).0

nothing_next : (last : Option (List ℕ)) → AscendNext last []
nothing_next None = tt
nothing_next (Some l) = tt

pub ids_read : (bytes rest : List ℕ) (last : Option (List ℕ)) → IdsSoFar bytes last rest → rest ≡ []
    → (ids : List (List ℕ)) × AreIds bytes ids
ids_read bytes rest last so none = (
  so.done,
  record {
    ascending = subst Ascend (append-nil so.done) (so.lawful [] (nothing_next last));
    short = so.short;
    text = so.read ∙ ap (λ t. flat_map string_text so.done ++ t) none ∙ append-nil (flat_map string_text so.done);
  },
)

-- ---- kept key ids

-- each of the old key ids is one of the new ones
abbrev pub IdsKept : List (List ℕ) → List (List ℕ) → Type 0
IdsKept ids others = (i : List ℕ) → is_listed_key_id ids i ≡ true → is_listed_key_id others i ≡ true

-- All key ids are kept if and only if the remaining ones are.
pub record IdsStillKept (ids others : List (List ℕ)) (wanted rest : List ℕ) : Type 0 where
  pub old : List (List ℕ)
  pub new : List (List ℕ)
  pub old_are : AreIds wanted old
  pub new_are : AreIds rest new
  pub fewer : IdsKept ids others → IdsKept old new
  pub whole : IdsKept old new → IdsKept ids others

pub all_wanted : (ids others : List (List ℕ)) (old new : List ℕ) → AreIds old ids → AreIds new others
    → IdsStillKept ids others old new
all_wanted ids others old new a b = record {
  old = ids;
  new = others;
  old_are = a;
  new_are = b;
  fewer = λ x. x;
  whole = λ x. x;
}

no_string : None ≡ string_at []
no_string = refl

-- the key id that is read is the first one
pub read_first : (bytes id rest : List ℕ) (ids : List (List ℕ)) → AreIds bytes ids → Some (id, rest) ≡ string_at bytes
    → (is : List (List ℕ)) × (ids ≡ id ∷ is) × AscendBehind id is × AreIds rest is
read_first bytes id rest [] are reads = let none = reads ∙ ap string_at are.text in absurd cc
read_first bytes id rest (i ∷ is) are reads =
    let same = same_Some _ _ (reads ∙ ap string_at are.text ∙ string_again i (flat_map string_text is) are.short.0) in
    let id_is : id ≡ i = ap (λ (x : List ℕ × List ℕ). x.0) same in
    let rest_is : rest ≡ flat_map string_text is = ap (λ (x : List ℕ × List ℕ). x.1) same in (
      is,
      ap (λ j. j ∷ is) (sym id_is),
      subst (λ j. AscendBehind j is) (sym id_is) are.ascending,
      record { ascending = alone i is are.ascending; short = are.short.1; text = rest_is },
    )
  where
    alone : (i : List ℕ) (is : List (List ℕ)) → AscendBehind i is → Ascend is
    alone i [] h = tt
    alone i (j ∷ is) h = h.1

pub read_none : (bytes : List ℕ) (ids : List (List ℕ)) → AreIds bytes ids → None ≡ string_at bytes → ids ≡ []
read_none bytes [] are reads = refl
read_none bytes (i ∷ is) are reads =
    let some = reads ∙ ap string_at are.text ∙ string_again i (flat_map string_text is) are.short.0 in absurd cc

pub none_wanted : (ids others : List (List ℕ)) (wanted rest : List ℕ) → IdsStillKept ids others wanted rest
    → None ≡ string_at wanted → IdsKept ids others
none_wanted ids others wanted rest k reads =
    let none = read_none wanted k.old k.old_are reads in
    k.whole (λ i is. let bad = sym (ap (λ os. is_listed_key_id os i) none) ∙ is in absurd cc)

itself : (i : List ℕ) (is : List (List ℕ)) → is_listed_key_id (i ∷ is) i ≡ true
itself i is = or_left (bytes_eq i i) (is_listed_key_id is i) ((bytes_eq-Decides i i).1 refl)

module _ (ids others : List (List ℕ)) (wanted rest id after : List ℕ) (k : IdsStillKept ids others wanted rest)
    (reads : Some (id, after) ≡ string_at wanted) where
  first : (is : List (List ℕ)) × (k.old ≡ id ∷ is) × AscendBehind id is × AreIds after is
  first = read_first wanted id after k.old k.old_are reads

  here : is_listed_key_id k.old id ≡ true
  here = ap (λ os. is_listed_key_id os id) first.1 ∙ itself id first.0

  pub none_there : None ≡ string_at rest → IdsKept ids others → ⊥
  none_there none kept =
      let empty = read_none rest k.new k.new_are none in
      let bad = sym (ap (λ ns. is_listed_key_id ns id) empty) ∙ k.fewer kept id here in
      cc

  module _ (other next : List ℕ) (there : Some (other, next) ≡ string_at rest) where
    second : (is : List (List ℕ)) × (k.new ≡ other ∷ is) × AscendBehind other is × AreIds next is
    second = read_first rest other next k.new k.new_are there

    -- a lower key id is skipped
    pub pass_id : slice_cmp nat_cmp other id ≡ Less → IdsStillKept ids others wanted next
    pass_id less = record {
      old = k.old;
      new = second.0;
      old_are = k.old_are;
      new_are = second.3;
      fewer = λ kept i is. elim
          (or_cases (bytes_eq other i) (is_listed_key_id second.0 i)
          (sym (ap (λ ns. is_listed_key_id ns i) second.1) ∙ k.fewer kept i is)) [
            | inl same ↦
                let is_other : other ≡ i = (bytes_eq-Decides other i).0 same in
                clash (is_listed_key_id k.old i) is (ap (λ os. is_listed_key_id os i) first.1
                ∙ ap (is_listed_key_id (id ∷ first.0)) (sym is_other)
                ∙ rw (apart-back other id less) (not_among other id first.0 first.2 less))
            | inr later ↦ later.1
          ];
      whole = λ kept. k.whole (λ i is. ap (λ ns. is_listed_key_id ns i) second.1
          ∙ rw (kept i is) (or_true (bytes_eq other i)));
    }
      where
        apart-back : (a b : List ℕ) → slice_cmp nat_cmp a b ≡ Less → bytes_eq b a ≡ false
        apart-back a b less = sym (is_eq-slice_cmp b a)
            ∙ ap is_eq (nat_list_cmp_total.antisymm b a ∙ ap ordering_reverse less)

    -- the key id is in the new list
    pub keep_id : slice_cmp nat_cmp other id ≡ Equal → IdsStillKept ids others after rest
    keep_id same = record {
      old = first.0;
      new = k.new;
      old_are = first.3;
      new_are = k.new_are;
      fewer = λ kept i is. k.fewer kept i (ap (λ os. is_listed_key_id os i) first.1 ∙ rw is (or_true (bytes_eq id i)));
      whole = λ kept. k.whole
          (λ i is. elim
          (or_cases (bytes_eq id i) (is_listed_key_id first.0 i) (sym (ap (λ os. is_listed_key_id os i) first.1) ∙ is)) [
            | inl this ↦
                let all_same : other ≡ i = equal other id same ∙ (bytes_eq-Decides id i).0 this in
                ap (λ ns. is_listed_key_id ns i) second.1
                ∙ or_left (bytes_eq other i) (is_listed_key_id second.0 i) ((bytes_eq-Decides other i).1 all_same)
            | inr later ↦ kept i later.1
          ]);
    }

    -- the key id is missing from the new list
    pub lose_id : slice_cmp nat_cmp other id ≡ Greater → IdsKept ids others → ⊥
    lose_id more kept =
        let less = greater other id more in
        clash (is_listed_key_id k.new id) (k.fewer kept id here)
        (ap (λ ns. is_listed_key_id ns id) second.1
        ∙ rw (sym (is_eq-slice_cmp other id) ∙ ap is_eq more) (not_among id other second.0 second.2 less))
