-- Pairs whose names ascend: no two names are the same, and two lists of the same pairs are equal.
use Rattle.cert.proofs.Words.{AllByRecursion, Bool, Equal, Greater, Less, List, OptionField, Ordering, Pair, []}
use Rattle.cert.proofs.Words.{and_from, and_parts, ap, both_ways, bytes_eq, bytes_eq-Decides, comes_before, false, inl}
use Rattle.cert.proofs.Words.{inr, is_ascending, is_eq, is_eq-slice_cmp, is_known, is_lt, is_option, known_names}
use Rattle.cert.proofs.Words.{length, list_all, list_any, nat_cmp, nat_list_cmp_total, nat_list_eq_equiv, or_cases}
use Rattle.cert.proofs.Words.{ordering_reverse, refl, slice_cmp, subst, sym, true, ℕ, ◌&&◌, ◌||◌, ◌∙◌, ◌∷◌, ◌≡◌, ◌≤◌}
use Rattle.std.proofs.Common.{◌⊎◌, map}
use Rattle.std.specs.List.{IsDistinct}
use Rattle.std.proofs.lemmas.Bool.{and_left, or_from, or_left, or_right}
use Rattle.std.proofs.lemmas.Map.Made.{length-le_from_is_member}
use Rattle.cert.proofs.Listing.{all_later, all_alike}

-- the names of the pairs
abbrev pub names : List Pair → List (List ℕ)
names ps = map (λ p. p.name) ps

-- if one of two names comes before the other, their bytes differ
pub apart : (a b : List ℕ) → comes_before a b ≡ true → bytes_eq a b ≡ false
apart a b h = sym (is_eq-slice_cmp a b) ∙ not_both (slice_cmp nat_cmp a b) h
  where
    not_both : (o : Ordering) → is_lt o ≡ true → is_eq o ≡ false
    not_both Less h = refl
    not_both Equal h = absurd cc
    not_both Greater h = refl

all_apart : (name : List ℕ) (ps : List Pair) → list_all (λ q. comes_before name q.name) ps ≡ true
    → AllByRecursion (λ y. bytes_eq name y ≡ false) (names ps)
all_apart name [] h = tt
all_apart name (p ∷ ps) h =
    let parts = and_parts (comes_before name p.name) _ h in
    (apart name p.name parts.0, all_apart name ps parts.1)

-- no two names are the same
pub names-distinct : (ps : List Pair) → is_ascending ps ≡ true → IsDistinct bytes_eq (names ps)
unfolding IsDistinct
names-distinct [] h = tt
names-distinct (p ∷ ps) h =
    let parts = and_parts (list_all (λ q. comes_before p.name q.name) ps) _ h in
    (all_apart p.name ps parts.0, names-distinct ps parts.1)

-- the order of the two compared texts doesn't matter
flipped : (name : List ℕ) (known : List (List ℕ)) → list_any (λ t. bytes_eq t name) known ≡ true
    → list_any (bytes_eq name) known ≡ true
flipped name [] h = absurd cc
flipped name (t ∷ known) h = elim (or_cases (bytes_eq t name) _ h) [
  | inl this ↦ or_left (bytes_eq name t) _ (nat_list_eq_equiv.symm name t ∙ this)
  | inr other ↦ or_right (bytes_eq name t) _ (flipped name known other)
]

-- each of the names is known
all_known : (field : OptionField) (ps : List Pair) → list_all (is_option field) ps ≡ true → (name : List ℕ)
    → list_any (bytes_eq name) (names ps) ≡ true
    → list_any (bytes_eq name) (known_names field) ≡ true
all_known field [] lawful name h = absurd cc
all_known field (p ∷ ps) lawful name h =
    let parts = and_parts (is_option field p) _ lawful in
    let known = and_parts (is_known field p.name) _ parts.0 in
    elim (or_cases (bytes_eq name p.name) _ h) [
      | inl this ↦
          let same : name ≡ p.name = (bytes_eq-Decides name p.name).0 this in
          rw same (flipped p.name (known_names field) known.0)
      | inr other ↦ all_known field ps parts.1 name other
    ]

-- there are at most as many options as known names
pub length-le_known : (field : OptionField) (ps : List Pair) → is_ascending ps ≡ true
    → list_all (is_option field) ps ≡ true → length (names ps) ≤ length (known_names field)
length-le_known field ps rising lawful =
    length-le_from_is_member nat_list_eq_equiv (names ps) (known_names field) (names-distinct ps rising)
    (all_known field ps lawful)

-- ---- two ascending lists of the same pairs are equal

abbrev is_pair : Pair → Pair → Bool
is_pair p q = bytes_eq q.name p.name && bytes_eq q.value p.value

pair_is : (p q : Pair) → is_pair p q ≡ true → q ≡ p
pair_is p q h =
    let parts = and_parts (bytes_eq q.name p.name) _ h in
    let name = (bytes_eq-Decides q.name p.name).0 parts.0 in
    let value = (bytes_eq-Decides q.value p.value).0 parts.1 in
    ap (λ (n : List ℕ). record q { name = n }) name ∙ ap (λ (v : List ℕ). record p { value = v }) value

is_itself : (p : Pair) → is_pair p p ≡ true
is_itself p = and_from (bytes_eq p.name p.name) _ ((bytes_eq-Decides p.name p.name).1 refl)
    ((bytes_eq-Decides p.value p.value).1 refl)

not_itself : (name : List ℕ) → comes_before name name ≡ false
not_itself name = by (slice_cmp nat_cmp name name) (is_eq-slice_cmp name name ∙ (bytes_eq-Decides name name).1 refl)
  where
    by : (o : Ordering) → is_eq o ≡ true → is_lt o ≡ false
    by Less h = absurd cc
    by Equal h = refl
    by Greater h = absurd cc

-- a pair whose name comes before all of the names is none of the pairs
none_there : (p : Pair) (qs : List Pair) → list_all (λ q. comes_before p.name q.name) qs ≡ true
    → list_any (is_pair p) qs ≡ false
none_there p [] h = refl
none_there p (q ∷ qs) h =
    let parts = and_parts (comes_before p.name q.name) _ h in
    let other : bytes_eq q.name p.name ≡ false = nat_list_eq_equiv.symm q.name p.name ∙ apart p.name q.name parts.0 in
    or_from (is_pair p q) _ (and_left (bytes_eq q.name p.name) _ other) (none_there p qs parts.1)

-- of two ascending lists of the same pairs, the first doesn't begin with an earlier name
not_earlier : (p q : Pair) (ps qs : List Pair) → is_ascending (q ∷ qs) ≡ true → ((t : Pair → Bool)
    → list_any t (p ∷ ps) ≡ list_any t (q ∷ qs))
    → slice_cmp nat_cmp p.name q.name ≡ Less → ⊥
not_earlier p q ps qs h same e =
    let first : comes_before p.name q.name ≡ true = ap is_lt e in
    let parts = and_parts (list_all (λ r. comes_before q.name r.name) qs) _ h in
    let absent = none_there p (q ∷ qs) (and_from (comes_before p.name q.name) _ first
    (all_later p.name q.name qs first parts.0)) in
    both_ways _ absent (sym (same (is_pair p)) ∙ or_left (is_pair p p) _ (is_itself p))

same_first : (p q : Pair) (ps qs : List Pair) → is_ascending (p ∷ ps) ≡ true → is_ascending (q ∷ qs) ≡ true
    → ((t : Pair → Bool) → list_any t (p ∷ ps) ≡ list_any t (q ∷ qs)) → p ≡ q
same_first p q ps qs h g same = by (slice_cmp nat_cmp p.name q.name) refl
  where
    here : slice_cmp nat_cmp p.name q.name ≡ Equal → (is_pair p q ≡ true) ⊎ (list_any (is_pair p) qs ≡ true) → p ≡ q
    here e (inl there) = sym (pair_is p q there)
    here e (inr later) =
        let parts = and_parts (list_all (λ r. comes_before q.name r.name) qs) _ g in
        absurd (both_ways _ (none_there p qs (all_alike p.name q.name qs e parts.0)) later)

    by : (o : Ordering) → slice_cmp nat_cmp p.name q.name ≡ o → p ≡ q
    by Less e = absurd (not_earlier p q ps qs g same e)
    by Equal e = here e (or_cases (is_pair p q) _ (sym (same (is_pair p)) ∙ or_left (is_pair p p) _ (is_itself p)))
    by Greater e = absurd (not_earlier q p qs ps h (λ t. sym (same t)) (nat_list_cmp_total.antisymm q.name p.name
        ∙ ap ordering_reverse e))

after_first_alike : (name : List ℕ) (t : Pair → Bool) (ps : List Pair)
    → list_all (λ q. comes_before name q.name) ps ≡ true
    → list_any (λ q. comes_before name q.name && t q) ps ≡ list_any t ps
after_first_alike name t [] h = refl
after_first_alike name t (p ∷ ps) h =
    let parts = and_parts (comes_before name p.name) _ h in
    ap (λ b. (b && t p) || list_any (λ q. comes_before name q.name && t q) ps) parts.0
    ∙ ap (λ b. t p || b) (after_first_alike name t ps parts.1)

-- two ascending lists of the same pairs are equal
pub same_pairs : (ps qs : List Pair) → is_ascending ps ≡ true → is_ascending qs ≡ true → ((t : Pair → Bool)
    → list_any t ps ≡ list_any t qs) → ps ≡ qs
same_pairs [] [] h g same = refl
same_pairs [] (q ∷ qs) h g same = absurd (let e : false ≡ true = same (λ p. true) in cc)
same_pairs (p ∷ ps) [] h g same = absurd (let e : true ≡ false = same (λ p. true) in cc)
same_pairs (p ∷ ps) (q ∷ qs) h g same =
    let first = same_first p q ps qs h g same in
    let mine = and_parts (list_all (λ r. comes_before p.name r.name) ps) _ h in
    let others = and_parts (list_all (λ r. comes_before q.name r.name) qs) _ g in
    let theirs : list_all (λ r. comes_before p.name r.name) qs ≡ true = subst (λ (x : Pair). list_all
    (λ r. comes_before x.name r.name) qs ≡ true) (sym first) others.0 in
    let passed : (t : Pair → Bool) (x : Pair) → comes_before p.name x.name ≡ false
    → (comes_before p.name x.name && t x) ≡ false = λ t x e. and_left (comes_before p.name x.name) _ e in
    let rest : (t : Pair → Bool) → list_any t ps ≡ list_any t qs = λ t.
    let u : Pair → Bool = λ x. comes_before p.name x.name && t x in
    let at_p : u p ≡ false = passed t p (not_itself p.name) in
    let at_q : u q ≡ false = passed t q (subst (λ (x : Pair). comes_before p.name x.name ≡ false) first
    (not_itself p.name)) in
    sym (after_first_alike p.name t ps mine.0) ∙ ap (λ b. b || list_any u ps) (sym at_p) ∙ same u
    ∙ ap (λ b. b || list_any u qs) at_q ∙ after_first_alike p.name t qs theirs
    in
    ap (λ (x : Pair). x ∷ ps) first ∙ ap (λ (l : List Pair). q ∷ l) (same_pairs ps qs mine.1 others.1 rest)
