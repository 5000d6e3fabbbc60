-- Names in key IDs, and the rules and administrators that {name} stands in.
use Rattle.std.proofs.Common.{false, ◌≡◌, ◌-◌, ℕ, List, [], ◌∷◌, ◌++◌, length, Bool, cond, Option, Some, None}
use Rattle.std.proofs.Common.{take, drop, true, codes, not, ◌==◌, arith, ap, sym, inl, inr, ◌||◌, ◌&&◌}
use Rattle.std.proofs.Common.{◌∙◌, refl, length-append, take-append-drop}
use Rattle.std.specs.List.{list_all, list_any, take_while, Any}
use Rattle.std.proofs.Common.{All, get_or, subst}
use Rattle.std.specs.Prelude.{◌+◌, is_some}
use Rattle.std.proofs.lemmas.List.Folds.{Any-from_list_any}
use Rattle.std.specs.Option.{option_map_or}
use Rattle.std.specs.Str.{bytes_eq}
use Rattle.std.proofs.Math.Seq.{drop-append_seam, drop-append-add, take-append_seam}
use Rattle.std.proofs.lemmas.Bool.{and_parts, and_from, cases_Bool, cond-true, ne_eqb, not-true}
use Rattle.std.proofs.lemmas.List.Sums.{AllPass-from_list_all, take_while-cons}
use Rattle.std.proofs.lemmas.Option.{cond_some}
use Rattle.std.proofs.lemmas.Slice.Eq.{bytes_eq-Decides}
use Rattle.values.proofs.NameLemmas.{department_of-append, plain_found, plain_from}
use Rattle.values.specs.Laws.{IsMeant, IsNamed, Meets, MeetsFor, MeetsName}
use Rattle.values.specs.Names.{after_front, after_name, before_name, department_of, is_for_names, is_meant, is_name}
use Rattle.values.specs.Names.{meets, meets_name, meets_suffix, name_of}

same_bool : (a b : Bool) → (a ≡ true → b ≡ true) → (b ≡ true → a ≡ true) → a ≡ b
same_bool true true f g = refl
same_bool true false f g = sym (f refl)
same_bool false true f g = g refl
same_bool false false f g = refl

true_false : (b : Bool) → b ≡ true → b ≡ false → ⊥
true_false true on off = cc
true_false false on off = cc

-- ---- a text that continues

by_cut : (b : Bool) (d e : List ℕ)
    → option_map_or (λ (r : List ℕ). bytes_eq r e) (cond b (Some d) None) false ≡ true → (b ≡ true) × (d ≡ e)
by_cut true d e h = (refl, (bytes_eq-Decides d e).0 h)
by_cut false d e h = absurd cc

continued_found : (t front e : List ℕ)
    → option_map_or (λ (r : List ℕ). bytes_eq r e) (after_front front t) false ≡ true → t ≡ front ++ e
continued_found t front e h =
    let both = by_cut (bytes_eq (take (length front) t) front) (drop (length front) t) e h in
    sym (take-append-drop (length front) t)
    ∙ ap (λ (x : List ℕ). x ++ drop (length front) t) ((bytes_eq-Decides (take (length front) t) front).0 both.0)
    ∙ ap (λ (x : List ℕ). front ++ x) both.1

pub after_front-append : (front e : List ℕ) → after_front front (front ++ e) ≡ Some e
after_front-append front e =
    cond-true (bytes_eq (take (length front) (front ++ e)) front) (Some (drop (length front) (front ++ e))) None
    ((bytes_eq-Decides (take (length front) (front ++ e)) front).1 (take-append_seam front e))
    ∙ ap (λ (x : List ℕ). Some x) (drop-append_seam front e)

continued_again : (t front e : List ℕ) → t ≡ front ++ e
    → option_map_or (λ (r : List ℕ). bytes_eq r e) (after_front front t) false ≡ true
continued_again t front e same =
    ap (λ (x : List ℕ). option_map_or (λ (r : List ℕ). bytes_eq r e) (after_front front x) false) same
    ∙ ap (λ (o : Option (List ℕ)). option_map_or (λ (r : List ℕ). bytes_eq r e) o false) (after_front-append front e)
    ∙ (bytes_eq-Decides e e).1 refl

-- a text is the front and the end exactly when it begins with the front, and the end follows
pub continued : (t front e : List ℕ)
    → option_map_or (λ (r : List ℕ). bytes_eq r e) (after_front front t) false ≡ bytes_eq t (front ++ e)
continued t front e =
    same_bool _ _
    (λ h. (bytes_eq-Decides t (front ++ e)).1 (continued_found t front e h))
    (λ h. continued_again t front e ((bytes_eq-Decides t (front ++ e)).0 h))

-- ---- rules

-- a rule without {name} is met whatever the name
pub meets_plain : (name principal rule : List ℕ) → is_for_names rule ≡ false
    → meets name principal rule ≡ (bytes_eq principal rule || meets_suffix principal rule)
meets_plain name principal rule other =
    none_of (after_name rule) other
  where
    none_of : (o : Option (List ℕ)) → is_some o ≡ false
        → option_map_or (meets_name name principal) o (bytes_eq principal rule || meets_suffix principal rule)
        ≡ (bytes_eq principal rule || meets_suffix principal rule)
    none_of (Some x) h = absurd cc
    none_of None h = refl

pub meets_plain_found : (name principal rule : List ℕ) → is_for_names rule ≡ false
    → meets name principal rule ≡ true → Meets principal rule
meets_plain_found name principal rule other h =
    plain_found principal rule (sym (meets_plain name principal rule other) ∙ h)

pub meets_plain_from : (name principal rule : List ℕ) → is_for_names rule ≡ false → Meets principal rule
    → meets name principal rule ≡ true
meets_plain_from name principal rule other m =
    meets_plain name principal rule other ∙ plain_from principal rule m

named_found : (name principal e : List ℕ) → meets_name name principal e ≡ true → IsNamed name principal e
named_found name principal e h =
    let both = and_parts (bytes_eq principal (name ++ e)) _ h in
    record {
      spelled = (bytes_eq-Decides principal (name ++ e)).0 both.0;
      other = λ none root.
          let off = not-true (length e == 0 && bytes_eq principal (codes "root")) both.1 in
          let on : (length e == 0 && bytes_eq principal (codes "root")) ≡ true =
          and_from (length e == 0) (bytes_eq principal (codes "root")) (ap (λ (x : List ℕ). length x == 0) none)
          ((bytes_eq-Decides principal (codes "root")).1 root) in
          true_false (length e == 0 && bytes_eq principal (codes "root")) on off;
    }

named_from : (name principal e : List ℕ) → IsNamed name principal e → meets_name name principal e ≡ true
named_from name principal e is =
    and_from (bytes_eq principal (name ++ e)) (not (length e == 0 && bytes_eq principal (codes "root")))
    ((bytes_eq-Decides principal (name ++ e)).1 is.spelled) (other e is.other)
  where
    unless : (b : Bool) → (b ≡ true → ⊥) → not b ≡ true
    unless true h = absurd (h refl)
    unless false h = refl

    other : (e : List ℕ) → (e ≡ [] → principal ≡ codes "root" → ⊥)
        → not (length e == 0 && bytes_eq principal (codes "root")) ≡ true
    other [] h = unless (bytes_eq principal (codes "root")) (λ r. h refl ((bytes_eq-Decides principal (codes "root")).0 r))
    other (b ∷ e) h =
        ap (λ (x : Bool). not (x && bytes_eq principal (codes "root")))
        (ne_eqb (length (b ∷ e)) 0 (λ same. absurd (omega (arith, same))))

after_name-append : (e : List ℕ) → after_name (codes "{name}" ++ e) ≡ Some e
after_name-append e = after_front-append (codes "{name}") e

meets_after : (name principal e : List ℕ) → meets name principal (codes "{name}" ++ e) ≡ meets_name name principal e
meets_after name principal e =
    ap (λ (o : Option (List ℕ)). option_map_or (meets_name name principal) o
    (bytes_eq principal (codes "{name}" ++ e) || meets_suffix principal (codes "{name}" ++ e))) (after_name-append e)

pub meets_name_found : (name principal e : List ℕ) → meets name principal (codes "{name}" ++ e) ≡ true
    → IsNamed name principal e
meets_name_found name principal e h = named_found name principal e (sym (meets_after name principal e) ∙ h)

pub meets_name_from : (name principal e : List ℕ) → IsNamed name principal e
    → meets name principal (codes "{name}" ++ e) ≡ true
meets_name_from name principal e is = meets_after name principal e ∙ named_from name principal e is

pub for_names_from : (e : List ℕ) → is_for_names (codes "{name}" ++ e) ≡ true
for_names_from e = ap (λ (o : Option (List ℕ)). is_some o) (after_name-append e)

-- a text that begins with {name} is {name} and what follows
pub after_name_found : (t e : List ℕ) → after_name t ≡ Some e → t ≡ codes "{name}" ++ e
after_name_found t e h =
    let both = cond_some _ (drop 6 t) e h in
    sym (take-append-drop 6 t)
    ∙ ap (λ (x : List ℕ). x ++ drop 6 t) ((bytes_eq-Decides (take 6 t) (codes "{name}")).0 both.0)
    ∙ ap (λ (x : List ℕ). codes "{name}" ++ x) both.1

-- a rule with {name} that is met
pub name_rule_met : (name principal rule : List ℕ) → (is_for_names rule && meets name principal rule) ≡ true
    → MeetsName name principal rule
name_rule_met name principal rule h =
    let both = and_parts (is_for_names rule) (meets name principal rule) h in by_end (after_name rule) refl both.0 both.1
  where
    by_end : (o : Option (List ℕ)) → after_name rule ≡ o → is_some o ≡ true → meets name principal rule ≡ true
        → MeetsName name principal rule
    by_end None e some met = absurd cc
    by_end (Some end) e some met =
        let spelled = after_name_found rule end e in (
          end,
          spelled,
          meets_name_found name principal end (ap (λ (r : List ℕ). meets name principal r) (sym spelled) ∙ met),
        )

-- a rule that is met, with {name} or without it
rule_met : (name principal rule : List ℕ) → meets name principal rule ≡ true → MeetsFor name principal rule
rule_met name principal rule met = elim (cases_Bool (is_for_names rule)) [
  | inl named ↦
      inl (name_rule_met name principal rule (and_from (is_for_names rule) (meets name principal rule) named met))
  | inr plain ↦ inr (plain, meets_plain_found name principal rule plain met)
]

-- ---- rules and principals

-- what one element passes by a test, it has as a property
any_has : (test : List ℕ → Bool) (P : List ℕ → Type 0) → ((t : List ℕ) → test t ≡ true → P t) → (ts : List (List ℕ))
    → list_any test ts ≡ true → Any P ts
any_has test P has ts h =
    let found = Any-from_list_any test ts h in
    (found.0, found.1, found.2, found.3, has found.1 found.4)

-- principals that all meet rules with {name}
pub own_principals : (name : List ℕ) (rules principals : List (List ℕ))
    → list_all (λ p. list_any (λ rule. is_for_names rule && meets name p rule) rules) principals ≡ true
    → All (λ p. Any (MeetsName name p) rules) principals
own_principals name rules principals h = λ k d inside.
    any_has _ (MeetsName name (get_or principals k d)) (λ rule. name_rule_met name (get_or principals k d) rule) rules
    (AllPass-from_list_all _ principals h k d inside)

-- principals that all meet rules
pub permitted_principals : (name : List ℕ) (rules principals : List (List ℕ))
    → list_all (λ p. list_any (meets name p) rules) principals ≡ true
    → All (λ p. Any (MeetsFor name p) rules) principals
permitted_principals name rules principals h = λ k d inside.
    any_has _ (MeetsFor name (get_or principals k d)) (λ rule. rule_met name (get_or principals k d) rule) rules
    (AllPass-from_list_all _ principals h k d inside)

-- if all rules are for names, they are met by names
pub met_by_names : (name principal : List ℕ) (rules : List (List ℕ)) → All (λ rule. is_for_names rule ≡ true) rules
    → Any (MeetsFor name principal) rules → Any (MeetsName name principal) rules
met_by_names name principal rules all (k, x, inside, is, inl own) = (k, x, inside, is, own)
met_by_names name principal rules all (k, x, inside, is, inr (plain, met)) =
    let named : is_for_names x ≡ true =
    subst (λ (rule : List ℕ). is_for_names rule ≡ true) is (all k x inside) in
    absurd (true_false (is_for_names x) named plain)

-- ---- administrators

-- a text that ends with {name} is what precedes it and {name}
pub before_name_found : (t front : List ℕ) → before_name t ≡ Some front → t ≡ front ++ codes "{name}"
before_name_found t front h =
    let place = length t - 6 in
    let both = cond_some _ (take place t) front h in
    sym (take-append-drop place t)
    ∙ ap (λ (x : List ℕ). take place t ++ x) ((bytes_eq-Decides (drop place t) (codes "{name}")).0 both.0)
    ∙ ap (λ (x : List ℕ). x ++ codes "{name}") both.1

before_name-append : (front : List ℕ) → before_name (front ++ codes "{name}") ≡ Some front
before_name-append front =
    let size = length-append front (codes "{name}") in
    let place : length (front ++ codes "{name}") - 6 ≡ length front = omega (arith, size) in
    cond-true _ _ None ((bytes_eq-Decides _ _).1
    (ap (λ (n : ℕ). drop n (front ++ codes "{name}")) place ∙ drop-append_seam front (codes "{name}")))
    ∙ ap (λ (n : ℕ). Some (take n (front ++ codes "{name}"))) place
    ∙ ap (λ (x : List ℕ). Some x) (take-append_seam front (codes "{name}"))

meant_after : (name caller front : List ℕ)
    → is_meant name caller (front ++ codes "{name}") ≡ bytes_eq caller (front ++ name)
meant_after name caller front =
    ap (λ (o : Option (List ℕ)). option_map_or (λ (prefix : List ℕ). bytes_eq caller (prefix ++ name)) o false)
    (before_name-append front)

pub meant_found : (name caller front : List ℕ) → is_meant name caller (front ++ codes "{name}") ≡ true
    → caller ≡ front ++ name
meant_found name caller front h =
    (bytes_eq-Decides caller (front ++ name)).0 (sym (meant_after name caller front) ∙ h)

pub meant_from : (name caller front : List ℕ) → caller ≡ front ++ name
    → is_meant name caller (front ++ codes "{name}") ≡ true
meant_from name caller front same =
    meant_after name caller front ∙ (bytes_eq-Decides caller (front ++ name)).1 same

-- an administrator that means a caller
is_meant_found : (name caller word : List ℕ) → is_meant name caller word ≡ true → IsMeant name caller word
is_meant_found name caller word h = by_front (before_name word) refl h
  where
    by_front : (o : Option (List ℕ)) → before_name word ≡ o
        → option_map_or (λ (prefix : List ℕ). bytes_eq caller (prefix ++ name)) o false ≡ true
        → IsMeant name caller word
    by_front None e h = absurd cc
    by_front (Some front) e h =
        (front, before_name_found word front e, (bytes_eq-Decides caller (front ++ name)).0 h)

-- a caller that administrators mean
pub means_one : (name caller : List ℕ) (words : List (List ℕ)) → list_any (is_meant name caller) words ≡ true
    → Any (IsMeant name caller) words
means_one name caller words h =
    any_has (is_meant name caller) (IsMeant name caller) (λ word. is_meant_found name caller word) words h

-- ---- names in key IDs

-- the bytes before the first /
abbrev before_slash : List ℕ → List ℕ
before_slash t = take_while (λ b. not (b == 47)) t

whole : (t : List ℕ) → list_all (λ b. not (b == 47)) t ≡ true → before_slash t ≡ t
whole [] h = refl
whole (b ∷ t) h =
    let both = and_parts (not (b == 47)) (list_all (λ b. not (b == 47)) t) h in
    take_while-cons (λ b. not (b == 47)) b t
    ∙ cond-true (not (b == 47)) (b ∷ before_slash t) [] both.0
    ∙ ap (λ (rest : List ℕ). b ∷ rest) (whole t both.1)

whole_before : (t rest : List ℕ) → list_all (λ b. not (b == 47)) t ≡ true → before_slash (t ++ (47 ∷ rest)) ≡ t
whole_before [] rest h = take_while-cons (λ b. not (b == 47)) 47 rest
whole_before (b ∷ t) rest h =
    let both = and_parts (not (b == 47)) (list_all (λ b. not (b == 47)) t) h in
    take_while-cons (λ b. not (b == 47)) b (t ++ (47 ∷ rest))
    ∙ cond-true (not (b == 47)) (b ∷ before_slash (t ++ (47 ∷ rest))) [] both.0
    ∙ ap (λ (x : List ℕ). b ∷ x) (whole_before t rest both.1)

-- the name is what stands before the next / of what follows the first
name_of-append : (department rest : List ℕ) → is_name department ≡ true
    → name_of (department ++ (47 ∷ rest)) ≡ before_slash rest
name_of-append department rest named =
    ap (λ (d : List ℕ). before_slash (drop (length d + 1) (department ++ (47 ∷ rest))))
    (department_of-append department rest named)
    ∙ ap (λ (x : List ℕ). before_slash x) (drop-append-add department (47 ∷ rest) 1)

pub name_last : (department name : List ℕ) → is_name department ≡ true
    → list_all (λ b. not (b == 47)) name ≡ true → name_of (department ++ (codes "/" ++ name)) ≡ name
name_last department name named lacks = name_of-append department name named ∙ whole name lacks

pub name_further : (department name rest : List ℕ) → is_name department ≡ true
    → list_all (λ b. not (b == 47)) name ≡ true
    → name_of (department ++ (codes "/" ++ (name ++ (codes "/" ++ rest)))) ≡ name
name_further department name rest named lacks =
    name_of-append department (name ++ (47 ∷ rest)) named ∙ whole_before name rest lacks
