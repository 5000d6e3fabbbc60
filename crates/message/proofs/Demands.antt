-- Options that certificates must have: which may follow earlier ones, and reading their lines.
use Rattle.message.proofs.Words.{All-append, Bool, map, CriticalOptions, Lacks, List, None, Option, Pair, Some, [], User, and_from, and_parts}
use Rattle.message.proofs.Words.{ap, append-nil, cases_Bool, codes, comment_of, comment_of-text, comment_text, cond}
use Rattle.message.proofs.Words.{cond-false, cond-true, eqb, eqb-true, false, inl, inr, length, list_all, none-some}
use Rattle.message.proofs.Words.{or_cases, recursion_from_All, refl, same_Some, subst, sym, text_is, true, word_of}
use Rattle.message.proofs.Words.{option_and_then, option_and_then_some, rest_after, word_of-text, ℕ, ◌&&◌, ◌++◌, ◌∙◌, ◌∷◌, ◌≡◌, ◌⊎◌}
use Rattle.std.proofs.lemmas.List.{nil_from_length}
use Rattle.std.proofs.lemmas.List.Folds.{list_all-append}
use Rattle.values.specs.declared.kind.Kind.{Kind}
use Rattle.values.specs.declared.kind.Kind.TheVariants.{Host}
use Rattle.values.specs.Options.{is_known, is_option_value}
use Rattle.message.specs.Texts.{demand_line, demand_words}
use Rattle.message.specs.Values.{comes_before, is_ascending, is_demand}
use Rattle.message.specs.Reading.{demand_after, demand_in, is_new_demand, passing}
use Rattle.message.proofs.Lines.{chosen}
use Rattle.message.proofs.Readings.{IsField, IsLine}
use Rattle.message.proofs.Fields.{AllLack, after_found, field_passing, lacks_by, passing_some}
use Rattle.message.proofs.Elements.{known_lacks_space, known_line}
use Rattle.message.proofs.Options.{value_is_line, words_are_line}
use Rattle.message.proofs.PairLines.{AreNew}

-- ---- the text of an option that certificates must have

abbrev named : List ℕ → Pair
named name = record { name = name; value = [] }

abbrev valued : List ℕ → List ℕ → Pair
valued name value = record { name = name; value = value }

value_text : (p : Pair) → eqb (length p.value) 0 ≡ false → demand_words p ≡ p.name ++ 32 ∷ p.value
value_text p is = cond-false _ p.name (p.name ++ 32 ∷ p.value) is

abbrev demand_by : List ℕ → Option (List ℕ) → Option Pair
demand_by name None = Some (named name)
demand_by name (Some value) = cond (eqb (length value) 0) None (Some (valued name value))

demand_by_found : (name : List ℕ) (o : Option (List ℕ)) (p : Pair) → demand_by name o ≡ Some p
    → name ++ comment_text o ≡ demand_words p
demand_by_found name None p e = append-nil name ∙ ap demand_words (same_Some (named name) p e)
demand_by_found name (Some value) p e =
    elim (chosen (eqb (length value) 0) None (Some (valued name value)) (Some p) e) [
      | inl is ↦ absurd (none-some p is.1)
      | inr other ↦ sym (value_text (valued name value) other.0) ∙ ap demand_words (same_Some _ _ other.1)
    ]

-- it is read from its text alone
demand_found : (text : List ℕ) (p : Pair) → demand_in text ≡ Some p → text ≡ demand_words p
demand_found text p e = text_is text ∙ demand_by_found (word_of text) (comment_of text) p e

-- reading a name without spaces, alone or with a value
demand_behind : (name : List ℕ) (o : Option (List ℕ)) → Lacks 32 name
    → demand_in (name ++ comment_text o) ≡ demand_by name o
demand_behind name o lacks =
    let free = recursion_from_All (λ b. eqb b 32 ≡ false) name lacks in
    ap (λ (n : List ℕ). demand_by n (comment_of (name ++ comment_text o))) (word_of-text name o free)
    ∙ ap (demand_by name) (comment_of-text name o free)

-- it is read back from its text
demand_again : (p : Pair) → Lacks 32 p.name → demand_in (demand_words p) ≡ Some p
demand_again p lacks = elim (cases_Bool (eqb (length p.value) 0)) [
  | inl is ↦
      let none : p.value ≡ [] = nil_from_length p.value (eqb-true (length p.value) 0 is) in
      ap demand_in (cond-true _ p.name (p.name ++ 32 ∷ p.value) is ∙ sym (append-nil p.name))
      ∙ demand_behind p.name None lacks ∙ ap (λ (v : List ℕ). Some (valued p.name v)) (sym none)
  | inr other ↦
      ap demand_in (value_text p other) ∙ demand_behind p.name (Some p.value) lacks
      ∙ cond-false _ None (Some (valued p.name p.value)) other
]

-- the name is that of a critical option, and the value is empty or valid
demand_parts : (kind : Kind) (p : Pair) → is_demand kind p ≡ true → (is_known CriticalOptions p.name ≡ true)
    × ((eqb (length p.value) 0 ≡ true) ⊎ (is_option_value p.name p.value ≡ true))
demand_parts User p is = let both = and_parts _ _ is in (both.0, or_cases _ _ both.1)
demand_parts Host p is = absurd cc

demand_is_line : (kind : Kind) (p : Pair) → is_demand kind p ≡ true → IsLine (demand_words p)
demand_is_line kind p is =
    let parts = demand_parts kind p is in
    let name : IsLine p.name = known_line CriticalOptions p.name parts.0 in
    elim parts.1 [
      | inl none ↦ subst IsLine (sym (cond-true _ p.name (p.name ++ 32 ∷ p.value) none)) name
      | inr value ↦ elim (cases_Bool (eqb (length p.value) 0)) [
        | inl none ↦ subst IsLine (sym (cond-true _ p.name (p.name ++ 32 ∷ p.value) none)) name
        | inr some ↦ subst IsLine (sym (value_text p some))
            (words_are_line p.name p.value name (value_is_line p (and_from _ _ parts.0 value)))
      ]
    ]

-- the line of an option that certificates must have, if it may follow earlier ones
pub demand_field : (kind : Kind) (before : List Pair)
    → IsField (demand_after kind before) demand_line (λ p. is_new_demand kind before p ≡ true)
demand_field kind before =
    field_passing (codes "must ") demand_in demand_words (is_new_demand kind before) refl refl
    (λ t p fits e. demand_found t p e)
    (λ p is. demand_again p
    (known_lacks_space CriticalOptions p.name (demand_parts kind p (and_parts _ _ is).0).0))
    (λ p is. demand_is_line kind p (and_parts _ _ is).0)

-- the lines of valid ones have no line feeds
pub demand_lines_lack : (kind : Kind) (ps : List Pair) → list_all (is_demand kind) ps ≡ true
    → AllLack 10 (map demand_line ps)
demand_lines_lack kind [] all = tt
demand_lines_lack kind (p ∷ ps) all =
    let both = and_parts _ _ all in (
      All-append (λ b. eqb b 10 ≡ false) (codes "must ") (demand_words p) (lacks_by 10 (codes "must ") refl)
          (demand_is_line kind p both.0),
      demand_lines_lack kind ps both.1,
    )

-- ---- successive ones

-- each comes after all of the earlier ones
abbrev come_after : List Pair → List Pair → Bool
come_after before ps = list_all (λ p. list_all (λ q. comes_before q p) before) ps

apart : (before : List Pair) (p : Pair) (ps : List Pair) → come_after (before ++ p ∷ []) ps ≡ true
    → (come_after before ps ≡ true) × (list_all (comes_before p) ps ≡ true)
apart before p [] e = (refl, refl)
apart before p (q ∷ ps) e =
    let both = and_parts _ _ e in
    let parts = and_parts _ _ (sym (list_all-append (λ x. comes_before x q) before (p ∷ [])) ∙ both.0) in
    let rest = apart before p ps both.1 in
    (and_from _ _ parts.0 rest.0, and_from _ _ (and_parts _ _ parts.1).0 rest.1)

together : (before : List Pair) (p : Pair) (ps : List Pair) → come_after before ps ≡ true
    → list_all (comes_before p) ps ≡ true → come_after (before ++ p ∷ []) ps ≡ true
together before p [] all this = refl
together before p (q ∷ ps) all this =
    let both = and_parts _ _ all in
    let parts = and_parts _ _ this in
    and_from _ _
    (list_all-append (λ x. comes_before x q) before (p ∷ []) ∙ and_from _ _ both.0 (and_from _ true parts.0 refl))
    (together before p ps both.1 parts.1)

new_found : (kind : Kind) (before ps : List Pair) → AreNew (is_new_demand kind) before ps
    → (list_all (is_demand kind) ps ≡ true) × ((is_ascending ps ≡ true) × (come_after before ps ≡ true))
new_found kind before [] is = (refl, (refl, refl))
new_found kind before (p ∷ ps) is =
    let rest = new_found kind (before ++ p ∷ []) ps is.1 in
    let this = and_parts _ _ is.0 in
    let others = apart before p ps rest.1.1 in
    (and_from _ _ this.0 rest.0, (and_from _ _ others.1 rest.1.0, and_from _ _ this.1 others.0))

new_from : (kind : Kind) (before ps : List Pair) → list_all (is_demand kind) ps ≡ true → is_ascending ps ≡ true
    → come_after before ps ≡ true → AreNew (is_new_demand kind) before ps
new_from kind before [] lawful rising after = tt
new_from kind before (p ∷ ps) lawful rising after =
    let first = and_parts _ _ lawful in
    let other = and_parts _ _ rising in
    let this = and_parts _ _ after in (
      and_from _ _ first.0 this.0,
      new_from kind (before ++ p ∷ []) ps first.1 other.1 (together before p ps this.1 other.0),
    )

none_earlier : (ps : List Pair) → come_after [] ps ≡ true
none_earlier [] = refl
none_earlier (p ∷ ps) = none_earlier ps

-- valid ones in the order of their names may follow one another
pub demands_are_new : (kind : Kind) (ps : List Pair) → (list_all (is_demand kind) ps && is_ascending ps) ≡ true
    → AreNew (is_new_demand kind) [] ps
demands_are_new kind ps is =
    let both = and_parts _ _ is in new_from kind [] ps both.0 both.1 (none_earlier ps)

pub new_are_demands : (kind : Kind) (ps : List Pair) → AreNew (is_new_demand kind) [] ps
    → (list_all (is_demand kind) ps && is_ascending ps) ≡ true
new_are_demands kind ps is = let found = new_found kind [] ps is in and_from _ _ found.0 found.1.0

-- ---- lines by themselves

-- a line that is read is that of an option that may follow the earlier ones
pub demand_on : (kind : Kind) (before : List Pair) (l : List ℕ) (p : Pair) → demand_after kind before l ≡ Some p
    → (is_new_demand kind before p ≡ true) × (l ≡ demand_line p)
demand_on kind before l p e =
    option_and_then_some (passing (is_new_demand kind before)) (option_and_then demand_in (rest_after (codes "must ") l)) p e
    (λ q read passed.
    let both = passing_some (is_new_demand kind before) q p passed in
    option_and_then_some demand_in (rest_after (codes "must ") l) q read
    (λ t behind found. (
      both.0,
      (after_found (codes "must ") l t behind).0
          ∙ ap (λ (x : List ℕ). codes "must " ++ x) (demand_found t q found ∙ ap demand_words both.1),
    )))
