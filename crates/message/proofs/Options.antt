-- Option lines: the options that may follow earlier ones, and reading their lines.
use Rattle.message.proofs.Words.{All, All-append, All-cons, All-nil, Bool, cases_Bool, CriticalOptions, Lacks, List, None, Option, Pair}
use Rattle.message.proofs.Words.{Some, [], and_from, and_parts, ap, append-nil, arith, bytes_eq, codes, comment_of}
use Rattle.message.proofs.Words.{comment_of-text, comment_text, cond, cond-false, cond-true, cond_some, eqb, eqb-true}
use Rattle.message.proofs.Words.{false, inl, inr, is_new_option, lacks_from, length, list_all, list_any, map, none-some}
use Rattle.message.proofs.Words.{not, not-true, option_after, option_line, recursion_from_All, refl, same_Some, subst}
use Rattle.message.proofs.Words.{suc, sym, text_is, true, word_of, word_of-text, ℕ, ◌&&◌, ◌++◌, ◌||◌, ◌∙◌, ◌∷◌, ◌≡◌}
use Rattle.std.proofs.lemmas.Bool.{or_parts, or_from, not_from_false}
use Rattle.std.proofs.lemmas.Cmp.{nat_list_eq_equiv}
use Rattle.std.proofs.lemmas.List.{nil_from_length}
use Rattle.std.proofs.lemmas.List.Folds.{list_any-append}
use Rattle.values.specs.Lists.{are_distinct}
use Rattle.values.specs.Networks.{Network, IsNetwork, network_text, are_networks}
use Rattle.values.specs.Options.{is_flag, is_option_value, is_command}
use Rattle.values.proofs.NetworkLaws.{network_lacks, networks_found}
use Rattle.values.proofs.OptionLemmas.{critical_cases}
use Rattle.message.specs.Texts.{option_words}
use Rattle.message.specs.Values.{is_critical_option}
use Rattle.message.specs.Reading.{option_in}
use Rattle.message.proofs.Lines.{chosen}
use Rattle.message.proofs.Readings.{IsField, IsLine}
use Rattle.message.proofs.Fields.{AllLack, lacks_joined, field_passing}
use Rattle.message.proofs.Elements.{known_lacks_space, known_line}
use Rattle.message.proofs.PairLines.{AreNew}

-- ---- the text of an option

-- the text of a flag is its name
flag_text : (p : Pair) → is_flag p.name ≡ true → option_words p ≡ p.name
flag_text p is = cond-true _ p.name (p.name ++ 32 ∷ p.value) is

-- the text of any other option has its value
value_text : (p : Pair) → is_flag p.name ≡ false → option_words p ≡ p.name ++ 32 ∷ p.value
value_text p is = cond-false _ p.name (p.name ++ 32 ∷ p.value) is

abbrev flag : List ℕ → Pair
flag name = record { name = name; value = [] }

abbrev valued : List ℕ → List ℕ → Pair
valued name value = record { name = name; value = value }

abbrev pair_by : List ℕ → Option (List ℕ) → Option Pair
pair_by name None = cond (is_flag name) (Some (flag name)) None
pair_by name (Some value) = cond (is_flag name) None (Some (valued name value))

pair_by_found : (name : List ℕ) (o : Option (List ℕ)) (p : Pair) → pair_by name o ≡ Some p → name ++ comment_text o
    ≡ option_words p
pair_by_found name None p e =
    let both = cond_some _ (flag name) p e in
    append-nil name ∙ sym (flag_text (flag name) both.0) ∙ ap option_words both.1
pair_by_found name (Some value) p e = elim (chosen (is_flag name) None (Some (valued name value)) (Some p) e) [
  | inl is ↦ absurd (none-some p is.1)
  | inr other ↦ sym (value_text (valued name value) other.0) ∙ ap option_words (same_Some _ _ other.1)
]

-- an option is read from its text alone
pair_found : (text : List ℕ) (p : Pair) → option_in text ≡ Some p → text ≡ option_words p
pair_found text p e = text_is text ∙ pair_by_found (word_of text) (comment_of text) p e

-- reading a name without spaces, alone or with a value
pair_behind : (name : List ℕ) (o : Option (List ℕ)) → Lacks 32 name
    → option_in (name ++ comment_text o) ≡ pair_by name o
pair_behind name o lacks =
    let free = recursion_from_All (λ b. eqb b 32 ≡ false) name lacks in
    ap (λ (n : List ℕ). pair_by n (comment_of (name ++ comment_text o))) (word_of-text name o free)
    ∙ ap (pair_by name) (comment_of-text name o free)

-- an option with a value is read back from its text
valued_again : (p : Pair) → is_flag p.name ≡ false → Lacks 32 p.name → option_in (option_words p) ≡ Some p
valued_again p other lacks =
    ap option_in (value_text p other) ∙ pair_behind p.name (Some p.value) lacks
    ∙ cond-false _ None (Some (valued p.name p.value)) other

-- a flag is read back from its text
flag_again : (p : Pair) → is_flag p.name ≡ true → p.value ≡ [] → Lacks 32 p.name → option_in (option_words p) ≡ Some p
flag_again p is none lacks =
    ap option_in (flag_text p is ∙ sym (append-nil p.name)) ∙ pair_behind p.name None lacks
    ∙ cond-true _ (Some (flag p.name)) None is ∙ ap (λ (v : List ℕ). Some (valued p.name v)) (sym none)

-- the value of an option with this name is valid for the name
value_at : (name : List ℕ) (p : Pair) → p.name ≡ name → is_critical_option p ≡ true → is_option_value name p.value ≡ true
value_at name p same is = ap (λ (n : List ℕ). is_option_value n p.value) (sym same) ∙ (and_parts _ _ is).1

-- a valid option is read back from its text
pair_again : (p : Pair) → is_critical_option p ≡ true → option_in (option_words p) ≡ Some p
pair_again p is =
    let known = (and_parts _ _ is).0 in
    let lacks : Lacks 32 p.name = known_lacks_space CriticalOptions p.name known in
    elim (critical_cases p.name known) [
      | inl command ↦ valued_again p (ap is_flag command) lacks
      | inr rest ↦ elim rest [
        | inl address ↦ valued_again p (ap is_flag address) lacks
        | inr verify ↦
            let none : p.value ≡ [] =
            nil_from_length p.value (eqb-true (length p.value) 0 (value_at (codes "verify-required") p verify is)) in
            flag_again p (ap is_flag verify) none lacks
      ]
    ]

-- ---- options in lines

all_networks_lack : (ns : List Network) → All IsNetwork ns → AllLack 10 (map network_text ns)
all_networks_lack [] each = tt
all_networks_lack (n ∷ ns) each =
    let others = all_networks_lack ns (λ k d inside. each (suc k) d (omega (arith, inside))) in
    (network_lacks 10 n (each 0 n (omega arith)) refl refl refl, others)

networks_line : (t : List ℕ) → are_networks t ≡ true → IsLine t
networks_line t is =
    let law = networks_found t is in
    subst IsLine (sym law.spelled)
    (lacks_joined 10 44 (map network_text law.networks) refl (all_networks_lack law.networks law.each))

command_line : (t : List ℕ) → is_command t ≡ true → IsLine t
command_line t is = lacks_from _ 10 t refl (and_parts _ _ is).1

-- the value of a valid option has no line feed
pub value_is_line : (p : Pair) → is_critical_option p ≡ true → IsLine p.value
value_is_line p is = elim (critical_cases p.name (and_parts _ _ is).0) [
  | inl command ↦ command_line p.value (value_at (codes "force-command") p command is)
  | inr rest ↦ elim rest [
    | inl address ↦ networks_line p.value (value_at (codes "source-address") p address is)
    | inr verify ↦
        let none : p.value ≡ [] =
        nil_from_length p.value (eqb-true (length p.value) 0 (value_at (codes "verify-required") p verify is)) in
        subst IsLine (sym none) (All-nil (λ b. eqb b 10 ≡ false))
  ]
]

-- a name, a space and a value have no line feed
pub words_are_line : (name value : List ℕ) → IsLine name → IsLine value → IsLine (name ++ 32 ∷ value)
words_are_line name value named valued =
    All-append (λ b. eqb b 10 ≡ false) name (32 ∷ value) named (All-cons (λ b. eqb b 10 ≡ false) 32 value refl valued)

-- the text of a valid option has no line feed
option_is_line : (p : Pair) → is_critical_option p ≡ true → IsLine (option_words p)
option_is_line p is =
    let name : IsLine p.name = known_line CriticalOptions p.name (and_parts _ _ is).0 in
    elim (cases_Bool (is_flag p.name)) [
      | inl flag ↦ subst IsLine (sym (flag_text p flag)) name
      | inr other ↦ subst IsLine (sym (value_text p other)) (words_are_line p.name p.value name (value_is_line p is))
    ]

-- the line of an option that may follow earlier ones
pub option_field : (before : List Pair) → IsField (option_after before) option_line (λ p. is_new_option before p ≡ true)
option_field before =
    field_passing (codes "option ") option_in option_words (is_new_option before) refl refl
    (λ t p fits e. pair_found t p e) (λ p is. pair_again p (and_parts _ _ is).0)
    (λ p is. option_is_line p (and_parts _ _ is).0)

-- ---- successive options

-- some option has this name
abbrev has_name : List Pair → List ℕ → Bool
has_name ps name = list_any (λ q. bytes_eq q.name name) ps

abbrev names : List Pair → List (List ℕ)
names ps = map (λ p. p.name) ps

-- none of the names occurs earlier
abbrev none_before : List Pair → List Pair → Bool
none_before before ps = list_all (λ p. not (has_name before p.name)) ps

one_more : (before : List Pair) (p : Pair) (name : List ℕ) → has_name (before ++ p ∷ []) name
    ≡ (has_name before name || (bytes_eq p.name name || false))
one_more before p name = list_any-append (λ q. bytes_eq q.name name) before (p ∷ [])

-- no name occurs earlier, nor is any of them the first option's
apart : (before : List Pair) (p : Pair) (ps : List Pair) → none_before (before ++ p ∷ []) ps ≡ true
    → (none_before before ps ≡ true) × (list_any (λ u. bytes_eq u p.name) (names ps) ≡ false)
apart before p [] e = (refl, refl)
apart before p (q ∷ ps) e =
    let both = and_parts _ _ e in
    let other : has_name (before ++ p ∷ []) q.name ≡ false = not-true _ both.0 in
    let parts = or_parts _ _ (sym (one_more before p q.name) ∙ other) in
    let first = or_parts _ _ parts.1 in
    let rest = apart before p ps both.1 in
    let differs = nat_list_eq_equiv.symm q.name p.name ∙ first.0 in
    (and_from _ _ (not_from_false _ parts.0) rest.0, or_from _ _ differs rest.1)

together : (before : List Pair) (p : Pair) (ps : List Pair) → none_before before ps ≡ true
    → list_any (λ u. bytes_eq u p.name) (names ps) ≡ false
    → none_before (before ++ p ∷ []) ps ≡ true
together before p [] none other = refl
together before p (q ∷ ps) none other =
    let both = and_parts _ _ none in
    let parts = or_parts _ _ other in
    let other : has_name (before ++ p ∷ []) q.name ≡ false =
    one_more before p q.name
    ∙ or_from _ _ (not-true _ both.0) (or_from _ false (nat_list_eq_equiv.symm p.name q.name ∙ parts.0) refl) in
    and_from _ _ (not_from_false _ other) (together before p ps both.1 parts.1)

-- options that may follow one another are valid and have distinct names
new_found : (before ps : List Pair) → AreNew is_new_option before ps → (list_all is_critical_option ps ≡ true)
    × ((are_distinct (names ps) ≡ true) × (none_before before ps ≡ true))
new_found before [] is = (refl, (refl, refl))
new_found before (p ∷ ps) is =
    let rest = new_found (before ++ p ∷ []) ps is.1 in
    let this = and_parts _ _ is.0 in
    let others = apart before p ps rest.1.1 in
    (and_from _ _ this.0 rest.0, (and_from _ _ (not_from_false _ others.1) rest.1.0, and_from _ _ this.1 others.0))

new_from : (before ps : List Pair) → list_all is_critical_option ps ≡ true → are_distinct (names ps) ≡ true
    → none_before before ps ≡ true → AreNew is_new_option before ps
new_from before [] lawful distinct none = tt
new_from before (p ∷ ps) lawful distinct none =
    let first = and_parts _ _ lawful in
    let other = and_parts _ _ distinct in
    let this = and_parts _ _ none in (
      and_from _ _ first.0 this.0,
      new_from (before ++ p ∷ []) ps first.1 other.1 (together before p ps this.1 (not-true _ other.0)),
    )

none_first : (ps : List Pair) → none_before [] ps ≡ true
none_first [] = refl
none_first (p ∷ ps) = none_first ps

-- valid options with distinct names may follow one another
pub options_are_new : (ps : List Pair) → (list_all is_critical_option ps && are_distinct (map (λ p. p.name) ps)) ≡ true
    → AreNew is_new_option [] ps
options_are_new ps is = let both = and_parts _ _ is in new_from [] ps both.0 both.1 (none_first ps)

pub new_are_options : (ps : List Pair) → AreNew is_new_option [] ps → (list_all is_critical_option ps && are_distinct (map (λ p. p.name) ps))
    ≡ true
new_are_options ps is = let found = new_found [] ps is in and_from _ _ found.0 found.1.0
