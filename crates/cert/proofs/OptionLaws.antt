-- The options that are read from a field have the field's text, and valid options are read back from their text.
use Rattle.cert.proofs.Words.{Bool, CriticalOptions, Extensions, Host, IsBytes, Kind, List, None, OptionField, Pair}
use Rattle.cert.proofs.Words.{Some, User, [], and_from, and_parts, ap, arith, comes_before, comes_next, cond, eqb}
use Rattle.cert.proofs.Words.{is_ascending, is_known, is_option, is_options, length, list_all, option_and_then_some}
use Rattle.cert.proofs.Words.{option_map, option_text, options_of, options_text, options_within, pair_at, refl}
use Rattle.cert.proofs.Words.{same_Some, subst, suc, sym, true, zero, ℕ, ◌&&◌, ◌++◌, ◌∙◌, ◌∷◌, ◌≡◌, ◌≤◌}
use Rattle.cert.proofs.Listing.{all_later}
use Rattle.cert.proofs.Sizes.{name-le, value-le, options-few}
use Rattle.lines.proofs.Strings.{empty}
use Rattle.cert.proofs.NestedLaws.{cond_is, map_is, flag_value, pair_found, pair_again}
use Rattle.text.proofs.ByteLemmas.{IsBytes_left}

-- ---- options

-- the names ascend from the previous one on
abbrev pub ascends : List ℕ → List Pair → Bool
ascends previous [] = true
ascends previous (p ∷ ps) = comes_before previous p.name && ascends p.name ps

-- what holds for the options that were read
pub record AreOptions (k : ℕ) (field : OptionField) (previous bytes : List ℕ) (ps : List Pair) : Type 0 where
  pub text : bytes ≡ options_text ps
  pub lawful : list_all (is_option field) ps ≡ true
  pub rising : ascends previous ps ≡ true

no_options : (k : ℕ) (field : OptionField) (previous : List ℕ) (ps : List Pair) → Some [] ≡ Some ps
    → AreOptions k field previous [] ps
no_options k field previous ps e = subst (λ (l : List Pair). AreOptions k field previous [] l) (same_Some _ _ e)
    (record { text = refl; lawful = refl; rising = refl })

options_step : (k : ℕ) (field : OptionField) (previous bytes : List ℕ) (p : Pair) (rest : List ℕ)
    → pair_at bytes ≡ Some (p, rest) → comes_next field previous p ≡ true
    → options_within (suc k) field previous bytes ≡ option_map (λ others. p ∷ others)
    (options_within k field p.name rest)
options_step k field previous [] p rest h t = absurd cc
options_step k field previous (b ∷ bytes) p rest h t = rw (h, t) refl

options_found : (k : ℕ) (field : OptionField) (previous bytes : List ℕ) (ps : List Pair) → IsBytes bytes
    → options_within k field previous bytes ≡ Some ps → AreOptions k field previous bytes ps
options_found zero field previous [] ps h e = no_options zero field previous ps e
options_found (suc k) field previous [] ps h e = no_options (suc k) field previous ps e
options_found zero field previous (b ∷ bytes) ps h e = absurd cc
options_found (suc k) field previous (b ∷ bytes) ps h e =
    option_and_then_some (λ o. cond (comes_next field previous o.0) (option_map (λ others. o.0 ∷ others)
    (options_within k field o.0.name o.1)) None) (pair_at (b ∷ bytes)) ps e (λ o is gives.
    let passed = cond_is (comes_next field previous o.0) (option_map (λ others. o.0 ∷ others)
    (options_within k field o.0.name o.1)) ps gives in
    let parts = and_parts (is_option field o.0) _ passed.0 in
    let rest = map_is o.0 (options_within k field o.0.name o.1) ps passed.1 in
    let here = pair_found (b ∷ bytes) o.0 o.1 h is in
    let there = options_found k field o.0.name o.1 rest.0 (IsBytes_left (b ∷ bytes)
    (option_text o.0) o.1 h here) rest.1 in
    subst (λ (l : List Pair). AreOptions (suc k) field previous (b ∷ bytes) l) (sym rest.2) (record {
      text = here ∙ ap (λ (t : List ℕ). option_text o.0 ++ t) there.text;
      lawful = and_from (is_option field o.0) _ parts.0 there.lawful;
      rising = and_from (comes_before previous o.0.name) _ parts.1 there.rising;
    }))

options_again : (k : ℕ) (field : OptionField) (previous : List ℕ) (ps : List Pair)
    → list_all (is_option field) ps ≡ true → ascends previous ps ≡ true → length ps ≤ k
    → options_within k field previous (options_text ps) ≡ Some ps
options_again zero field previous [] lawful rising few = refl
options_again (suc k) field previous [] lawful rising few = refl
options_again zero field previous (p ∷ ps) lawful rising few = absurd (omega arith)
options_again (suc k) field previous (p ∷ ps) lawful rising few =
    let parts = and_parts (is_option field p) _ lawful in
    let option = and_parts (is_known field p.name) _ parts.0 in
    let order = and_parts (comes_before previous p.name) _ rising in
    let name = name-le field p.name option.0 in
    let value = value-le p.name p.value option.1 in
    options_step k field previous (option_text p ++ options_text ps) p (options_text ps)
    (pair_again p (options_text ps) (λ flag. flag_value p.name p.value flag option.1) (omega arith) (omega arith))
    (and_from (is_option field p) _ parts.0 order.0)
    ∙ ap (option_map (λ others. p ∷ others)) (options_again k field p.name ps parts.1 order.1 (omega arith))

-- names that ascend one by one are ascending
pub is_ascending-ascends : (previous : List ℕ) (ps : List Pair) → ascends previous ps ≡ true
    → (list_all (λ q. comes_before previous q.name) ps ≡ true) × (is_ascending ps ≡ true)
is_ascending-ascends previous [] h = (refl, refl)
is_ascending-ascends previous (p ∷ ps) h =
    let parts = and_parts (comes_before previous p.name) _ h in
    let others = is_ascending-ascends p.name ps parts.1 in (
      and_from (comes_before previous p.name) _ parts.0 (all_later previous p.name ps parts.0 others.0),
      and_from (list_all (λ q. comes_before p.name q.name) ps) _ others.0 others.1,
    )

ascends_from : (previous : List ℕ) (ps : List Pair) → list_all (λ q. comes_before previous q.name) ps ≡ true
    → is_ascending ps ≡ true → ascends previous ps ≡ true
ascends_from previous [] all h = refl
ascends_from previous (p ∷ ps) all h =
    let first = and_parts (comes_before previous p.name) _ all in
    let parts = and_parts (list_all (λ q. comes_before p.name q.name) ps) _ h in
    and_from (comes_before previous p.name) _ first.0 (ascends_from p.name ps parts.0 parts.1)

-- each known name comes after the empty one
named : (field : OptionField) (ps : List Pair) → list_all (is_option field) ps ≡ true
    → list_all (λ q. comes_before [] q.name) ps ≡ true
named field [] h = refl
named field (p ∷ ps) h =
    let parts = and_parts (is_option field p) _ h in
    let option = and_parts (is_known field p.name) _ parts.0 in
    and_from (comes_before [] p.name) _ (some field p.name option.0) (named field ps parts.1)
  where
    some : (field : OptionField) (name : List ℕ) → is_known field name ≡ true → comes_before [] name ≡ true
    some CriticalOptions [] e = absurd cc
    some Extensions [] e = absurd cc
    some field (b ∷ name) e = refl

-- the options that were read are valid, and the text is theirs
pub options_of_found : (field : OptionField) (kind : Kind) (text : List ℕ) (ps : List Pair) → IsBytes text
    → options_of field kind text ≡ Some ps → (text ≡ options_text ps) × (is_options field kind ps ≡ true)
options_of_found field User text ps h e =
    let read = options_found 6 field [] text ps h e in
    let order = is_ascending-ascends [] ps read.rising in
    (read.text, and_from (is_ascending ps) _ order.1 read.lawful)
options_of_found field Host text ps h e =
    let none = cond_is (eqb (length text) 0) (Some []) ps e in
    let is = same_Some _ _ none.1 in
    (empty text none.0 ∙ ap options_text is, subst (λ (l : List Pair). is_options field Host l ≡ true) is refl)

-- the names of options that were read ascend
options_rise : (k : ℕ) (field : OptionField) (previous bytes : List ℕ) (ps : List Pair)
    → options_within k field previous bytes ≡ Some ps → ascends previous ps ≡ true
options_rise zero field previous [] ps e = subst (λ (l : List Pair). ascends previous l ≡ true) (same_Some _ _ e) refl
options_rise (suc k) field previous [] ps e = subst (λ (l : List Pair). ascends previous l ≡ true) (same_Some _ _ e) refl
options_rise zero field previous (b ∷ bytes) ps e = absurd cc
options_rise (suc k) field previous (b ∷ bytes) ps e =
    option_and_then_some (λ o. cond (comes_next field previous o.0) (option_map (λ others. o.0 ∷ others)
    (options_within k field o.0.name o.1)) None) (pair_at (b ∷ bytes)) ps e (λ o is gives.
    let passed = cond_is (comes_next field previous o.0) (option_map (λ others. o.0 ∷ others)
    (options_within k field o.0.name o.1)) ps gives in
    let parts = and_parts (is_option field o.0) _ passed.0 in
    let rest = map_is o.0 (options_within k field o.0.name o.1) ps passed.1 in
    subst (λ (l : List Pair). ascends previous l ≡ true) (sym rest.2)
    (and_from (comes_before previous o.0.name) _ parts.1 (options_rise k field o.0.name o.1 rest.0 rest.1)))

pub options_of_ascend : (field : OptionField) (kind : Kind) (text : List ℕ) (ps : List Pair)
    → options_of field kind text ≡ Some ps → is_ascending ps ≡ true
options_of_ascend field User text ps e = (is_ascending-ascends [] ps (options_rise 6 field [] text ps e)).1
options_of_ascend field Host text ps e =
    let none = cond_is (eqb (length text) 0) (Some []) ps e in
    subst (λ (l : List Pair). is_ascending l ≡ true) (same_Some _ _ none.1) refl

-- valid options are read back from their text
pub options_of_again : (field : OptionField) (kind : Kind) (ps : List Pair) → is_options field kind ps ≡ true
    → options_of field kind (options_text ps) ≡ Some ps
options_of_again field User ps h =
    let parts = and_parts (is_ascending ps) _ h in
    options_again 6 field [] ps parts.1 (ascends_from [] ps (named field ps parts.1) parts.0)
    (options-few field ps parts.0 parts.1)
options_of_again field Host [] h = refl
options_of_again field Host (p ∷ ps) h = absurd cc
