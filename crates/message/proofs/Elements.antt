-- The elements of lines: no name, rule, principal, key ID, namespace, option or number has a line feed or, in lists,
-- a comma.
use Rattle.message.proofs.Words.{All-nil, None, Option, Some, and_from, codes}
use Rattle.message.proofs.Words.{All-append, All-cons, Bool, CriticalOptions, Lacks, List, [], and_parts, ap}
use Rattle.message.proofs.Words.{are_administrators, are_extension_names, are_namespaces, are_option_names}
use Rattle.message.proofs.Words.{are_principals, are_rules, bytes_eq, bytes_eq-Decides, drop, eqb, eqb-true, false, inl}
use Rattle.message.proofs.Words.{inr, is_key_id, is_name, is_some, lacks_from, length, list_all, list_any, not}
use Rattle.message.proofs.Words.{or_cases, refl, subst, sym, true, ℕ, ◌&&◌, ◌||◌, ◌∙◌, ◌∷◌, ◌≡◌}
use Rattle.values.specs.Names.{is_name_byte, is_principal, is_principal_byte, is_rule, is_suffix_rule, is_key_id_byte}
use Rattle.values.specs.Names.{after_name, before_name, is_administrator, is_name_end, is_name_rule, is_prefix}
use Rattle.values.specs.Names.{is_key_id_end, is_namespace, department_of}
use Rattle.values.specs.Options.{is_known, known_names}
use Rattle.values.specs.declared.option_field.OptionField.{OptionField}
use Rattle.values.specs.declared.option_field.OptionField.TheVariants.{Extensions}
use Rattle.lines.specs.Subjects.{key_name, type_named}
use Rattle.lines.specs.declared.subject.KeyType.{KeyType}
use Rattle.lines.specs.declared.subject.KeyType.TheVariants.{
  Ed25519,
  SkEd25519,
  EcdsaP256,
  EcdsaP384,
  EcdsaP521,
  SkEcdsaP256,
  Rsa,
}
use Rattle.lines.proofs.Subjects.{type_found}
use Rattle.message.specs.Values.{are_distinct_and, are_key_types, is_key_type}
use Rattle.message.proofs.Fields.{lacks_by, AllLack, all_lack}
use Rattle.values.proofs.NameLemmas.{department_cut}
use Rattle.values.proofs.OwnNames.{after_name_found, before_name_found}
use Rattle.std.specs.Option.{option_map_or}

pub name_lacks : (byte : ℕ) → is_name_byte byte ≡ false → (t : List ℕ) → is_name t ≡ true → Lacks byte t
name_lacks byte off t is = lacks_from is_name_byte byte t off (and_parts _ _ is).1

pub principal_lacks : (byte : ℕ) → is_principal_byte byte ≡ false → (t : List ℕ) → is_principal t ≡ true → Lacks byte t
principal_lacks byte off t is = lacks_from is_principal_byte byte t off (and_parts _ _ is).1

pub namespace_lacks : (byte : ℕ) → is_principal_byte byte ≡ false → (t : List ℕ) → is_namespace t ≡ true → Lacks byte t
namespace_lacks byte off t is = lacks_from is_principal_byte byte t off (and_parts _ _ is).1

suffix_lacks : (byte : ℕ) → is_principal_byte byte ≡ false → eqb 42 byte ≡ false → (t : List ℕ) → is_suffix_rule t
    ≡ true → Lacks byte t
suffix_lacks byte off other [] is = absurd cc
suffix_lacks byte off other (b ∷ suffix) is =
    let both = and_parts _ _ is in
    let star : b ≡ 42 = eqb-true _ _ both.0 in
    All-cons (λ x. eqb x byte ≡ false) b suffix (ap (λ (x : ℕ). eqb x byte) star ∙ other)
    (lacks_from is_principal_byte byte suffix off (and_parts _ _ both.1).1)

-- the byte isn't one of {name}
abbrev IsOffWord : ℕ → Type 0
IsOffWord byte = list_all (λ b. not (eqb b byte)) (codes "{name}") ≡ true

name_end_lacks : (byte : ℕ) → is_principal_byte byte ≡ false → (t : List ℕ) → is_name_end t ≡ true → Lacks byte t
name_end_lacks byte off [] is = All-nil (λ b. eqb b byte ≡ false)
name_end_lacks byte off (b ∷ rest) is =
    let both = and_parts (eqb b 46 || eqb b 64) _ is in
    let first : is_principal_byte b ≡ true =
    elim (or_cases (eqb b 46) (eqb b 64) both.0) [
      | inl dot ↦ ap (λ (x : ℕ). is_principal_byte x) (eqb-true b 46 dot)
      | inr at ↦ ap (λ (x : ℕ). is_principal_byte x) (eqb-true b 64 at)
    ] in
    lacks_from is_principal_byte byte (b ∷ rest) off
    (and_from (is_principal_byte b) (list_all is_principal_byte rest) first (and_parts _ _ both.1).1)

name_rule_lacks : (byte : ℕ) → is_principal_byte byte ≡ false → IsOffWord byte → (t : List ℕ) → is_name_rule t ≡ true
    → Lacks byte t
name_rule_lacks byte off word t is = by_end (after_name t) refl is
  where
    by_end : (o : Option (List ℕ)) → after_name t ≡ o → option_map_or is_name_end o false ≡ true → Lacks byte t
    by_end None e is = absurd cc
    by_end (Some end) e is =
        subst (Lacks byte) (sym (after_name_found t end e))
        (All-append (λ b. eqb b byte ≡ false) (codes "{name}") end (lacks_by byte (codes "{name}") word)
        (name_end_lacks byte off end is))

pub rule_lacks : (byte : ℕ) → is_principal_byte byte ≡ false → eqb 42 byte ≡ false → IsOffWord byte → (t : List ℕ)
    → is_rule t ≡ true → Lacks byte t
rule_lacks byte off other word t is = elim (or_cases (is_principal t) _ is) [
  | inl principal ↦ principal_lacks byte off t principal
  | inr others ↦ elim (or_cases (is_suffix_rule t) (is_name_rule t) others) [
    | inl suffix ↦ suffix_lacks byte off other t suffix
    | inr named ↦ name_rule_lacks byte off word t named
  ]
]

pub administrator_lacks : (byte : ℕ) → is_name_byte byte ≡ false → IsOffWord byte → (t : List ℕ)
    → is_administrator t ≡ true → Lacks byte t
administrator_lacks byte off word t is = elim (or_cases (is_name t) _ is) [
  | inl name ↦ name_lacks byte off t name
  | inr others ↦ by_prefix (before_name t) refl others
]
  where
    by_prefix : (o : Option (List ℕ)) → before_name t ≡ o → option_map_or is_prefix o false ≡ true → Lacks byte t
    by_prefix None e is = absurd cc
    by_prefix (Some front) e is =
        subst (Lacks byte) (sym (before_name_found t front e))
        (All-append (λ b. eqb b byte ≡ false) front (codes "{name}")
        (lacks_from is_name_byte byte front off (and_parts _ _ is).1) (lacks_by byte (codes "{name}") word))

key_id_end_lacks : (byte : ℕ) → is_key_id_byte byte ≡ false → eqb 47 byte ≡ false → (t : List ℕ) → is_key_id_end t
    ≡ true → Lacks byte t
key_id_end_lacks byte off other [] is = absurd cc
key_id_end_lacks byte off other (b ∷ rest) is =
    let both = and_parts _ _ is in
    let slash : b ≡ 47 = eqb-true _ _ both.0 in
    All-cons (λ x. eqb x byte ≡ false) b rest (ap (λ (x : ℕ). eqb x byte) slash ∙ other)
    (lacks_from is_key_id_byte byte rest off (and_parts _ _ both.1).1)

pub key_id_line : (t : List ℕ) → is_key_id t ≡ true → Lacks 10 t
key_id_line t is =
    let both = and_parts _ _ is in
    let department = department_of t in
    subst (Lacks 10) (sym (department_cut t))
    (All-append (λ b. eqb b 10 ≡ false) department (drop (length department) t)
    (name_lacks 10 refl department both.0) (key_id_end_lacks 10 refl refl (drop (length department) t) both.1))

-- one of these texts lacks the byte if all of them do
among_lacks : (byte : ℕ) (names : List (List ℕ)) → list_all (λ n. list_all (λ b. not (eqb b byte)) n) names ≡ true
    → (t : List ℕ) → list_any (λ n. bytes_eq n t) names ≡ true → Lacks byte t
among_lacks byte [] all t is = absurd cc
among_lacks byte (n ∷ names) all t is =
    let both = and_parts _ _ all in
    elim (or_cases _ _ is) [
      | inl this ↦ subst (Lacks byte) ((bytes_eq-Decides n t).0 this) (lacks_by byte n both.0)
      | inr later ↦ among_lacks byte names both.1 t later
    ]

pub known_lacks_comma : (field : OptionField) (t : List ℕ) → is_known field t ≡ true → Lacks 44 t
known_lacks_comma CriticalOptions t is = among_lacks 44 (known_names CriticalOptions) refl t is
known_lacks_comma Extensions t is = among_lacks 44 (known_names Extensions) refl t is

pub known_line : (field : OptionField) (t : List ℕ) → is_known field t ≡ true → Lacks 10 t
known_line CriticalOptions t is = among_lacks 10 (known_names CriticalOptions) refl t is
known_line Extensions t is = among_lacks 10 (known_names Extensions) refl t is

pub known_lacks_space : (field : OptionField) (t : List ℕ) → is_known field t ≡ true → Lacks 32 t
known_lacks_space CriticalOptions t is = among_lacks 32 (known_names CriticalOptions) refl t is
known_lacks_space Extensions t is = among_lacks 32 (known_names Extensions) refl t is

-- the name of a key type has no comma and no line feed
type_free : (x : KeyType) → (list_all (λ b. not (eqb b 44)) (key_name x) ≡ true)
    × (list_all (λ b. not (eqb b 10)) (key_name x) ≡ true)
type_free Ed25519 = (refl, refl)
type_free SkEd25519 = (refl, refl)
type_free EcdsaP256 = (refl, refl)
type_free EcdsaP384 = (refl, refl)
type_free EcdsaP521 = (refl, refl)
type_free SkEcdsaP256 = (refl, refl)
type_free Rsa = (refl, refl)

key_type_lacks : (t : List ℕ) → is_key_type t ≡ true → Lacks 44 t × Lacks 10 t
key_type_lacks t is = by (type_named t) refl is
  where
    by : (o : Option KeyType) → type_named t ≡ o → is_some o ≡ true → Lacks 44 t × Lacks 10 t
    by None e is = absurd cc
    by (Some x) e is =
        let free = type_free x in
        subst (λ (n : List ℕ). Lacks 44 n × Lacks 10 n) (sym (type_found key_name t x e))
        (lacks_by 44 (key_name x) free.0, lacks_by 10 (key_name x) free.1)

-- ---- lists

-- elements that have neither commas nor line feeds
abbrev LackBoth : List (List ℕ) → Type 0
LackBoth ts = AllLack 44 ts × AllLack 10 ts

both_lack : (test : List ℕ → Bool) → ((t : List ℕ) → test t ≡ true → Lacks 44 t)
    → ((t : List ℕ) → test t ≡ true → Lacks 10 t) → (ts : List (List ℕ)) → are_distinct_and test ts ≡ true → LackBoth ts
both_lack test comma line ts is =
    let all = (and_parts (list_all test ts) _ is).0 in (all_lack test 44 comma ts all, all_lack test 10 line ts all)

pub administrators_lack : (ts : List (List ℕ)) → are_administrators ts ≡ true → LackBoth ts
administrators_lack ts is =
    both_lack is_administrator (administrator_lacks 44 refl refl) (administrator_lacks 10 refl refl) ts
    (and_parts _ _ is).1

pub rules_lack : (ts : List (List ℕ)) → are_rules ts ≡ true → LackBoth ts
rules_lack ts is =
    both_lack is_rule (rule_lacks 44 refl refl refl) (rule_lacks 10 refl refl refl) ts (and_parts _ _ is).1

pub principals_lack : (ts : List (List ℕ)) → are_principals ts ≡ true → LackBoth ts
principals_lack ts is =
    both_lack is_principal (principal_lacks 44 refl) (principal_lacks 10 refl) ts (and_parts _ _ is).1

pub option_names_lack : (ts : List (List ℕ)) → are_option_names ts ≡ true → LackBoth ts
option_names_lack =
    both_lack (is_known CriticalOptions) (known_lacks_comma CriticalOptions) (known_line CriticalOptions)

pub extension_names_lack : (ts : List (List ℕ)) → are_extension_names ts ≡ true → LackBoth ts
extension_names_lack = both_lack (is_known Extensions) (known_lacks_comma Extensions) (known_line Extensions)

pub key_types_lack : (ts : List (List ℕ)) → are_key_types ts ≡ true → LackBoth ts
key_types_lack ts is =
    both_lack is_key_type (λ t is. (key_type_lacks t is).0) (λ t is. (key_type_lacks t is).1) ts (and_parts _ _ is).1

pub namespaces_lack : (ts : List (List ℕ)) → are_namespaces ts ≡ true → LackBoth ts
namespaces_lack ts is =
    both_lack is_namespace (namespace_lacks 44 refl) (namespace_lacks 10 refl) ts (and_parts _ _ is).1
