-- The fields of a certificate are short.
use Rattle.cert.proofs.Words.{AllByRecursion, Bool, CriticalOptions, Extensions, Kind, List, None, Option, OptionField}
use Rattle.cert.proofs.Words.{Pair, Some, [], and_parts, ap, are_for_kind, are_networks, are_principals, arith}
use Rattle.cert.proofs.Words.{bytes_eq, bytes_eq-Decides, cases_Bool, codes, cond, drop, eqb, eqb-true, false, flat_map}
use Rattle.cert.proofs.Words.{inl, inr, is_ascending, is_command, is_flag, is_key_id, is_known, is_option}
use Rattle.cert.proofs.Words.{is_option_value, is_options, is_principal, known_names, leb, leb-true, length, list_all}
use Rattle.cert.proofs.Words.{list_any, nat_tests, option_data, option_text, options_text, or_cases, position_or_len}
use Rattle.cert.proofs.Words.{principals_text, refl, string_text, subst, sym, true, ℕ, ◌&&◌, ◌+◌, ◌<◌, ◌^◌, ◌∙◌, ◌∷◌}
use Rattle.cert.proofs.Words.{◌≡◌, ◌≤◌}
use Rattle.std.proofs.Common.{◌*◌, All, IsTrue, length-append, length-drop}
use Rattle.std.specs.List.{slice_split, before_first, after_first, join_with_byte}
use Rattle.std.specs.Fmt.{decimal}
use Rattle.std.specs.Str.Parse.{digits_value}
use Rattle.std.proofs.lemmas.Bool.{cond-false}
use Rattle.std.proofs.lemmas.List.Elements.{All-from_recursion}
use Rattle.std.proofs.lemmas.Fmt.{length-decimal-le}
use Rattle.std.proofs.lemmas.List.Splits.{join_with_byte-slice_split}
use Rattle.std.proofs.lemmas.List.{length-take, length-map}
use Rattle.values.specs.Decimals.{is_number_below, number_of}
use Rattle.values.proofs.DecimalLemmas.{decimal_below, value_below, number_found}
use Rattle.values.specs.Names.{is_key_id_end, is_name, has_size, department_of}
use Rattle.values.specs.Networks.{is_network, are_octets, address_of, is_block}
use Rattle.cert.proofs.Ascending.{length-le_known}

-- a number below 10 ^ k has at most k digits
number-le : (limit k : ℕ) (t : List ℕ) → 0 < k → limit ≤ 10 ^ k → limit ≤ 2 ^ 64 → is_number_below limit t ≡ true
    → length t ≤ k
number-le limit k t some wide fits h =
    let below : digits_value 10 t < limit = value_below limit t h in
    subst (λ (s : List ℕ). length s ≤ k) (decimal_below limit t fits h) (length-decimal-le k
    (digits_value 10 t) some (omega arith) (omega arith))

-- joined pieces of at most k bytes
joined-le : (c k : ℕ) (p : List ℕ → Bool) → ((t : List ℕ) → p t ≡ true → length t ≤ k) → (ts : List (List ℕ))
    → list_all p ts ≡ true
    → length (join_with_byte c ts) ≤ length ts * (k + 1)
joined-le c k p short [] h = omega arith
joined-le c k p short (t ∷ []) h = let parts = and_parts (p t) _ h in omega (arith, short t parts.0)
joined-le c k p short (t ∷ u ∷ ts) h =
    let parts = and_parts (p t) _ h in
    let more = joined-le c k p short (u ∷ ts) parts.1 in
    omega (arith, short t parts.0, more, length-append t (c ∷ join_with_byte c (u ∷ ts)))

-- a text that was cut into pieces of at most k bytes
pieces-le : (c k : ℕ) (p : List ℕ → Bool) → ((t : List ℕ) → p t ≡ true → length t ≤ k) → (t : List ℕ)
    → list_all p (slice_split (λ b. eqb b c) t) ≡ true
    → length t ≤ length (slice_split (λ b. eqb b c) t) * (k + 1)
pieces-le c k p short t h =
    let whole = ap length (join_with_byte-slice_split c t) in
    omega (arith, joined-le c k p short (slice_split (λ b. eqb b c) t) h)

-- an address, for example 255.255.255.255
address-le : (t : List ℕ) (a : ℕ) → address_of t ≡ Some a → length t ≤ 16
address-le t a e = elim (cases_Bool (are_octets octets)) [
  | inl there ↦
      let parts = and_parts (eqb (length octets) 4) _ there in
      let small = λ (u : List ℕ). number-le 256 3 u (omega arith) (omega arith) (omega arith) in
      omega (arith, eqb-true _ _ parts.0, pieces-le 46 3 (is_number_below 256) small t parts.1)
  | inr none ↦ let nothing : None ≡ Some a = sym (cond-false (are_octets octets) _ _ none) ∙ e in cc
]
  where
    octets : List (List ℕ)
    octets = slice_split (λ b. eqb b 46) t

-- the parts of a network, for example 255.255.255.255 and 32
block-le : (front back : List ℕ) (address size : Option ℕ) → address_of front ≡ address → number_of back ≡ size
    → is_block address size ≡ true
    → (length front ≤ 16) × (length back ≤ 2)
block-le front back None size e f h = absurd cc
block-le front back (Some a) None e f h = absurd cc
block-le front back (Some a) (Some n) e f h =
    let small : n ≤ 32 = leb-true _ _ (and_parts (leb n 32) _ h).0 in
    let digits : back ≡ decimal n = number_found back (Some n) (sym f) in
    let two = length-decimal-le 2 n (omega arith) (omega arith) (omega arith) in
    (address-le front a e, omega (arith, ap length digits, two))

-- a network, for example 255.255.255.255/32
network-le : (t : List ℕ) → is_network t ≡ true → length t ≤ 19
network-le t h =
    let parts = block-le (before_first (λ b. eqb b 47) t) (after_first (λ b. eqb b 47) t) _ _ refl refl h in
    let front = length-take (position_or_len (λ b. eqb b 47) t) t in
    let back = length-drop (position_or_len (λ b. eqb b 47) t + 1) t in
    omega arith

-- a list of networks
networks-le : (t : List ℕ) → are_networks t ≡ true → length t ≤ 160
networks-le t h =
    let parts = and_parts (leb (length (slice_split (λ b. eqb b 44) t)) 8) _ h in
    omega (arith, leb-true _ _ parts.0, pieces-le 44 19 is_network network-le t parts.1)

-- the end of a key id
pub key_id_end-le : (t : List ℕ) → is_key_id_end t ≡ true → length t ≤ 65
key_id_end-le [] h = omega arith
key_id_end-le (b ∷ rest) h = grind (arith, nat_tests)

-- a key id is short enough for a string
pub key_id-lt : (t : List ℕ) → IsTrue (is_key_id t) → length t < 2 ^ 32
key_id-lt t h =
    let parts = and_parts (is_name (department_of t)) _ h in
    let named = and_parts (has_size 1 32 (department_of t)) _ parts.0 in
    let front : length (department_of t) ≤ 32 = leb-true _ _ (and_parts (leb 1 (length
    (department_of t))) _ named.0).1 in
    let back = key_id_end-le (drop (length (department_of t)) t) parts.1 in
    omega (arith, length-drop (length (department_of t)) t)

-- a principal is short
pub principal-le : (t : List ℕ) → is_principal t ≡ true → length t ≤ 64
principal-le t h = grind (arith, nat_tests)

-- joined texts of at most k bytes
texts-le : {X : Type 0} (k : ℕ) (f : X → List ℕ) (p : X → Bool) → ((x : X) → p x ≡ true → length (f x) ≤ k)
    → (xs : List X) → list_all p xs ≡ true
    → length (flat_map f xs) ≤ length xs * k
texts-le k f p short [] h = omega arith
texts-le k f p short (x ∷ xs) h =
    let parts = and_parts (p x) _ h in
    omega (arith, short x parts.0, texts-le k f p short xs parts.1, length-append (f x) (flat_map f xs))

-- the principals are short enough for a string
pub principals_text-lt : (ps : List (List ℕ)) → IsTrue (are_principals ps) → length (principals_text ps) < 2 ^ 32
principals_text-lt ps h =
    let parts = and_parts (leb 1 (length ps) && leb (length ps) 16 && list_all is_principal ps) _ h in
    let lawful = and_parts (leb 1 (length ps) && leb (length ps) 16) _ parts.0 in
    let few = leb-true _ _ (and_parts (leb 1 (length ps)) _ lawful.0).1 in
    let short : (t : List ℕ) → is_principal t ≡ true → length (string_text t) ≤ 68 =
    λ t e. omega (arith, principal-le t e) in
    omega (arith, texts-le 68 string_text is_principal short ps lawful.1)

-- if all of these names are short, then so is one of them
known-le : (k : ℕ) (known : List (List ℕ)) (name : List ℕ) → list_all (λ t. leb (length t) k) known ≡ true
    → list_any (λ t. bytes_eq t name) known ≡ true → length name ≤ k
known-le k [] name short h = absurd cc
known-le k (t ∷ known) name short h =
    let parts = and_parts (leb (length t) k) _ short in
    elim (or_cases (bytes_eq t name) _ h) [
      | inl this ↦ omega (arith, leb-true _ _ parts.0, ap length ((bytes_eq-Decides t name).0 this))
      | inr other ↦ known-le k known name parts.1 other
    ]

-- a known name is short
pub name-le : (field : OptionField) (name : List ℕ) → is_known field name ≡ true → length name ≤ 23
name-le CriticalOptions name h = known-le 23 (known_names CriticalOptions) name refl h
name-le Extensions name h = known-le 23 (known_names Extensions) name refl h

command-le : (t : List ℕ) → is_command t ≡ true → length t ≤ 200
command-le t h = grind (arith, nat_tests)

-- a value is short
pub value-le : (name value : List ℕ) → is_option_value name value ≡ true → length value ≤ 200
value-le name value h = by_name (bytes_eq name (codes "force-command")) (bytes_eq name (codes "source-address")) h
  where
    by_name : (forced sourced : Bool) → cond forced (is_command value) (cond sourced (are_networks value)
        (is_flag name && eqb (length value) 0)) ≡ true → length value ≤ 200
    by_name true sourced h = command-le value h
    by_name false true h = omega (arith, networks-le value h)
    by_name false false h = omega (arith, eqb-true _ _ (and_parts (is_flag name) _ h).1)

option_text-le : (field : OptionField) (p : Pair) → is_option field p ≡ true → length (option_text p) ≤ 235
option_text-le field p h =
    let parts = and_parts (is_known field p.name) _ h in
    let name = name-le field p.name parts.0 in
    let value = value-le p.name p.value parts.1 in
    let own : length (option_data p) ≤ 204 = data-le (is_flag p.name) (omega arith) in
    omega (arith, length-append (string_text p.name) (string_text (option_data p)))
  where
    data-le : (flag : Bool) → length p.value ≤ 200 → length (cond flag [] (string_text p.value)) ≤ 204
    data-le true short = omega arith
    data-le false short = omega arith

-- a name and a value that are short enough for strings
abbrev pub IsShort : Pair → Type 0
IsShort p = (length p.name < 2 ^ 32) × (length p.value + 4 < 2 ^ 32)

all-short : (field : OptionField) (ps : List Pair) → list_all (is_option field) ps ≡ true → AllByRecursion IsShort ps
all-short field [] h = tt
all-short field (p ∷ ps) h =
    let parts = and_parts (is_option field p) _ h in
    let lawful = and_parts (is_known field p.name) _ parts.0 in
    let name = name-le field p.name lawful.0 in
    let value = value-le p.name p.value lawful.1 in
    ((omega arith, omega arith), all-short field ps parts.1)

-- each option is short enough for strings
pub options-short : (field : OptionField) (kind : Kind) (ps : List Pair) → IsTrue (is_options field kind ps)
    → All IsShort ps
options-short field kind ps h =
    let parts = and_parts (are_for_kind kind ps) _ h in
    let lawful = and_parts (is_ascending ps) _ parts.1 in
    All-from_recursion IsShort ps (all-short field ps lawful.1)

-- a field has at most six options
pub options-few : (field : OptionField) (ps : List Pair) → is_ascending ps ≡ true
    → list_all (is_option field) ps ≡ true → length ps ≤ 6
options-few field ps rising lawful =
    omega (arith, length-map ps (λ p. p.name), length-le_known field ps rising lawful, known-few field)
  where
    known-few : (field : OptionField) → length (known_names field) ≤ 6
    known-few CriticalOptions = omega arith
    known-few Extensions = omega arith

-- the options are short enough for a string
pub options_text-lt : (field : OptionField) (kind : Kind) (ps : List Pair) → IsTrue (is_options field kind ps)
    → length (options_text ps) < 2 ^ 32
options_text-lt field kind ps h =
    let parts = and_parts (are_for_kind kind ps) _ h in
    let lawful = and_parts (is_ascending ps) _ parts.1 in
    let few = options-few field ps lawful.0 lawful.1 in
    omega (arith, texts-le 235 option_text (is_option field) (option_text-le field) ps lawful.1)
