-- The lists that are read from a field have the field's text, and valid lists are read back from their text.
use Rattle.cert.proofs.Words.{Bool, IsBytes, List, None, Option, Pair, Some, [], and_from, and_parts, ap, append-nil}
use Rattle.cert.proofs.Words.{append_assoc, are_networks, are_principals, arith, bytes_eq, bytes_eq-Decides}
use Rattle.cert.proofs.Words.{codes, cond, eqb, eqb-true, false, flat_map, is_command, is_flag}
use Rattle.cert.proofs.Words.{is_option_value, is_principal, leb, leb-true, length, list_all, option_and_then}
use Rattle.cert.proofs.Words.{option_and_then_some, option_data, option_map, option_text, pair_at, pair_of}
use Rattle.cert.proofs.Words.{principals_of, principals_text, refl, same_Some, string_again, string_at, string_takes}
use Rattle.cert.proofs.Words.{string_text, strings_within, subst, suc, sym, true, zero, ℕ, ◌&&◌, ◌++◌, ◌+◌}
use Rattle.cert.proofs.Words.{◌<◌, ◌^◌, ◌∙◌, ◌∷◌, ◌≡◌, ◌≤◌}
use Rattle.std.proofs.lemmas.Bool.{cond-true, le-leb}
use Rattle.text.proofs.ByteLemmas.{IsBytes_left}
use Rattle.values.specs.Lists.{are_distinct}
use Rattle.cert.specs.Reading.{value_of}
use Rattle.lines.proofs.Strings.{IsBytes_string, empty}
use Rattle.cert.proofs.Sizes.{principal-le}

-- ---- steps

-- a result that passed a test
pub cond_is : {A : Type 0} (b : Bool) (o : Option A) (y : A) → cond b o None ≡ Some y → (b ≡ true) × (o ≡ Some y)
cond_is true o y e = (refl, e)
cond_is false o y e = absurd cc

-- an element that was put in front of a list
pub map_is : {X : Type 0} (x : X) (o : Option (List X)) (ys : List X) → option_map (λ xs. x ∷ xs) o ≡ Some ys
    → (xs : List X) × (o ≡ Some xs) × (ys ≡ x ∷ xs)
map_is x (Some xs) ys e = (xs, refl, sym (same_Some _ _ e))
map_is x None ys e = absurd cc

-- ---- strings

strings_step : (k : ℕ) (test : List ℕ → Bool) (bytes s rest : List ℕ) → string_at bytes ≡ Some (s, rest) → test s ≡ true
    → strings_within (suc k) test bytes ≡ option_map (λ others. s ∷ others) (strings_within k test rest)
strings_step k test [] s rest h t = absurd cc
strings_step k test (b ∷ bytes) s rest h t = rw (h, t) refl

-- what holds for the strings that were read
pub record AreStrings (k : ℕ) (test : List ℕ → Bool) (bytes : List ℕ) (ss : List (List ℕ)) : Type 0 where
  pub text : bytes ≡ flat_map string_text ss
  pub pass : list_all test ss ≡ true
  pub few : length ss ≤ k

no_strings : (k : ℕ) (test : List ℕ → Bool) (ss : List (List ℕ)) → Some [] ≡ Some ss → AreStrings k test [] ss
no_strings k test ss e = subst (λ (l : List (List ℕ)). AreStrings k test [] l) (same_Some _ _ e)
    (record { text = refl; pass = refl; few = omega arith })

pub strings_found : (k : ℕ) (test : List ℕ → Bool) (bytes : List ℕ) (ss : List (List ℕ)) → IsBytes bytes
    → strings_within k test bytes ≡ Some ss → AreStrings k test bytes ss
strings_found zero test [] ss h e = no_strings zero test ss e
strings_found (suc k) test [] ss h e = no_strings (suc k) test ss e
strings_found zero test (b ∷ bytes) ss h e = absurd cc
strings_found (suc k) test (b ∷ bytes) ss h e =
    option_and_then_some (λ s. cond (test s.0) (option_map (λ others. s.0 ∷ others)
    (strings_within k test s.1)) None) (string_at (b ∷ bytes)) ss e (λ s is gives.
    let passed = cond_is (test s.0) (option_map (λ others. s.0 ∷ others) (strings_within k test s.1)) ss gives in
    let rest = map_is s.0 (strings_within k test s.1) ss passed.1 in
    let here = string_takes (b ∷ bytes) s.0 s.1 h is in
    let there = strings_found k test s.1 rest.0 (IsBytes_left (b ∷ bytes) (string_text s.0) s.1 h here) rest.1 in
    subst (λ (l : List (List ℕ)). AreStrings (suc k) test (b ∷ bytes) l) (sym rest.2) (record {
      text = here ∙ ap (λ (t : List ℕ). string_text s.0 ++ t) there.text;
      pass = and_from (test s.0) _ passed.0 there.pass;
      few = omega (arith, there.few);
    }))

pub strings_again : (k : ℕ) (test : List ℕ → Bool) → ((s : List ℕ) → test s ≡ true → length s < 2 ^ 32)
    → (ss : List (List ℕ)) → list_all test ss ≡ true → length ss ≤ k
    → strings_within k test (flat_map string_text ss) ≡ Some ss
strings_again zero test short [] pass few = refl
strings_again (suc k) test short [] pass few = refl
strings_again zero test short (s ∷ ss) pass few = absurd (omega arith)
strings_again (suc k) test short (s ∷ ss) pass few =
    let parts = and_parts (test s) _ pass in
    strings_step k test (string_text s ++ flat_map string_text ss) s (flat_map string_text ss) (string_again s
    (flat_map string_text ss) (short s parts.0)) parts.0
    ∙ ap (option_map (λ others. s ∷ others)) (strings_again k test short ss parts.1 (omega arith))

-- ---- principals

-- the principals that were read are valid, and the text is theirs
pub principals_found : (text : List ℕ) (ps : List (List ℕ)) → IsBytes text → principals_of text ≡ Some ps
    → (text ≡ principals_text ps) × (are_principals ps ≡ true)
principals_found text ps h e =
    option_and_then_some (λ qs. cond (leb 1 (length qs) && are_distinct qs) (Some qs) None)
    (strings_within 16 is_principal text) ps e (λ qs is gives.
    let passed = cond_is (leb 1 (length qs) && are_distinct qs) (Some qs) ps gives in
    let parts = and_parts (leb 1 (length qs)) _ passed.0 in
    let strings = strings_found 16 is_principal text qs h is in
    subst (λ (l : List (List ℕ)). (text ≡ principals_text l) × (are_principals l ≡ true)) (same_Some _ _ passed.1) (
      strings.text,
      and_from (leb 1 (length qs) && leb (length qs) 16 && list_all is_principal qs) _
          (and_from (leb 1 (length qs) && leb (length qs) 16) _ (and_from (leb 1 (length qs)) _ parts.0
          (le-leb _ _ strings.few)) strings.pass) parts.1,
    ))

-- valid principals are read back from their text
pub principals_again : (ps : List (List ℕ)) → are_principals ps ≡ true → principals_of (principals_text ps) ≡ Some ps
principals_again ps h =
    let parts = and_parts (leb 1 (length ps) && leb (length ps) 16 && list_all is_principal ps) _ h in
    let sized = and_parts (leb 1 (length ps) && leb (length ps) 16) _ parts.0 in
    let ends = and_parts (leb 1 (length ps)) _ sized.0 in
    let short : (s : List ℕ) → is_principal s ≡ true → length s < 2 ^ 32 = λ s e. omega (arith, principal-le s e) in
    let read = strings_again 16 is_principal short ps sized.1 (leb-true _ _ ends.1) in
    ap (option_and_then (λ qs. cond (leb 1 (length qs) && are_distinct qs) (Some qs) None)) read
    ∙ cond-true (leb 1 (length ps) && are_distinct ps) (Some ps) None (and_from (leb 1 (length ps)) _ ends.0 parts.1)

-- ---- pairs

-- a flag has no value
pub flag_value : (name value : List ℕ) → is_flag name ≡ true → is_option_value name value ≡ true → value ≡ []
flag_value name value flag h =
    nothing value (by (bytes_eq name (codes "force-command")) (bytes_eq name (codes "source-address"))
    (is_flag name && eqb (length value) 0) refl refl h (λ e. eqb-true _ _ (and_parts (is_flag name) _ e).1))
  where
    nothing : (t : List ℕ) → length t ≡ 0 → t ≡ []
    nothing [] e = refl
    nothing (b ∷ t) e = absurd (omega arith)

    no_flag : (other : List ℕ) → is_flag other ≡ false → name ≡ other → ⊥
    no_flag other none e = absurd (cc (sym flag ∙ ap is_flag e ∙ none))

    by : (forced sourced : Bool) (last : Bool) → bytes_eq name (codes "force-command") ≡ forced
        → bytes_eq name (codes "source-address") ≡ sourced
        → cond forced (is_command value) (cond sourced (are_networks value) last) ≡ true → (last ≡ true
        → length value ≡ 0) → length value ≡ 0
    by true sourced last e f h g = absurd (no_flag (codes "force-command") refl ((bytes_eq-Decides name
        (codes "force-command")).0 e))
    by false true last e f h g = absurd (no_flag (codes "source-address") refl ((bytes_eq-Decides name
        (codes "source-address")).0 f))
    by false false last e f h g = g h

-- the data of an option is that of the value that was read from it
value_found : (name inner value : List ℕ) → IsBytes inner → value_of name inner ≡ Some value
    → inner ≡ option_data (pair_of name value)
value_found name inner value h e = by (is_flag name) e
  where
    by : (flag : Bool) → cond flag (cond (eqb (length inner) 0) (Some []) None) (option_and_then (λ s. cond (eqb
        (length s.1) 0) (Some s.0) None) (string_at inner)) ≡ Some value
        → inner ≡ cond flag [] (string_text value)
    by true e = empty inner (cond_is (eqb (length inner) 0) (Some []) value e).0
    by false e =
        option_and_then_some (λ s. cond (eqb (length s.1) 0) (Some s.0) None) (string_at inner) value e (λ s is gives.
        let whole = cond_is (eqb (length s.1) 0) (Some s.0) value gives in
        string_takes inner s.0 s.1 h is ∙ ap (λ (t : List ℕ). string_text s.0 ++ t) (empty s.1 whole.0)
        ∙ append-nil (string_text s.0) ∙ ap string_text (same_Some _ _ whole.1))

-- the value is read from the data of an option
value_again : (name value : List ℕ) → (is_flag name ≡ true → value ≡ []) → length value < 2 ^ 32
    → value_of name (option_data (pair_of name value)) ≡ Some value
value_again name value flagged short = by (is_flag name) refl
  where
    read : option_and_then (λ s. cond (eqb (length s.1) 0) (Some s.0) None) (string_at (string_text value)) ≡ Some value
    read = ap (λ (t : List ℕ). option_and_then (λ s. cond (eqb (length s.1) 0) (Some s.0) None) (string_at t))
        (sym (append-nil (string_text value)))
        ∙ ap (option_and_then (λ s. cond (eqb (length s.1) 0) (Some s.0) None)) (string_again value [] short)

    by : (flag : Bool) → is_flag name ≡ flag → (let inner = cond flag [] (string_text value) in
        cond flag (cond (eqb (length inner) 0) (Some []) None) (option_and_then (λ s. cond (eqb (length s.1) 0)
        (Some s.0) None) (string_at inner))) ≡ Some value
    by true e = ap (λ v. Some v) (sym (flagged e))
    by false e = read

pair_step : (bytes name left inner rest value : List ℕ) → string_at bytes ≡ Some (name, left)
    → string_at left ≡ Some (inner, rest) → value_of name inner ≡ Some value
    → pair_at bytes ≡ Some (pair_of name value, rest)
pair_step bytes name left inner rest value e f g = rw (e, f, g) refl

-- the bytes begin with the text of the option that was read
pub pair_found : (bytes : List ℕ) (p : Pair) (rest : List ℕ) → IsBytes bytes → pair_at bytes ≡ Some (p, rest)
    → bytes ≡ option_text p ++ rest
pair_found bytes p rest h e =
    option_and_then_some (λ name. option_and_then (λ inner. option_map {U = Pair × List ℕ} (λ value.
    (pair_of name.0 value, inner.1)) (value_of name.0 inner.0)) (string_at name.1)) (string_at bytes) (
      p,
      rest,
    ) e (λ name named e2.
    option_and_then_some (λ inner. option_map {U = Pair × List ℕ} (λ value. (
      pair_of name.0 value,
      inner.1,
    )) (value_of name.0 inner.0)) (string_at name.1) (p, rest) e2 (λ inner held e3.
    let front = string_takes bytes name.0 name.1 h named in
    let fits = IsBytes_left bytes (string_text name.0) name.1 h front in
    let back = string_takes name.1 inner.0 inner.1 fits held in
    let within = IsBytes_string name.1 inner.0 inner.1 back fits in
    with_value name.0 name.1 inner.0 inner.1 (value_of name.0 inner.0) front back
    (λ value v. value_found name.0 inner.0 value within v) refl e3))
  where
    with_value : (name left inner after : List ℕ) (o : Option (List ℕ)) → bytes ≡ string_text name ++ left
        → left ≡ string_text inner ++ after
        → ((value : List ℕ) → value_of name inner ≡ Some value → inner ≡ option_data (pair_of name value))
        → value_of name inner ≡ o → option_map {U = Pair × List ℕ} (λ value. (
          pair_of name value,
          after,
        )) o ≡ Some (p, rest) → bytes ≡ option_text p ++ rest
    with_value name left inner after None front back law v e = absurd cc
    with_value name left inner after (Some value) front back law v e =
        let same = same_Some _ _ e in
        let is : pair_of name value ≡ p = ap (λ q. q.0) same in
        let ends : after ≡ rest = ap (λ q. q.1) same in
        front ∙ ap (λ (t : List ℕ). string_text name ++ t) (back
        ∙ ap (λ (t : List ℕ). string_text t ++ after) (law value v))
        ∙ sym (append_assoc (string_text name) (string_text (option_data (pair_of name value))) after)
        ∙ ap (λ (q : Pair). option_text q ++ after) is ∙ ap (λ (t : List ℕ). option_text p ++ t) ends

-- an option is read back from its text
pub pair_again : (p : Pair) (rest : List ℕ) → (is_flag p.name ≡ true → p.value ≡ []) → length p.name < 2 ^ 32
    → length p.value + 4 < 2 ^ 32
    → pair_at (option_text p ++ rest) ≡ Some (p, rest)
pair_again p rest flagged name value =
    ap pair_at (append_assoc (string_text p.name) (string_text (option_data p)) rest)
    ∙ pair_step (string_text p.name ++ (string_text (option_data p) ++ rest)) p.name (string_text
    (option_data p) ++ rest) (option_data p) rest p.value
    (string_again p.name (string_text (option_data p) ++ rest) name) (string_again (option_data p) rest (held
    (is_flag p.name))) (value_again p.name p.value flagged (omega arith))
  where
    held : (flag : Bool) → length (cond flag [] (string_text p.value)) < 2 ^ 32
    held true = omega arith
    held false = omega arith
