-- Keys as strings, and their types' names.
use Rattle.std.proofs.Common.{Bool, List, None, Option, Some, [], ap, append-nil, append_assoc, arith, codes, cond}
use Rattle.std.proofs.Common.{false, inl, inr, leb, length, refl, replicate, suc, sym, true, zero, ℕ, ◌++◌, ◌+◌, ◌-◌, ◌<◌}
use Rattle.std.proofs.Common.{◌^◌, ◌∙◌, ◌∷◌, ◌≡◌, ◌≤◌}
use Rattle.std.specs.List.{list_all}
use Rattle.std.specs.Option.{option_and_then}
use Rattle.std.specs.Str.{bytes_eq}
use Rattle.std.proofs.lemmas.Bool.{and_parts, cases_Bool, leb-true}
use Rattle.std.proofs.lemmas.Option.{option_and_then_some, same_Some}
use Rattle.std.proofs.lemmas.Slice.Eq.{bytes_eq-Decides}
use Rattle.wire.specs.Reading.{string_at}
use Rattle.wire.specs.Texts.{string_text}
use Rattle.text.specs.Bytes.{IsBytes}
use Rattle.text.proofs.ByteLemmas.{IsBytes_left}
use Rattle.wire.proofs.Laws.{string_again, string_takes}
use Rattle.lines.specs.Subjects.{are_parts, cert_name, key_name, part_count, parts_text, pass_each, strings_at}
use Rattle.lines.specs.Subjects.{strings_from, tests_of, type_by, type_named, type_of, type_or}
use Rattle.lines.specs.declared.subject.KeyType.{KeyType}
use Rattle.std.proofs.lemmas.List.{flat_map_more}
use Rattle.lines.specs.declared.subject.KeyType.TheVariants.{
  Ed25519,
  SkEd25519,
  EcdsaP256,
  EcdsaP384,
  EcdsaP521,
  SkEcdsaP256,
  Rsa,
}

-- ---- names of types

this_or : (names : KeyType → List ℕ) (name : List ℕ) (t x : KeyType) (other : Option KeyType)
    → (other ≡ Some x → name ≡ names x) → type_or names name t other ≡ Some x → name ≡ names x
this_or names name t x other later e = elim (cases_Bool (bytes_eq name (names t))) [
  | inl is ↦
      let same : Some t ≡ Some x = sym (ap (λ (b : Bool). cond b (Some t) other) is) ∙ e in
      (bytes_eq-Decides name (names t)).0 is ∙ ap names (same_Some t x same)
  | inr not ↦ later (sym (ap (λ (b : Bool). cond b (Some t) other) not) ∙ e)
]

-- a type that is found has this name
pub type_found : (names : KeyType → List ℕ) (name : List ℕ) (x : KeyType) → type_by names name ≡ Some x
    → name ≡ names x
type_found names name x =
    let or = this_or names name in
    or Ed25519 x _ (or SkEd25519 x _ (or EcdsaP256 x _ (or EcdsaP384 x _ (or EcdsaP521 x _ (or SkEcdsaP256 x _
    (or Rsa x None (λ none. absurd cc)))))))

-- and each type is found by its name
pub type_again : (t : KeyType) → type_of (cert_name t) ≡ Some t
type_again Ed25519 = refl
type_again SkEd25519 = refl
type_again EcdsaP256 = refl
type_again EcdsaP384 = refl
type_again EcdsaP521 = refl
type_again SkEcdsaP256 = refl
type_again Rsa = refl

pub key_type_again : (t : KeyType) → type_named (key_name t) ≡ Some t
key_type_again Ed25519 = refl
key_type_again SkEd25519 = refl
key_type_again EcdsaP256 = refl
key_type_again EcdsaP384 = refl
key_type_again EcdsaP521 = refl
key_type_again SkEcdsaP256 = refl
key_type_again Rsa = refl

pub cert_name-lt : (t : KeyType) → length (cert_name t) < 2 ^ 32
cert_name-lt Ed25519 = omega arith
cert_name-lt SkEd25519 = omega arith
cert_name-lt EcdsaP256 = omega arith
cert_name-lt EcdsaP384 = omega arith
cert_name-lt EcdsaP521 = omega arith
cert_name-lt SkEcdsaP256 = omega arith
cert_name-lt Rsa = omega arith

-- ---- a key of each type

abbrev zeros : ℕ → List ℕ
zeros n = replicate n 0

abbrev pub sample_key : KeyType → List (List ℕ)
sample_key Ed25519 = zeros 32 ∷ []
sample_key SkEd25519 = zeros 32 ∷ codes "ssh:" ∷ []
sample_key EcdsaP256 = codes "nistp256" ∷ (4 ∷ zeros 64) ∷ []
sample_key EcdsaP384 = codes "nistp384" ∷ (4 ∷ zeros 96) ∷ []
sample_key EcdsaP521 = codes "nistp521" ∷ (4 ∷ zeros 132) ∷ []
sample_key SkEcdsaP256 = codes "nistp256" ∷ (4 ∷ zeros 64) ∷ codes "ssh:" ∷ []
sample_key Rsa = (3 ∷ []) ∷ (1 ∷ zeros 256) ∷ []

pub sample_key_passes : (t : KeyType) → are_parts t (sample_key t) ≡ true
sample_key_passes Ed25519 = refl
sample_key_passes SkEd25519 = refl
sample_key_passes EcdsaP256 = refl
sample_key_passes EcdsaP384 = refl
sample_key_passes EcdsaP521 = refl
sample_key_passes SkEcdsaP256 = refl
sample_key_passes Rsa = refl

-- ---- the strings of a key

-- what was read is the text of the strings
takes_from : (n : ℕ) (before : List (List ℕ)) (bytes : List ℕ) (ps : List (List ℕ)) (left : List ℕ) → IsBytes bytes
    → strings_from n before bytes ≡ Some (ps, left) → parts_text before ++ bytes ≡ parts_text ps ++ left
takes_from zero before bytes ps left fits e =
    ap (λ (x : List (List ℕ) × List ℕ). parts_text x.0 ++ x.1) (same_Some (before, bytes) (ps, left) e)
takes_from (suc n) before bytes ps left fits e =
    option_and_then_some {B = List (List ℕ) × List ℕ} (λ s. strings_from n (before ++ s.0 ∷ []) s.1) (string_at bytes)
    (ps, left) e (λ s first more.
    let here : bytes ≡ string_text s.0 ++ s.1 = string_takes bytes s.0 s.1 fits first in
    let later = takes_from n (before ++ s.0 ∷ []) s.1 ps left (IsBytes_left bytes (string_text s.0) s.1 fits here) more in
    ap (λ b. parts_text before ++ b) here ∙ sym (append_assoc (parts_text before) (string_text s.0) s.1)
    ∙ ap (λ t. t ++ s.1) (flat_map_more string_text [] before s.0) ∙ later)

-- one more string is read
string_step : (n : ℕ) (before : List (List ℕ)) (bytes s rest : List ℕ) → string_at bytes ≡ Some (s, rest)
    → strings_from (suc n) before bytes ≡ strings_from n (before ++ s ∷ []) rest
string_step n before bytes s rest h =
    ap (λ (o : Option (List ℕ × List ℕ)). option_and_then (λ s. strings_from n (before ++ s.0 ∷ []) s.1) o) h

pub strings_go_on : (count i : ℕ) (before : List (List ℕ)) (bytes s rest : List ℕ)
    (total : Option (List (List ℕ) × List ℕ)) → i < count → string_at bytes ≡ Some (s, rest)
    → strings_from (count - i) before bytes ≡ total
    → strings_from (count - (i + 1)) (before ++ s ∷ []) rest ≡ total
strings_go_on count i before bytes s rest total lt h so_far =
    let k : count - i ≡ suc (count - (i + 1)) = omega arith in
    sym (string_step (count - (i + 1)) before bytes s rest h)
    ∙ ap (λ (n : ℕ). strings_from n before bytes) (sym k) ∙ so_far

-- the rest doesn't begin with a string
pub strings_cut : (count i : ℕ) (before : List (List ℕ)) (bytes : List ℕ) (total : Option (List (List ℕ) × List ℕ))
    → i < count → string_at bytes ≡ None → strings_from (count - i) before bytes ≡ total → total ≡ None
strings_cut count i before bytes total lt h so_far =
    let k : count - i ≡ suc (count - (i + 1)) = omega arith in
    sym so_far ∙ ap (λ (n : ℕ). strings_from n before bytes) k
    ∙ ap (λ (o : Option (List ℕ × List ℕ)). option_and_then
    (λ s. strings_from (count - (i + 1)) (before ++ s.0 ∷ []) s.1) o) h

-- all strings are read
pub strings_end : (count i : ℕ) (before : List (List ℕ)) (bytes : List ℕ) (total : Option (List (List ℕ) × List ℕ))
    → count ≤ i → strings_from (count - i) before bytes ≡ total → total ≡ Some (before, bytes)
strings_end count i before bytes total le so_far =
    let k : count - i ≡ 0 = omega arith in
    sym so_far ∙ ap (λ (n : ℕ). strings_from n before bytes) k

pub strings_take : (t : KeyType) (bytes : List ℕ) → IsBytes bytes → (ps : List (List ℕ)) (left : List ℕ)
    → strings_at t bytes ≡ Some (ps, left) → bytes ≡ parts_text ps ++ left
strings_take t bytes fits ps left e = takes_from (part_count t) [] bytes ps left fits e

-- short strings are read from their text
abbrev pub is_short : List ℕ → Bool
is_short p = leb (length p) 2049

again_from : (n : ℕ) (before ps : List (List ℕ)) (rest : List ℕ) → length ps ≡ n → list_all is_short ps ≡ true
    → strings_from n before (parts_text ps ++ rest) ≡ Some (before ++ ps, rest)
again_from zero before [] rest len short = ap (λ (l : List (List ℕ)). Some (l, rest)) (sym (append-nil before))
again_from zero before (p ∷ ps) rest len short = absurd (omega (arith, len))
again_from (suc n) before [] rest len short = absurd (omega (arith, len))
again_from (suc n) before (p ∷ ps) rest len short =
    let parts = and_parts (is_short p) _ short in
    let small : length p < 2 ^ 32 = omega (arith, leb-true _ _ parts.0) in
    let one : length ps ≡ n = omega (arith, len) in
    ap (λ b. strings_from (suc n) before b) (append_assoc (string_text p) (parts_text ps) rest)
    ∙ ap (λ (o : Option (List ℕ × List ℕ)). option_and_then (λ s. strings_from n (before ++ s.0 ∷ []) s.1) o)
    (string_again p (parts_text ps ++ rest) small)
    ∙ again_from n (before ++ p ∷ []) ps rest one parts.1
    ∙ ap (λ (l : List (List ℕ)). Some (l, rest)) (append_assoc before (p ∷ []) ps)

-- as many strings as tests
pass_each-length : (tests : List (List ℕ → Bool)) (ps : List (List ℕ)) → pass_each tests ps ≡ true
    → length ps ≡ length tests
pass_each-length [] [] h = refl
pass_each-length [] (p ∷ ps) h = absurd cc
pass_each-length (test ∷ tests) [] h = absurd cc
pass_each-length (test ∷ tests) (p ∷ ps) h = ap suc (pass_each-length tests ps (and_parts (test p) _ h).1)

-- more strings than tests
pub too_many : (tests : List (List ℕ → Bool)) (ps : List (List ℕ)) → length tests < length ps
    → false ≡ pass_each tests ps
too_many tests ps lt = elim (cases_Bool (pass_each tests ps)) [
  | inl passes ↦ absurd (omega (arith, pass_each-length tests ps passes))
  | inr fails ↦ sym fails
]

pub strings_again : (t : KeyType) (ps : List (List ℕ)) (rest : List ℕ) → are_parts t ps ≡ true
    → strings_at t (parts_text ps ++ rest) ≡ Some (ps, rest)
strings_again t ps rest h =
    let parts = and_parts (list_all is_short ps) _ h in
    again_from (part_count t) [] ps rest (pass_each-length (tests_of t) ps parts.1) parts.0
