-- A public-key line of any type is read exactly from its text.
use Rattle.std.proofs.Common.{Bool, Err, List, None, Ok, Option, Result, Some, [], ap, append_assoc, append-nil, arith}
use Rattle.std.proofs.Common.{cond, eqb, false, length, nat_lt, refl, replicate, slice_index, subst, suc}
use Rattle.std.proofs.Common.{sym, true, zero, ℕ, ◌&&◌, ◌++◌, ◌+◌, ◌*◌, ◌/◌, ◌%◌, ◌<◌, ◌^◌, ◌∙◌, ◌∷◌, ◌≡◌}
use Rattle.std.specs.Prelude.{IfOk, IsTrue}
use Rattle.std.specs.List.{list_all}
use Rattle.std.specs.Option.{option_and_then}
use Rattle.std.specs.Result.{result_ok}
use Rattle.std.specs.Str.{bytes_eq}
use Rattle.std.proofs.lemmas.Bool.{agree_below_at, and_from, and_parts, cond-true}
use Rattle.std.proofs.lemmas.Option.{cond_some, option_and_then_some, same_Some}
use Rattle.std.proofs.lemmas.Slice.Eq.{bytes_eq-Decides}
use Rattle.base64.specs.Engines.{standard}
use Rattle.base64.specs.GeneralPurpose.{decode_of, encode_of}
use Rattle.text.specs.Bytes.{IsBytes}
use Rattle.text.proofs.ByteLemmas.{IsBytes-append, IsBytes_from, IsBytes_front, IsBytes_left, all_bytes}
use Rattle.base64.specs.Rfc4648.{encode_symbols, padding_len}
use Rattle.wire.specs.Reading.{string_at}
use Rattle.wire.specs.Texts.{string_text, u32_text}
use Rattle.wire.proofs.Laws.{string_again, string_takes}
use Rattle.lines.specs.KeyLines.{comment_text, is_base64_letter, is_comment_or_none}
use Rattle.lines.specs.Reading.{comment_of, word_of}
use Rattle.lines.proofs.Alphabet.{letters_free}
use Rattle.lines.proofs.Base64.{IsBytes-decode_of, base64_again, base64_found}
use Rattle.lines.proofs.Cases.{ok_of}
use Rattle.lines.proofs.Words.{IsFreeOfSpace, comment_of-text, text_is, word_of-text}
use Rattle.lines.specs.Subjects.{are_parts, key_name, parts_text, strings_at, type_named}
use Rattle.lines.specs.declared.subject.KeyType.{KeyType}
use Rattle.lines.specs.declared.subject.KeyType.TheVariants.{Ed25519, SkEd25519, EcdsaP256, EcdsaP384, EcdsaP521, SkEcdsaP256, Rsa}
use Rattle.lines.proofs.Strings.{IsBytes_string, empty}
use Rattle.lines.proofs.Subjects.{key_type_again, strings_again, strings_take, type_found}
use Rattle.lines.specs.SubjectLines.{are_bytes, is_subject_line, key_after, key_in_blob, key_in_word, line_after}
use Rattle.lines.specs.SubjectLines.{passing_key, subject_blob, subject_line_at, subject_line_text, with_comment}
use Rattle.lines.specs.declared.subject_line.SubjectLine.{SubjectLine}

-- ---- names

name_free : (t : KeyType) → IsFreeOfSpace (key_name t)
name_free Ed25519 = (refl, (refl, (refl, (refl, (refl, (refl, (refl, (refl, (refl, (refl, (refl, tt)))))))))))
name_free t = all_free (key_name t) (free t)
  where
    all_free : (xs : List ℕ) → list_all (λ b. cond (eqb b 32) false true) xs ≡ true → IsFreeOfSpace xs
    all_free [] h = tt
    all_free (x ∷ xs) h =
        let parts = and_parts (cond (eqb x 32) false true) _ h in (plain x parts.0, all_free xs parts.1)
      where
        by : (b : Bool) → cond b false true ≡ true → b ≡ false
        by true e = absurd cc
        by false e = refl

        plain : (x : ℕ) → cond (eqb x 32) false true ≡ true → eqb x 32 ≡ false
        plain x e = by (eqb x 32) e

    free : (t : KeyType) → list_all (λ b. cond (eqb b 32) false true) (key_name t) ≡ true
    free Ed25519 = refl
    free SkEd25519 = refl
    free EcdsaP256 = refl
    free EcdsaP384 = refl
    free EcdsaP521 = refl
    free SkEcdsaP256 = refl
    free Rsa = refl

name-lt : (t : KeyType) → length (key_name t) < 2 ^ 32
name-lt Ed25519 = omega arith
name-lt SkEd25519 = omega arith
name-lt EcdsaP256 = omega arith
name-lt EcdsaP384 = omega arith
name-lt EcdsaP521 = omega arith
name-lt SkEcdsaP256 = omega arith
name-lt Rsa = omega arith

name_bytes : (t : KeyType) → IsBytes (key_name t)
name_bytes t = IsBytes_from (key_name t) (small t)
  where
    small : (t : KeyType) → list_all (λ b. nat_lt b 256) (key_name t) ≡ true
    small Ed25519 = refl
    small SkEd25519 = refl
    small EcdsaP256 = refl
    small EcdsaP384 = refl
    small EcdsaP521 = refl
    small SkEcdsaP256 = refl
    small Rsa = refl

-- ---- base64 has no space

abbrev table : List ℕ
table = standard.encode_table

symbol_letter : (i : ℕ) → i < 64 → is_base64_letter (slice_index table i) ≡ true
symbol_letter i lt = agree_below_at (λ j. is_base64_letter (slice_index table j)) (λ j. true) 64 i refl lt

letters_of : (m : List ℕ) → IsBytes m → list_all is_base64_letter (encode_symbols table m) ≡ true
unfolding encode_symbols
letters_of [] fits = refl
letters_of (a ∷ []) fits =
    let a< : a < 256 = fits 0 in
    and_from _ _ (symbol_letter (a / 4) (omega arith)) (and_from _ _ (symbol_letter (a % 4 * 16) (omega arith)) refl)
letters_of (a ∷ b ∷ []) fits =
    let a< : a < 256 = fits 0 in
    let b< : b < 256 = fits 1 in
    and_from _ _ (symbol_letter (a / 4) (omega arith))
    (and_from _ _ (symbol_letter (a % 4 * 16 + b / 16) (omega arith))
    (and_from _ _ (symbol_letter (b % 16 * 4) (omega arith)) refl))
letters_of (a ∷ b ∷ c ∷ rest) fits =
    let a< : a < 256 = fits 0 in
    let b< : b < 256 = fits 1 in
    let c< : c < 256 = fits 2 in
    and_from _ _ (symbol_letter (a / 4) (omega arith))
    (and_from _ _ (symbol_letter (a % 4 * 16 + b / 16) (omega arith))
    (and_from _ _ (symbol_letter (b % 16 * 4 + c / 64) (omega arith))
    (and_from _ _ (symbol_letter (c % 64) (omega arith)) (letters_of rest (λ k. fits (suc (suc (suc k))))))))

free_append : (a b : List ℕ) → IsFreeOfSpace a → IsFreeOfSpace b → IsFreeOfSpace (a ++ b)
free_append [] b fa fb = fb
free_append (x ∷ a) b fa fb = (fa.0, free_append a b fa.1 fb)

padding_free : (n : ℕ) → IsFreeOfSpace (replicate n 61)
padding_free zero = tt
padding_free (suc n) = (refl, padding_free n)

base64_free : (m : List ℕ) → IsBytes m → IsFreeOfSpace (encode_of standard m)
base64_free m fits =
    free_append (encode_symbols table m) (replicate (padding_len (length m)) 61)
    (letters_free (encode_symbols table m) (letters_of m fits)) (padding_free (padding_len (length m)))

-- ---- blobs

u32_bytes : (n : ℕ) → IsBytes (u32_text n)
u32_bytes n zero = omega arith
u32_bytes n (suc zero) = omega arith
u32_bytes n (suc (suc zero)) = omega arith
u32_bytes n (suc (suc (suc zero))) = omega arith
u32_bytes n (suc (suc (suc (suc i)))) = omega arith

IsBytes-string : (s : List ℕ) → IsBytes s → length s < 2 ^ 32 → IsBytes (string_text s)
IsBytes-string s fits small = IsBytes-append (u32_text (length s)) s (u32_bytes (length s)) fits

IsBytes-parts : (ps : List (List ℕ)) → are_bytes ps ≡ true → IsBytes (parts_text ps)
IsBytes-parts [] h = λ i. omega arith
IsBytes-parts (p ∷ ps) h =
    let parts = and_parts (list_all (λ b. nat_lt b 256) p) _ h in
    IsBytes-append (string_text p) (parts_text ps)
    (IsBytes-append (u32_text (length p)) p (u32_bytes (length p)) (IsBytes_from p parts.0)) (IsBytes-parts ps parts.1)

blob_again : (t : KeyType) (key : List (List ℕ)) → are_parts t key ≡ true
    → key_in_blob t (subject_blob t key) ≡ Some key
blob_again t key h =
    let name : string_at (subject_blob t key) ≡ Some (key_name t, parts_text key) =
    string_again (key_name t) (parts_text key) (name-lt t) in
    let same = (bytes_eq-Decides (key_name t) (key_name t)).1 refl in
    let whole : strings_at t (parts_text key) ≡ Some (key, []) =
    ap (strings_at t) (sym (append-nil (parts_text key))) ∙ strings_again t key [] h in
    ap (λ o. option_and_then (key_after t) o) name
    ∙ ap (λ (b : Bool). cond b (option_and_then (passing_key t) (strings_at t (parts_text key))) None) same
    ∙ ap (λ o. option_and_then (passing_key t) o) whole
    ∙ ap (λ (b : Bool). cond (b && true) (Some key) None) h

blob_found : (t : KeyType) (blob : List ℕ) (key : List (List ℕ)) → IsBytes blob → key_in_blob t blob ≡ Some key
    → (blob ≡ subject_blob t key) × (are_parts t key ≡ true)
blob_found t blob key fits e =
    option_and_then_some (key_after t) (string_at blob) key e (λ name is after.
    let here : blob ≡ string_text name.0 ++ name.1 = string_takes blob name.0 name.1 fits is in
    let named = cond_none (bytes_eq name.0 (key_name t)) _ key after in
    option_and_then_some (passing_key t) (strings_at t name.1) key named.1 (λ ps read kept.
    let passed = cond_some (are_parts t ps.0 && eqb (length ps.1) 0) ps.0 key kept in
    let tests = and_parts (are_parts t ps.0) _ passed.0 in
    let left = IsBytes_left blob (string_text name.0) name.1 fits here in
    let text : name.1 ≡ parts_text ps.0 ++ ps.1 = strings_take t name.1 left ps.0 ps.1 read in
    let bare : name.1 ≡ parts_text key = text ∙ ap (λ r. parts_text ps.0 ++ r) (empty ps.1 tests.1)
    ∙ append-nil (parts_text ps.0) ∙ ap parts_text passed.1 in
    let is_name : name.0 ≡ key_name t = (bytes_eq-Decides name.0 (key_name t)).0 named.0 in (
      here ∙ ap (λ n. string_text n ++ name.1) is_name ∙ ap (λ r. string_text (key_name t) ++ r) bare,
      sym (ap (are_parts t) passed.1) ∙ tests.0,
    )))
  where
    cond_none : {A : Type 0} (b : Bool) (o : Option A) (y : A) → cond b o None ≡ Some y → (b ≡ true) × (o ≡ Some y)
    cond_none true o y e = (refl, e)
    cond_none false o y e = absurd cc

-- ---- lines

pub line_again : (k : SubjectLine) → IsTrue (is_subject_line k) → subject_line_at (subject_line_text k) ≡ Some k
line_again k lawful =
    let t = k.key_type in
    let parts = and_parts (are_parts t k.key) (are_bytes k.key && is_comment_or_none k.comment) lawful in
    let more = and_parts (are_bytes k.key) (is_comment_or_none k.comment) parts.1 in
    let blob : List ℕ = subject_blob t k.key in
    let fits : IsBytes blob = IsBytes-append (string_text (key_name t)) (parts_text k.key)
    (IsBytes-string (key_name t) (name_bytes t) (name-lt t)) (IsBytes-parts k.key more.0) in
    let word : List ℕ = encode_of standard blob in
    let rest : List ℕ = word ++ comment_text k.comment in
    let free = base64_free blob fits in
    let is_type : type_named (word_of (key_name t ++ 32 ∷ rest)) ≡ Some t =
    ap type_named (word_of-text (key_name t) (Some rest) (name_free t)) ∙ key_type_again t in
    let is_rest : comment_of (key_name t ++ 32 ∷ rest) ≡ Some rest =
    comment_of-text (key_name t) (Some rest) (name_free t) in
    let is_key : key_in_word t (word_of rest) ≡ Some k.key =
    ap (key_in_word t) (word_of-text word k.comment free)
    ∙ ap (λ r. option_and_then (key_in_blob t) (result_ok r)) (base64_again blob fits) ∙ blob_again t k.key parts.0 in
    let is_comment : with_comment t (comment_of rest) k.key ≡ Some k =
    ap (λ c. with_comment t c k.key) (comment_of-text word k.comment free) ∙ cond-true _ (Some k) None more.1 in
    ap (λ o. option_and_then (λ t. option_and_then (line_after t) (comment_of (key_name k.key_type ++ 32 ∷ rest))) o)
    is_type
    ∙ ap (λ o. option_and_then (line_after t) o) is_rest
    ∙ ap (λ o. option_and_then (with_comment t (comment_of rest)) o) is_key ∙ is_comment

-- what is read from a comment's place and a key is the line's text
word_bytes : (rest : List ℕ) → IsBytes rest → IsBytes (word_of rest)
word_bytes rest fits =
    IsBytes_front (word_of rest) (comment_text (comment_of rest)) (subst IsBytes (text_is rest) fits)

all_bytes_of : (ps : List (List ℕ)) → IsBytes (parts_text ps) → are_bytes ps ≡ true
all_bytes_of [] fits = refl
all_bytes_of (p ∷ ps) fits =
    let here : parts_text (p ∷ ps) ≡ string_text p ++ parts_text ps = refl in
    and_from _ _ (all_bytes p (IsBytes_string (parts_text (p ∷ ps)) p (parts_text ps) here fits))
    (all_bytes_of ps (IsBytes_left (parts_text (p ∷ ps)) (string_text p) (parts_text ps) fits here))

pub line_found : (line : List ℕ) (k : SubjectLine) → IsBytes line → subject_line_at line ≡ Some k
    → IsTrue (is_subject_line k) × (line ≡ subject_line_text k)
line_found line k fits e =
    option_and_then_some (λ t. option_and_then (line_after t) (comment_of line)) (type_named (word_of line)) k e
    (λ t named more.
    option_and_then_some (line_after t) (comment_of line) k more (λ rest is_rest after.
    option_and_then_some (with_comment t (comment_of rest)) (key_in_word t (word_of rest)) k after (λ key is_key kept.
    let line_is : line ≡ key_name t ++ 32 ∷ rest = text_is line
    ∙ ap (λ n. n ++ comment_text (comment_of line)) (type_found key_name (word_of line) t named)
    ∙ ap (λ c. key_name t ++ comment_text c) is_rest in
    let rest_fits : IsBytes rest = IsBytes_left line (key_name t ++ 32 ∷ []) rest fits (line_is
    ∙ sym (append_assoc (key_name t) (32 ∷ []) rest)) in
    let word_fits = word_bytes rest rest_fits in
    let passed = cond_some (is_comment_or_none (comment_of rest)) (record { key_type = t; key = key; comment = comment_of rest })
    k kept in
    option_and_then_some (key_in_blob t) (result_ok (decode_of standard (word_of rest))) key is_key (λ blob decoded in_blob.
    let read = ok_of _ blob decoded in
    let blob_fits = IsBytes-decode_of standard (word_of rest) blob word_fits read in
    let key_is = blob_found t blob key blob_fits in_blob in
    let bytes : are_bytes key ≡ true = all_bytes_of key (IsBytes_left blob (string_text (key_name t)) (parts_text key)
    blob_fits key_is.0) in
    let word : word_of rest ≡ encode_of standard (subject_blob t key) =
    base64_found (word_of rest) blob word_fits read ∙ ap (encode_of standard) key_is.0 in
    let rest_is : rest ≡ encode_of standard (subject_blob t key) ++ comment_text (comment_of rest) = text_is rest
    ∙ ap (λ w. w ++ comment_text (comment_of rest)) word in
    subst (λ (k : SubjectLine). IsTrue (is_subject_line k) × (line ≡ subject_line_text k)) passed.1
    (and_from _ _ key_is.1 (and_from _ _ bytes passed.0), line_is ∙ ap (λ r. key_name t ++ 32 ∷ r) rest_is)))))

-- no text belongs to two lines
pub line_unique : (a b : SubjectLine) → IsTrue (is_subject_line a) → IsTrue (is_subject_line b)
    → subject_line_text a ≡ subject_line_text b → a ≡ b
line_unique a b la lb e =
    same_Some a b (sym (line_again a la) ∙ ap subject_line_at e ∙ line_again b lb)

-- ---- from reading to the result

pub found_in : {E : Type 0} (line : List ℕ) (r : Result (Option SubjectLine) E) → IsBytes line
    → IfOk r (λ o. o ≡ subject_line_at line)
    → IfOk r (λ o. (k : SubjectLine) → o ≡ Some k → IsTrue (is_subject_line k) × (line ≡ subject_line_text k))
found_in line (Ok o) fits e = λ k is. line_found line k fits (sym e ∙ is)
found_in line (Err x) fits e = tt

pub only_in : {E : Type 0} (line : List ℕ) (r : Result (Option SubjectLine) E) (k : SubjectLine)
    → IsTrue (is_subject_line k) → line ≡ subject_line_text k → IfOk r (λ o. o ≡ subject_line_at line)
    → IfOk r (λ o. o ≡ Some k)
only_in line (Ok o) k lawful is e = e ∙ ap subject_line_at is ∙ line_again k lawful
only_in line (Err x) k lawful is e = tt
