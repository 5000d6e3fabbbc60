-- The public-key lines in messages: none has a line feed, and each is read from its text alone.
use Rattle.message.proofs.Words.{All-append, All-cons, All-nil, AllByRecursion, KeyLine, List, None, Ok, Option, Some}
use Rattle.message.proofs.Words.{[], rest_after, and_parts, ap, comment_text, encode_of, eqb, false, is_key_line}
use Rattle.message.proofs.Words.{key_line_after, key_line_text, lacks_from, length, ok_of, refl, replicate, result_ok}
use Rattle.message.proofs.Words.{standard, true, ℕ, ◌++◌, ◌+◌, ◌∷◌, ◌≡◌}
use Rattle.std.proofs.Common.{◌*◌, ◌/◌, ◌%◌, slice_index}
use Rattle.std.proofs.lemmas.List.Elements.{All-from_recursion, All-replicate}
use Rattle.base64.specs.Rfc4648.{encode_symbols, padding_len}
use Rattle.lines.specs.Keys.{key_blob}
use Rattle.lines.specs.KeyLines.{is_comment_or_none, is_comment_byte, key_line_head}
use Rattle.lines.specs.Reading.{key_line_at}
use Rattle.lines.proofs.Base64.{free_at}
use Rattle.lines.proofs.KeyLineLaws.{found_from, key_line_again}
use Rattle.lines.specs.SubjectLines.{is_subject_line, subject_blob, subject_line_at, subject_line_text}
use Rattle.lines.specs.declared.subject_line.SubjectLine.{SubjectLine}
use Rattle.lines.proofs.SubjectLineLaws.{line_again, line_found}
use Rattle.lines.specs.Subjects.{key_name}
use Rattle.lines.specs.declared.subject.KeyType.{KeyType}
use Rattle.lines.specs.declared.subject.KeyType.TheVariants.{Ed25519, SkEd25519, EcdsaP256, EcdsaP384, EcdsaP521, SkEcdsaP256, Rsa}
use Rattle.message.specs.Reading.{subject_line_after}
use Rattle.message.proofs.Readings.{IsField, IsLine}
use Rattle.message.proofs.Fields.{IsHead, lacks_by, value_after}

symbol_line : (i : ℕ) → eqb (slice_index standard.encode_table i) 10 ≡ false
symbol_line i = free_at 10 standard.encode_table i refl refl

symbols_line : (bytes : List ℕ) → AllByRecursion (λ b. eqb b 10 ≡ false) (encode_symbols standard.encode_table bytes)
unfolding encode_symbols
symbols_line [] = tt
symbols_line (a ∷ []) = (symbol_line (a / 4), (symbol_line (a % 4 * 16), tt))
symbols_line (a ∷ b ∷ []) =
    (symbol_line (a / 4), (symbol_line (a % 4 * 16 + b / 16), (symbol_line (b % 16 * 4), tt)))
symbols_line (a ∷ b ∷ c ∷ rest) = (
  symbol_line (a / 4),
  (
    symbol_line (a % 4 * 16 + b / 16),
    (symbol_line (b % 16 * 4 + c / 64), (symbol_line (c % 64), symbols_line rest)),
  ),
)

-- base64 has no line feed
pub base64_line : (bytes : List ℕ) → IsLine (encode_of standard bytes)
base64_line bytes =
    All-append (λ x. eqb x 10 ≡ false) (encode_symbols standard.encode_table bytes)
    (replicate (padding_len (length bytes)) 61) (All-from_recursion (λ x. eqb x 10 ≡ false) _ (symbols_line bytes))
    (All-replicate (λ x. eqb x 10 ≡ false) (padding_len (length bytes)) 61 refl)

comment_line : (comment : Option (List ℕ)) → is_comment_or_none comment ≡ true → IsLine (comment_text comment)
comment_line None is = All-nil (λ x. eqb x 10 ≡ false)
comment_line (Some c) is =
    All-cons (λ x. eqb x 10 ≡ false) 32 c refl (lacks_from is_comment_byte 10 c refl (and_parts _ _ is).1)

-- a valid public-key line has no line feed
pub key_is_line : (k : KeyLine) → is_key_line k ≡ true → IsLine (key_line_text k)
key_is_line k is =
    All-append (λ x. eqb x 10 ≡ false) key_line_head (encode_of standard (key_blob k.key) ++ comment_text k.comment)
    (lacks_by 10 key_line_head refl)
    (All-append (λ x. eqb x 10 ≡ false) (encode_of standard (key_blob k.key)) (comment_text k.comment)
    (base64_line (key_blob k.key)) (comment_line k.comment (and_parts _ _ is).1))

-- a public-key line after a word
pub key_field : (head : List ℕ) → IsHead head → rest_after head [] ≡ None
    → IsField (key_line_after head) (λ k. head ++ key_line_text k) (λ k. is_key_line k ≡ true)
key_field head line empty =
    value_after head (λ t. result_ok (key_line_at t)) key_line_text (λ k. is_key_line k ≡ true) line empty (record {
      found = λ t k fits e. found_from t (Ok k) fits (ok_of (key_line_at t) k e);
      again = λ k is. ap result_ok (key_line_again k is);
      is_line = key_is_line;
    })

-- a valid public-key line
abbrev pub some_key : KeyLine
some_key = record { key = replicate 32 0; comment = None }

-- ---- keys of any type

name_line : (t : KeyType) → IsLine (key_name t)
name_line Ed25519 = lacks_by 10 (key_name Ed25519) refl
name_line SkEd25519 = lacks_by 10 (key_name SkEd25519) refl
name_line EcdsaP256 = lacks_by 10 (key_name EcdsaP256) refl
name_line EcdsaP384 = lacks_by 10 (key_name EcdsaP384) refl
name_line EcdsaP521 = lacks_by 10 (key_name EcdsaP521) refl
name_line SkEcdsaP256 = lacks_by 10 (key_name SkEcdsaP256) refl
name_line Rsa = lacks_by 10 (key_name Rsa) refl

pub subject_is_line : (k : SubjectLine) → is_subject_line k ≡ true → IsLine (subject_line_text k)
subject_is_line k is =
    let word : List ℕ = encode_of standard (subject_blob k.key_type k.key) in
    All-append (λ x. eqb x 10 ≡ false) (key_name k.key_type) (32 ∷ (word ++ comment_text k.comment))
    (name_line k.key_type)
    (All-cons (λ x. eqb x 10 ≡ false) 32 (word ++ comment_text k.comment) refl
    (All-append (λ x. eqb x 10 ≡ false) word (comment_text k.comment) (base64_line (subject_blob k.key_type k.key))
    (comment_line k.comment (and_parts _ _ (and_parts _ _ is).1).1)))

pub subject_field : (head : List ℕ) → IsHead head → rest_after head [] ≡ None
    → IsField (subject_line_after head) (λ k. head ++ subject_line_text k) (λ k. is_subject_line k ≡ true)
subject_field head line empty =
    value_after head subject_line_at subject_line_text (λ k. is_subject_line k ≡ true) line empty (record {
      found = λ t k fits e. line_found t k fits e;
      again = line_again;
      is_line = subject_is_line;
    })

abbrev pub some_subject : SubjectLine
some_subject = record { key_type = Ed25519; key = replicate 32 0 ∷ []; comment = None }
