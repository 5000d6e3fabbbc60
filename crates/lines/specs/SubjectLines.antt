-- Public-key lines of subjects: a type, the key's blob in base64 with padding, and optionally a comment.
use Rattle.std.specs.Prelude.{ℕ, List, ◌∷◌, ◌++◌, length, Bool, ◌&&◌, ◌==◌, nat_lt, if◌then◌else◌}
use Rattle.std.specs.Prelude.{Option, Some, None, option_and_then}
use Rattle.std.specs.List.{list_all}
use Rattle.std.specs.Result.{result_ok}
use Rattle.std.specs.Str.{bytes_eq}
use Rattle.base64.specs.Engines.{standard}
use Rattle.base64.specs.GeneralPurpose.{decode_of, encode_of}
use Rattle.wire.specs.Reading.{string_at}
use Rattle.wire.specs.Texts.{string_text}
use Rattle.lines.specs.KeyLines.{comment_text, is_comment_or_none}
use Rattle.lines.specs.Reading.{comment_of, word_of}
use Rattle.lines.specs.Subjects.{are_parts, key_name, parts_text, strings_at, type_named}
use Rattle.lines.specs.declared.subject.KeyType.{KeyType}
use Rattle.lines.specs.declared.subject_line.SubjectLine.{SubjectLine}

-- the blob of a key: the type's name, and its strings
abbrev pub subject_blob : KeyType → List (List ℕ) → List ℕ
subject_blob t key = string_text (key_name t) ++ parts_text key

-- strings of bytes
abbrev pub are_bytes : List (List ℕ) → Bool
are_bytes ps = list_all (λ p. list_all (λ b. nat_lt b 256) p) ps

-- a key of its type, and a valid comment or none
abbrev pub is_subject_line : SubjectLine → Bool
is_subject_line k = are_parts k.key_type k.key && (are_bytes k.key && is_comment_or_none k.comment)

-- the type, a space, the blob in base64, and a space and the comment, if there is one
abbrev pub subject_line_text : SubjectLine → List ℕ
subject_line_text k =
    key_name k.key_type ++ 32 ∷ (encode_of standard (subject_blob k.key_type k.key) ++ comment_text k.comment)

-- ---- reading

abbrev pub passing_key : KeyType → List (List ℕ) × List ℕ → Option (List (List ℕ))
passing_key t ps = if are_parts t ps.0 && length ps.1 == 0 then Some ps.0 else None

-- the strings of a key of this type, in bytes after the type's name
abbrev pub key_after : KeyType → List ℕ × List ℕ → Option (List (List ℕ))
key_after t name = if bytes_eq name.0 (key_name t) then option_and_then (passing_key t) (strings_at t name.1) else None

-- the key of this type with this blob
abbrev pub key_in_blob : KeyType → List ℕ → Option (List (List ℕ))
key_in_blob t blob = option_and_then (key_after t) (string_at blob)

-- the key of this type in the base64 of a blob
abbrev pub key_in_word : KeyType → List ℕ → Option (List (List ℕ))
key_in_word t word = option_and_then (key_in_blob t) (result_ok (decode_of standard word))

abbrev pub with_comment : KeyType → Option (List ℕ) → List (List ℕ) → Option SubjectLine
with_comment t comment key =
    if is_comment_or_none comment then Some (record { key_type = t; key = key; comment = comment }) else None

-- the key and its comment
abbrev pub line_after : KeyType → List ℕ → Option SubjectLine
line_after t rest = option_and_then (with_comment t (comment_of rest)) (key_in_word t (word_of rest))

-- the public-key line with this text
abbrev pub subject_line_at : List ℕ → Option SubjectLine
subject_line_at line =
    option_and_then (λ t. option_and_then (line_after t) (comment_of line)) (type_named (word_of line))
