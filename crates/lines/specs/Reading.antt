-- Reading a text as a public-key line, and its first fault.
use Rattle.std.specs.Prelude.{◌≡◌, ◌≢◌, ℕ, List, ◌++◌, length, take, drop, Bool, false, ◌==◌, nat_lt}
use Rattle.std.specs.Prelude.{if◌then◌else◌, Option, Some, None, option_and_then, Result, Ok, Err, IsOk, IsTrue}
use Rattle.std.specs.List.{before_first, after_first}
use Rattle.std.specs.Result.{result_ok}
use Rattle.std.specs.Str.{bytes_eq}
use Rattle.base64.specs.Engines.{standard}
use Rattle.base64.specs.GeneralPurpose.{encode_of, decode_of}
use Rattle.text.specs.Bytes.{IsBytes}
use Rattle.text.specs.Results.{◌>>=◌, or_fault}
use Rattle.lines.specs.Keys.{key_blob, key_of}
use Rattle.lines.specs.KeyLines.{is_base64_word, is_key, is_comment, is_comment_or_none}
use Rattle.lines.specs.KeyLines.{is_key_line, key_line_head, key_line_text}
use Rattle.lines.specs.declared.key_line.KeyLine.{KeyLine}
use Rattle.lines.specs.declared.key_line.LineFault.{LineFault}
use Rattle.lines.specs.declared.key_line.LineFault.TheVariants.{WrongType, BadBase64, BadBlob, BadComment, NoMemory}

-- the rest of the line after the type and its space
abbrev pub after_type : List ℕ → Option (List ℕ)
after_type line = if bytes_eq (take 12 line) key_line_head then Some (drop 12 line) else None

abbrev pub is_space : ℕ → Bool
is_space b = b == 32

-- the text before the first space, or the whole text if there is none
abbrev pub word_of : List ℕ → List ℕ
word_of text = before_first is_space text

-- the text after the first space, if there is one
abbrev pub comment_of : List ℕ → Option (List ℕ)
comment_of text = if nat_lt (length (word_of text)) (length text) then Some (after_first is_space text) else None

-- the 51 bytes that 68 characters of base64 encode
abbrev pub blob_of : List ℕ → Option (List ℕ)
blob_of word =
    if length word == 68
    then option_and_then (λ blob. if length blob == 51 then Some blob else None) (result_ok (decode_of standard word))
    else None

-- the line with a key and a comment, if the comment is valid
abbrev pub checked_line : List ℕ → Option (List ℕ) → Result KeyLine LineFault
checked_line key comment =
    if is_comment_or_none comment then Ok (record { key = key; comment = comment }) else Err BadComment

-- the public-key line with this text, or the first fault
unfoldable pub key_line_at : List ℕ → Result KeyLine LineFault
key_line_at line = do
  rest ← or_fault WrongType (after_type line)
  blob ← or_fault BadBase64 (blob_of (word_of rest))
  key ← or_fault BadBlob (key_of blob)
  checked_line key (comment_of rest)

-- The result of a function is that of reading by the definitions, and memory is refused only for a valid line.
abbrev pub GivesKeyLine : Result KeyLine LineFault → Result KeyLine LineFault → Type 0
GivesKeyLine (Ok k) read = read ≡ Ok k
GivesKeyLine (Err NoMemory) read = IsOk read
GivesKeyLine (Err e) read = read ≡ Err e

-- ---- the faults, each as a property of the whole text

-- The text does not begin with the type and a space.
abbrev pub HasWrongType : List ℕ → Type 0
HasWrongType line = (rest : List ℕ) → line ≢ key_line_head ++ rest

-- The text begins with them, and the word after them is not 68 characters of the standard alphabet.
abbrev pub HasBadBase64 : List ℕ → Type 0
HasBadBase64 line = (rest : List ℕ) × (line ≡ key_line_head ++ rest) × (is_base64_word (word_of rest) ≡ false)

-- That word is 68 such characters, and the 51 bytes that they encode are the blob of no key.
abbrev pub HasBadBlob : List ℕ → Type 0
HasBadBlob line = (rest : List ℕ) × (blob : List ℕ) × (line ≡ key_line_head ++ rest) × IsBytes blob × (length blob ≡ 51)
    × (word_of rest ≡ encode_of standard blob) × ((key : List ℕ) → blob ≢ key_blob key)

-- The text is that of a key and a comment, and the comment is invalid.
abbrev pub HasBadComment : List ℕ → Type 0
HasBadComment line = (key : List ℕ) × (comment : List ℕ) × (is_comment comment ≡ false) × IsTrue (is_key key)
    × (line ≡ key_line_text (record { key = key; comment = Some comment }))

-- The text is that of a valid line.
abbrev pub IsKeyLineText : List ℕ → Type 0
IsKeyLineText line = (k : KeyLine) × IsTrue (is_key_line k) × (line ≡ key_line_text k)

-- the property of the text for each fault
abbrev pub IsLineFault : List ℕ → LineFault → Type 0
IsLineFault line WrongType = HasWrongType line
IsLineFault line BadBase64 = HasBadBase64 line
IsLineFault line BadBlob = HasBadBlob line
IsLineFault line BadComment = HasBadComment line
IsLineFault line NoMemory = IsKeyLineText line
