-- The format of public-key lines (sshd(8), AUTHORIZED_KEYS FILE FORMAT, without options): a type, a blob in base64, and
-- optionally a comment.
use Rattle.std.specs.Prelude.{ℕ, List, [], ◌∷◌, ◌++◌, length, codes, Bool, true}
use Rattle.std.specs.Prelude.{◌&&◌, ◌||◌, ◌==◌, nat_le, nat_lt, Option, Some, None}
use Rattle.std.specs.List.{list_all}
use Rattle.base64.specs.Engines.{standard}
use Rattle.base64.specs.GeneralPurpose.{encode_of}
use Rattle.lines.specs.Keys.{key_blob}
use Rattle.lines.specs.declared.key_line.KeyLine.{KeyLine}

-- a tab, a printable ASCII character, or a byte beyond ASCII
abbrev pub is_comment_byte : ℕ → Bool
is_comment_byte b = (b == 9 || (nat_le 32 b && nat_le b 126)) || (nat_le 128 b && nat_le b 255)

-- 0 to 1024 bytes, each of which is allowed in a comment
abbrev pub is_comment : List ℕ → Bool
is_comment c = nat_le (length c) 1024 && list_all is_comment_byte c

-- no comment, or a valid one
abbrev pub is_comment_or_none : Option (List ℕ) → Bool
is_comment_or_none None = true
is_comment_or_none (Some c) = is_comment c

-- 32 bytes
abbrev pub is_key : List ℕ → Bool
is_key key = length key == 32 && list_all (λ b. nat_lt b 256) key

-- a key, and a valid comment or none
abbrev pub is_key_line : KeyLine → Bool
is_key_line k = is_key k.key && is_comment_or_none k.comment

-- a letter, a digit, a plus sign or a slash (RFC 4648, table 1)
abbrev pub is_base64_letter : ℕ → Bool
is_base64_letter b =
    (nat_le 65 b && nat_le b 90) || (nat_le 97 b && nat_le b 122) || (nat_le 48 b && nat_le b 57) || b == 43 || b == 47

-- 68 such letters
abbrev pub is_base64_word : List ℕ → Bool
is_base64_word word = length word == 68 && list_all is_base64_letter word

-- nothing if there is no comment; a space alone for an empty comment
abbrev pub comment_text : Option (List ℕ) → List ℕ
comment_text None = []
comment_text (Some c) = 32 ∷ c

-- the type and the space after it
abbrev pub key_line_head : List ℕ
key_line_head = codes "ssh-ed25519 "

-- the type, a space, the blob in base64 (68 characters), and a space and the comment, if there is one; no line feed
abbrev pub key_line_text : KeyLine → List ℕ
key_line_text k = key_line_head ++ (encode_of standard (key_blob k.key) ++ comment_text k.comment)
