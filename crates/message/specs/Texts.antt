-- The texts of messages: lines, each terminated by a line feed.
use Rattle.std.specs.Prelude.{ℕ, List, [], ◌∷◌, ◌++◌, length, map, codes, ◌==◌, if◌then◌else◌, IsTrue}
use Rattle.std.specs.List.{join_with_byte}
use Rattle.std.specs.Fmt.{decimal}
use Rattle.text.specs.declared.pair.Pair.{Pair}
use Rattle.values.specs.declared.kind.Kind.{Kind}
use Rattle.values.specs.declared.kind.Kind.TheVariants.{User, Host}
use Rattle.values.specs.Options.{is_flag}
use Rattle.base64.specs.Engines.{standard}
use Rattle.base64.specs.GeneralPurpose.{encode_of}
use Rattle.lines.specs.KeyLines.{key_line_text}
use Rattle.lines.specs.SubjectLines.{subject_line_text}
use Rattle.lines.specs.Subjects.{are_parts}
use Rattle.lines.specs.Keys.{signature_blob}
use Rattle.lines.specs.declared.signature.Signature.{Signature}
use Rattle.message.specs.declared.delivery.Delivery.{Delivery}
use Rattle.message.specs.declared.department.Department.{Department}
use Rattle.message.specs.Ends.{Ends, ends_of}
use Rattle.message.specs.declared.issue.Issue.{Issue}
use Rattle.message.specs.declared.kinds.Message.{Message}
use Rattle.message.specs.declared.kinds.Message.TheVariants as message
use Rattle.message.specs.declared.renewal.Renewal.{Renewal}
use Rattle.message.specs.declared.serial_range.SerialRange.{SerialRange}

-- lines, each with its line feed
abbrev pub lines_text : List (List ℕ) → List ℕ
lines_text [] = []
lines_text (line ∷ lines) = line ++ 10 ∷ lines_text lines

-- a word, a space and a value
abbrev pub line : List ℕ → List ℕ → List ℕ
line word value = word ++ 32 ∷ value

-- a word, a space and a list joined by commas; for an empty list the word alone
abbrev pub list_line : List ℕ → List (List ℕ) → List ℕ
list_line word [] = word
list_line word (t ∷ ts) = line word (join_with_byte 44 (t ∷ ts))

-- the word for a kind
abbrev pub kind_text : Kind → List ℕ
kind_text User = codes "user"
kind_text Host = codes "host"

-- the name of an option and, unless it is a flag, a space and the value
abbrev pub option_words : Pair → List ℕ
option_words p = if is_flag p.name then p.name else line p.name p.value

-- the line of an option
abbrev pub option_line : Pair → List ℕ
option_line p = line (codes "option") (option_words p)

-- the name of an option that certificates must have and, if it must have one value, a space and the value
abbrev pub demand_words : Pair → List ℕ
demand_words p = if length p.value == 0 then p.name else line p.name p.value

-- the line of an option that certificates must have
abbrev pub demand_line : Pair → List ℕ
demand_line p = line (codes "must") (demand_words p)

-- the line of the permitted key types; none if there are none
abbrev pub key_types_lines : List (List ℕ) → List (List ℕ)
key_types_lines [] = []
key_types_lines (t ∷ ts) = list_line (codes "key-types") (t ∷ ts) ∷ []

-- the lines of a department from its longest lifetime on
abbrev pub limit_lines : ℕ → List (List ℕ) → List (List ℕ)
limit_lines longest_life namespaces =
    line (codes "maxlife") (decimal longest_life) ∷ list_line (codes "namespaces") namespaces ∷ []

-- the lines of a department after its options
abbrev pub end_lines : Ends → List (List ℕ)
end_lines e =
    map demand_line e.0.0
    ++ list_line (codes "extensions") e.0.1 ∷ (key_types_lines e.1.0 ++ limit_lines e.1.1.0 e.1.1.1)

-- the lines of a department
abbrev pub department_lines : Department → List (List ℕ)
department_lines d =
    line (codes "department") d.name ∷ line (codes "kind") (kind_text d.kind)
    ∷ list_line (codes "admins") d.administrators ∷ list_line (codes "principals") d.rules
    ∷ list_line (codes "options") d.options ∷ end_lines (ends_of d)

-- the lines of an issue
abbrev pub issue_lines : Issue → List (List ℕ)
issue_lines i =
    line (codes "issue") i.department ∷ line (codes "keyid") i.key_id ∷ line (codes "key") (subject_line_text i.key)
    ∷ list_line (codes "principals") i.principals
    ∷ line (codes "after") (decimal i.after) ∷ line (codes "before") (decimal i.before)
    ∷ (map option_line i.options ++ list_line (codes "extensions") i.extensions ∷ [])

-- the lines of a renewal
abbrev pub renewal_lines : Renewal → List (List ℕ)
renewal_lines r =
    line (codes "renew") (decimal r.serial) ∷ line (codes "after") (decimal r.after)
    ∷ line (codes "before") (decimal r.before) ∷ []

-- the signature's blob in base64 (112 characters)
abbrev pub signature_text : Signature → List ℕ
signature_text s = encode_of standard (signature_blob s.bytes)

-- the lines of a delivery
abbrev pub delivery_lines : Delivery → List (List ℕ)
delivery_lines d =
    line (codes "deliver") (decimal d.serial) ∷ line (codes "digest") d.digest
    ∷ line (codes "signature") (signature_text d.signature) ∷ []

-- the first serial, a space and the last
abbrev pub range_words : SerialRange → List ℕ
range_words r = line (decimal r.lo) (decimal r.hi)

-- the lines of a message
abbrev pub message_lines : Message → List (List ℕ)
message_lines (message.Department d) = department_lines d
message_lines (message.Issue i) = issue_lines i
message_lines (message.Renew r) = renewal_lines r
message_lines (message.Deliver d) = delivery_lines d
message_lines (message.RevokeSerial serial) = line (codes "revoke-serial") (decimal serial) ∷ []
message_lines (message.RevokeRange r) = line (codes "revoke-range") (range_words r) ∷ []
message_lines (message.RevokeKeyId key_id) = line (codes "revoke-keyid") key_id ∷ []
message_lines (message.Rollover key) = line (codes "rollover") (key_line_text key) ∷ []

-- the text of a department
abbrev pub department_text : Department → List ℕ
department_text d = lines_text (department_lines d)

-- the text of an issue
abbrev pub issue_text : Issue → List ℕ
issue_text i = lines_text (issue_lines i)

-- the text of a message
abbrev pub message_text : Message → List ℕ
message_text m = lines_text (message_lines m)

-- a message whose text can be written: the key of an issue is one of its type
abbrev pub IsWritable : Message → Type 0
IsWritable (message.Issue i) = IsTrue (are_parts i.key.key_type i.key.key)
IsWritable m = Unit {0}
