-- Reading messages line by line, with the number of the first line that does not fit.
use Rattle.std.specs.Prelude.{◌≡◌, ℕ, suc, zero, ◌+◌, ◌-◌, List, [], ◌∷◌, ◌++◌, length, take, drop, codes}
use Rattle.std.specs.Prelude.{Bool, not, ◌&&◌, ◌==◌, nat_lt, if◌then◌else◌, Option, Some, None, Result, Ok, Err}
use Rattle.std.specs.List.{list_all, list_any, slice_split, slice_index_or}
use Rattle.std.specs.Option.{option_and_then, option_map, is_some}
use Rattle.std.specs.Result.{result_ok}
use Rattle.std.specs.Str.{bytes_eq}
use Rattle.text.specs.Results.{◌>>=◌, or_fault}
use Rattle.text.specs.declared.pair.Pair.{Pair}
use Rattle.values.specs.declared.kind.Kind.{Kind}
use Rattle.values.specs.declared.kind.Kind.TheVariants.{User, Host}
use Rattle.values.specs.Decimals.{number_of}
use Rattle.values.specs.Names.{is_name, is_key_id}
use Rattle.values.specs.Options.{is_flag}
use Rattle.base64.specs.Engines.{standard}
use Rattle.base64.specs.GeneralPurpose.{decode_of}
use Rattle.lines.specs.Keys.{signature_of}
use Rattle.lines.specs.Reading.{comment_of, key_line_at, word_of}
use Rattle.lines.specs.SubjectLines.{subject_line_at}
use Rattle.lines.specs.declared.key_line.KeyLine.{KeyLine}
use Rattle.lines.specs.declared.signature.Signature.{Signature}
use Rattle.lines.specs.declared.subject_line.SubjectLine.{SubjectLine}
use Rattle.message.specs.declared.message_fault.MessageFault.{MessageFault}
use Rattle.message.specs.declared.message_fault.MessageFault.TheVariants as fault
use Rattle.message.specs.Ends.{Ends}
use Rattle.message.specs.declared.delivery.Delivery.{Delivery}
use Rattle.message.specs.declared.department.Department.{Department}
use Rattle.message.specs.declared.issue.Issue.{Issue}
use Rattle.message.specs.declared.kinds.Message.{Message}
use Rattle.message.specs.declared.kinds.Message.TheVariants as message
use Rattle.message.specs.declared.renewal.Renewal.{Renewal}
use Rattle.message.specs.declared.serial_range.SerialRange.{SerialRange}
use Rattle.values.specs.Serials.{is_serial}
use Rattle.message.specs.Values.{
  are_administrators,
  are_rules,
  are_principals,
  are_option_names,
  are_extension_names,
  are_namespaces,
  are_key_types,
  comes_before,
  fits_bare_name,
  fits_kind,
  has_bare_name,
  is_demand,
  is_longest_life,
  is_end,
  is_critical_option,
  is_digest,
  is_range,
}

-- The result of a function is that of reading by the definitions, unless memory was refused.
abbrev pub Gives : {X : Type 0} → Result X MessageFault → Result X ℕ → Type 0
Gives (Ok x) read = read ≡ Ok x
Gives (Err (fault.BadLine n)) read = read ≡ Err n
Gives (Err fault.NoMemory) read = Unit {0}

-- a value, if it passes a test
abbrev pub passing : {A : Type 0} → (A → Bool) → A → Option A
passing test x = if test x then Some x else None

-- ---- lines

-- the pieces between line feeds; the one after the last line feed is no line
abbrev pub pieces : List ℕ → List (List ℕ)
pieces bytes = slice_split (λ b. b == 10) bytes

-- line n, counted from 1; if it is missing or not terminated, the empty line, which fits nothing
abbrev pub line_of : ℕ → List (List ℕ) → List ℕ
line_of n ps = if nat_lt n (length ps) then slice_index_or ps (n - 1) [] else []

-- whether there are exactly n lines: one piece follows them, and it is empty
abbrev pub ends_after : ℕ → List (List ℕ) → Bool
ends_after n ps = length ps == n + 1 && list_any (λ p. length p == 0) (drop n ps)

-- ---- the contents of a line

-- the rest of the line after these bytes
abbrev pub rest_after : List ℕ → List ℕ → Option (List ℕ)
rest_after head line = if bytes_eq (take (length head) line) head then Some (drop (length head) line) else None

abbrev pub name_after : List ℕ → List ℕ → Option (List ℕ)
name_after head line = option_and_then (passing is_name) (rest_after head line)

abbrev pub key_id_after : List ℕ → List ℕ → Option (List ℕ)
key_id_after head line = option_and_then (passing is_key_id) (rest_after head line)

abbrev pub key_line_after : List ℕ → List ℕ → Option KeyLine
key_line_after head line = option_and_then (λ text. result_ok (key_line_at text)) (rest_after head line)

abbrev pub subject_line_after : List ℕ → List ℕ → Option SubjectLine
subject_line_after head line = option_and_then subject_line_at (rest_after head line)

-- a number after these bytes that passes a test
abbrev pub number_after : (ℕ → Bool) → List ℕ → List ℕ → Option ℕ
number_after test head line = option_and_then (passing test) (option_and_then number_of (rest_after head line))

-- nothing, or a space and texts separated by commas
abbrev pub texts_in_list : List ℕ → Option (List (List ℕ))
texts_in_list [] = Some []
texts_in_list (b ∷ text) = if b == 32 then Some (slice_split (λ c. c == 44) text) else None

-- a list after these bytes that passes a test
abbrev pub list_after : (List (List ℕ) → Bool) → List ℕ → List ℕ → Option (List (List ℕ))
list_after test head line = option_and_then (passing test) (option_and_then texts_in_list (rest_after head line))

abbrev pub kind_of_line : List ℕ → Option Kind
kind_of_line line = if bytes_eq line (codes "kind user") then Some User else
    (if bytes_eq line (codes "kind host") then Some Host else None)

-- an option: the name of a flag alone, or any other name, a space and a value
abbrev pub option_in : List ℕ → Option Pair
option_in text = elim (comment_of text) [
  | None ↦ if is_flag (word_of text) then Some (record { name = word_of text; value = [] }) else None
  | Some value ↦ if is_flag (word_of text) then None else Some (record { name = word_of text; value = value })
]

-- whether an option may follow the earlier ones
abbrev pub is_new_option : List Pair → Pair → Bool
is_new_option before p = is_critical_option p && not (list_any (λ q. bytes_eq q.name p.name) before)

-- the option in a line, if it may follow the earlier ones
abbrev pub option_after : List Pair → List ℕ → Option Pair
option_after before line =
    option_and_then (passing (is_new_option before)) (option_and_then option_in (rest_after (codes "option ") line))

-- these pairs from before line n, followed by those in at most k lines from line n on, each of which may follow the
-- earlier ones
unfoldable pub pairs_from : (List Pair → List ℕ → Option Pair) → ℕ → ℕ → List Pair → List (List ℕ) → List Pair
pairs_from after zero n before ps = before
pairs_from after (suc k) n before ps = elim (after before (line_of n ps)) [
  | None ↦ before
  | Some p ↦ pairs_from after k (suc n) (before ++ p ∷ []) ps
]

-- these options from before line n, followed by those in at most k lines from line n on
abbrev pub options_from : ℕ → ℕ → List Pair → List (List ℕ) → List Pair
options_from k n before ps = pairs_from option_after k n before ps

-- what certificates must have: the name of an option alone, or with a space and the value that it must have
abbrev pub demand_in : List ℕ → Option Pair
demand_in text = elim (comment_of text) [
  | None ↦ Some (record { name = word_of text; value = [] })
  | Some value ↦ if length value == 0 then None else Some (record { name = word_of text; value = value })
]

-- whether certificates of this kind must have an option beside these, whose names come before its own
abbrev pub is_new_demand : Kind → List Pair → Pair → Bool
is_new_demand kind before p = is_demand kind p && list_all (λ q. comes_before q p) before

-- the option in a line that certificates must have, if it may follow the earlier ones
abbrev pub demand_after : Kind → List Pair → List ℕ → Option Pair
demand_after kind before line =
    option_and_then (passing (is_new_demand kind before)) (option_and_then demand_in (rest_after (codes "must ") line))

-- these, followed by those in at most k lines from line n on
abbrev pub demands_from : Kind → ℕ → ℕ → List Pair → List (List ℕ) → List Pair
demands_from kind k n before ps = pairs_from (demand_after kind) k n before ps

-- the key types in a line
abbrev pub key_types_after : List ℕ → Option (List (List ℕ))
key_types_after line = list_after are_key_types (codes "key-types") line

-- none if the line isn't there
abbrev pub listed : Option (List (List ℕ)) → List (List ℕ)
listed None = []
listed (Some ts) = ts

-- how many lines were read
abbrev pub lines_read : Option (List (List ℕ)) → ℕ
lines_read None = 0
lines_read (Some ts) = 1

abbrev pub digest_after : List ℕ → List ℕ → Option (List ℕ)
digest_after head line = option_and_then (passing is_digest) (rest_after head line)

-- the signature whose blob the 112 base64 characters encode
abbrev pub signature_at : List ℕ → Option Signature
signature_at text =
    if length text == 112
    then option_map (λ bytes. record { bytes = bytes })
    (option_and_then signature_of (result_ok (decode_of standard text)))
    else None

abbrev pub signature_after : List ℕ → List ℕ → Option Signature
signature_after head line = option_and_then signature_at (rest_after head line)

-- the serials from one number to another
abbrev pub range_between : Option ℕ → Option ℕ → Option SerialRange
range_between lo hi = option_and_then (λ l. option_map (λ h. record { lo = l; hi = h }) hi) lo

-- two numbers with a space between them
abbrev pub range_of : List ℕ → Option SerialRange
range_of text =
    option_and_then (λ last. range_between (number_of (word_of text)) (number_of last)) (comment_of text)

abbrev pub range_after : List ℕ → List ℕ → Option SerialRange
range_after head line = option_and_then (passing is_range) (option_and_then range_of (rest_after head line))

-- ---- messages

-- what is made from a value
abbrev pub made : {A B : Type 0} → (A → B) → Result A ℕ → Result B ℕ
made f (Ok x) = Ok (f x)
made f (Err n) = Err n

-- the longest lifetime and the namespaces of a department, on its last lines, from line m on
unfoldable pub limits_in : Kind → Bool → ℕ → List (List ℕ) → Result (ℕ × List (List ℕ)) ℕ
limits_in kind bare m ps = do
  longest_life ← or_fault m (number_after is_longest_life (codes "maxlife ") (line_of m ps))
  namespaces ← or_fault (m + 1)
      (list_after (λ ts. are_namespaces ts && (fits_kind kind ts && fits_bare_name bare ts)) (codes "namespaces")
      (line_of (m + 1) ps))
  if ends_after (m + 1) ps
      then Ok (longest_life, namespaces)
      else Err (m + 2)

-- what stands in a department's text after its options; `bare`: {name} alone is one of its rules
unfoldable pub ends_in : Kind → Bool → List (List ℕ) → Result Ends ℕ
ends_in kind bare ps = do
  let demands = demands_from kind 3 6 [] ps
  let n = 6 + length demands
  extensions ← or_fault n
      (list_after (λ ts. are_extension_names ts && fits_kind kind ts) (codes "extensions") (line_of n ps))
  let key_types = key_types_after (line_of (n + 1) ps)
  made (λ limits. ((demands, extensions), (listed key_types, limits)))
      (limits_in kind bare (n + 1 + lines_read key_types) ps)

-- a department, from the pieces of its text
unfoldable pub department_in : List (List ℕ) → Result Department ℕ
department_in ps = do
  name ← or_fault 1 (name_after (codes "department ") (line_of 1 ps))
  kind ← or_fault 2 (kind_of_line (line_of 2 ps))
  administrators ← or_fault 3 (list_after are_administrators (codes "admins") (line_of 3 ps))
  rules ← or_fault 4 (list_after are_rules (codes "principals") (line_of 4 ps))
  options ← or_fault 5 (list_after (λ ts. are_option_names ts && fits_kind kind ts) (codes "options") (line_of 5 ps))
  made (λ ends. record {
    name = name;
    kind = kind;
    administrators = administrators;
    rules = rules;
    options = options;
    demands = ends.0.0;
    extensions = ends.0.1;
    key_types = ends.1.0;
    longest_life = ends.1.1.0;
    namespaces = ends.1.1.1;
  }) (ends_in kind (has_bare_name rules) ps)

-- an issue, from the pieces of its text
unfoldable pub issue_in : List (List ℕ) → Result Issue ℕ
issue_in ps = do
  department ← or_fault 1 (name_after (codes "issue ") (line_of 1 ps))
  key_id ← or_fault 2 (key_id_after (codes "keyid ") (line_of 2 ps))
  key ← or_fault 3 (subject_line_after (codes "key ") (line_of 3 ps))
  principals ← or_fault 4 (list_after are_principals (codes "principals") (line_of 4 ps))
  after ← or_fault 5 (number_after is_end (codes "after ") (line_of 5 ps))
  before ← or_fault 6 (number_after is_end (codes "before ") (line_of 6 ps))
  let options = options_from 3 7 [] ps
  extensions ← or_fault (7 + length options)
      (list_after are_extension_names (codes "extensions") (line_of (7 + length options) ps))
  if ends_after (7 + length options) ps
      then Ok (record {
        department = department;
        key_id = key_id;
        key = key;
        principals = principals;
        after = after;
        before = before;
        options = options;
        extensions = extensions;
      })
      else Err (8 + length options)

-- a renewal, from the pieces of its text
unfoldable pub renewal_in : List (List ℕ) → Result Renewal ℕ
renewal_in ps = do
  serial ← or_fault 1 (number_after is_serial (codes "renew ") (line_of 1 ps))
  after ← or_fault 2 (number_after is_end (codes "after ") (line_of 2 ps))
  before ← or_fault 3 (number_after is_end (codes "before ") (line_of 3 ps))
  if ends_after 3 ps
      then Ok (record { serial = serial; after = after; before = before })
      else Err 4

-- a delivery, from the pieces of its text
unfoldable pub delivery_in : List (List ℕ) → Result Delivery ℕ
delivery_in ps = do
  serial ← or_fault 1 (number_after is_serial (codes "deliver ") (line_of 1 ps))
  digest ← or_fault 2 (digest_after (codes "digest ") (line_of 2 ps))
  signature ← or_fault 3 (signature_after (codes "signature ") (line_of 3 ps))
  if ends_after 3 ps
      then Ok (record { serial = serial; digest = digest; signature = signature })
      else Err 4

-- the value of a message of one line, from the pieces of its text
unfoldable pub one_line_in : {A : Type 0} → (List ℕ → Option A) → List (List ℕ) → Result A ℕ
one_line_in read ps = do
  x ← or_fault 1 (read (line_of 1 ps))
  if ends_after 1 ps then Ok x else Err 2

-- whether line 1 begins with these bytes
abbrev pub begins : List ℕ → List (List ℕ) → Bool
begins head ps = is_some (rest_after head (line_of 1 ps))

-- a message of one line, from the pieces of its text
unfoldable pub one_line_message_in : List (List ℕ) → Result Message ℕ
one_line_message_in ps =
    if begins (codes "revoke-serial ") ps
    then made (λ n. message.RevokeSerial n) (one_line_in (number_after is_serial (codes "revoke-serial ")) ps)
    else (if begins (codes "revoke-range ") ps
    then made (λ r. message.RevokeRange r) (one_line_in (range_after (codes "revoke-range ")) ps)
    else (if begins (codes "revoke-keyid ") ps
    then made (λ k. message.RevokeKeyId k) (one_line_in (key_id_after (codes "revoke-keyid ")) ps)
    else (if begins (codes "rollover ") ps
    then made (λ k. message.Rollover k) (one_line_in (key_line_after (codes "rollover ")) ps)
    else Err 1)))

-- a message, from the pieces of its text: line 1 gives the kind
abbrev pub message_in : List (List ℕ) → Result Message ℕ
message_in ps =
    if begins (codes "department ") ps then made (λ d. message.Department d) (department_in ps)
    else (if begins (codes "issue ") ps then made (λ i. message.Issue i) (issue_in ps)
    else (if begins (codes "renew ") ps then made (λ r. message.Renew r) (renewal_in ps)
    else (if begins (codes "deliver ") ps then made (λ d. message.Deliver d) (delivery_in ps)
    else one_line_message_in ps)))

-- the message with this text, or the first line that does not fit
abbrev pub message_at : List ℕ → Result Message ℕ
message_at bytes = message_in (pieces bytes)

-- the message with this text, if there is one
abbrev pub message_of : List ℕ → Option Message
message_of bytes = result_ok (message_at bytes)
