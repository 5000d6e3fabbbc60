-- The reports about an office's state.
use Rattle.std.specs.Prelude.{ℕ, suc, List, [], ◌∷◌, ◌++◌, length, drop, map, Bool, true, false, ◌&&◌, nat_lt, codes}
use Rattle.std.specs.Prelude.{decimal, if◌then◌else◌}
use Rattle.std.specs.List.{flat_map}
use Rattle.std.specs.Option.{option_map_or}
use Rattle.values.specs.Names.{after_name}
use Rattle.values.specs.declared.kind.Kind.{Kind}
use Rattle.values.specs.declared.kind.Kind.TheVariants.{User, Host}
use Rattle.lines.specs.Digests.{fingerprint_text}
use Rattle.lines.specs.Signers.{signers_text}
use Rattle.lines.specs.declared.signers.SignerRow.{SignerRow}
use Rattle.message.specs.declared.department.Department.{Department}
use Rattle.message.specs.declared.kinds.Message.TheVariants as message
use Rattle.office.specs.declared.ca.Ca.{Ca}
use Rattle.office.specs.declared.publication.Pending.{Pending}
use Rattle.office.specs.declared.publication.Entry.{Entry}
use Rattle.office.specs.declared.publication.Standing.{Standing}
use Rattle.office.specs.declared.publication.Standing.TheVariants as standing
use Rattle.office.specs.State.{State}
use Rattle.office.specs.Publication.{pending_of, departments_of, entries_of}
use Rattle.message.specs.Texts.{kind_text, message_text}

-- ---- pending certificates

-- the serial, a space, and the digest of the unsigned certificate
abbrev pub pending_line : Pending → List ℕ
pending_line p = decimal p.serial ++ (32 ∷ (p.digest ++ (10 ∷ [])))

abbrev pub pending_lines : List Pending → List ℕ
pending_lines rows = flat_map pending_line rows

abbrev pub pending_report : State → List ℕ
pending_report s = pending_lines (pending_of s)

-- ---- the CAs

-- the number, the first serial that it serves, and the fingerprint of its key
abbrev pub ca_line : ℕ → Ca → List ℕ
ca_line number ca = decimal number ++ (32 ∷ (decimal ca.since ++ (32 ∷ (fingerprint_text ca.key ++ (10 ∷ [])))))

abbrev pub ca_lines_from : ℕ → List Ca → List ℕ
ca_lines_from number [] = []
ca_lines_from number (ca ∷ cas) = ca_line number ca ++ ca_lines_from (suc number) cas

-- the lines of the CAs, which are numbered from 1
abbrev pub ca_lines : List Ca → List ℕ
ca_lines cas = ca_lines_from 1 cas

abbrev pub ca_report : State → List ℕ
ca_report s = ca_lines s.cas

-- ---- allowed signers (ssh-keygen(1), ALLOWED SIGNERS)

abbrev pub is_of_users : Kind → Bool
is_of_users User = true
is_of_users Host = false

-- a department for users that has namespaces
abbrev pub is_signing : Department → Bool
is_signing d = is_of_users d.kind && nat_lt 0 (length d.namespaces)

-- the pattern (ssh_config(5), PATTERNS) of the principals that meet a rule: for {name} and a suffix, * and the suffix
abbrev pub pattern_of : List ℕ → List ℕ
pattern_of rule = option_map_or (λ end. 42 ∷ end) (after_name rule) rule

abbrev pub signer_row : Department → Ca → SignerRow
signer_row d ca = record { rules = map pattern_of d.rules; namespaces = d.namespaces; ca = ca.key }

-- a row for each CA by number, if the department signs
abbrev pub signer_rows_of : List Ca → Department → List SignerRow
signer_rows_of cas d = if is_signing d then map (signer_row d) cas else []

-- the rows by the departments' names
abbrev pub signer_rows : List Department → List Ca → List SignerRow
signer_rows ds cas = flat_map (signer_rows_of cas) ds

abbrev pub signers_report : State → List ℕ
signers_report s = signers_text (signer_rows (departments_of s) s.cas)

-- ---- departments

-- the text of the message that puts the department
abbrev pub department_report : Department → List ℕ
department_report d = message_text (message.Department d)

abbrev pub department_reports : List Department → List ℕ
department_reports ds = flat_map department_report ds

-- the texts by the departments' names, with nothing between them
abbrev pub departments_report : State → List ℕ
departments_report s = department_reports (departments_of s)

-- ---- the table

-- a text, right-aligned in these places
abbrev pub right_in : (places text : List ℕ) → List ℕ
right_in places text = drop (length text) places ++ text

-- the status in 7 places
abbrev pub standing_word : Standing → List ℕ
standing_word standing.Pending = codes "pending"
standing_word standing.Signed = codes "signed "
standing_word standing.Revoked = codes "revoked"

-- 19 places
abbrev pub serial_places : List ℕ
serial_places = codes "                   "

-- 12 places
abbrev pub moment_places : List ℕ
moment_places = codes "            "

abbrev pub gap : List ℕ
gap = codes "  "

-- serial, kind, status, start and end of the validity, and key ID
abbrev pub entry_line : Entry → List ℕ
entry_line e =
    right_in serial_places (decimal e.serial)
    ++ ((gap ++ (kind_text e.kind ++ (gap ++ (standing_word e.standing ++ gap))))
    ++ (right_in moment_places (decimal e.after)
    ++ (gap ++ (right_in moment_places (decimal e.before) ++ (gap ++ (e.key_id ++ (10 ∷ [])))))))

abbrev pub total_line : (count version : ℕ) → List ℕ
total_line count version = codes "total " ++ (decimal count ++ (codes " version " ++ (decimal version ++ (10 ∷ []))))

-- a line for each certificate by serial, and then the total
abbrev pub table_lines : List Entry → ℕ → List ℕ
table_lines entries version = flat_map entry_line entries ++ total_line (length entries) version

abbrev pub table_report : State → List ℕ
table_report s = table_lines (entries_of s) s.version
