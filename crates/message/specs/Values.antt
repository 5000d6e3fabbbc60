-- The values that a message may hold.
use Rattle.std.specs.Prelude.{ℕ, List, [], ◌∷◌, length, map, codes, Bool, true, false, ◌&&◌, ◌||◌, ◌==◌, nat_le, nat_lt}
use Rattle.std.specs.Prelude.{if◌then◌else◌, is_some}
use Rattle.std.specs.List.{list_all, list_any}
use Rattle.std.specs.Str.{bytes_eq}
use Rattle.text.specs.declared.pair.Pair.{Pair}
use Rattle.values.specs.declared.kind.Kind.{Kind}
use Rattle.values.specs.declared.kind.Kind.TheVariants.{User, Host}
use Rattle.values.specs.declared.option_field.OptionField.TheVariants.{CriticalOptions, Extensions}
use Rattle.values.specs.Names.{is_administrator, is_name, is_rule, is_principal, is_key_id, is_namespace}
use Rattle.values.specs.Lists.{are_distinct}
use Rattle.values.specs.Options.{is_known, is_option_value}
use Rattle.values.specs.Serials.{is_serial}
use Rattle.lines.specs.KeyLines.{is_key_line}
use Rattle.lines.specs.SubjectLines.{is_subject_line}
use Rattle.lines.specs.Subjects.{type_named}
use Rattle.lines.specs.declared.signature.Signature.{Signature}
use Rattle.message.specs.declared.delivery.Delivery.{Delivery}
use Rattle.message.specs.declared.department.Department.{Department}
use Rattle.message.specs.declared.issue.Issue.{Issue}
use Rattle.message.specs.declared.kinds.Message.{Message}
use Rattle.message.specs.declared.kinds.Message.TheVariants as message
use Rattle.message.specs.declared.renewal.Renewal.{Renewal}
use Rattle.message.specs.declared.serial_range.SerialRange.{SerialRange}

-- distinct texts, each of which passes a test
abbrev pub are_distinct_and : (List ℕ → Bool) → List (List ℕ) → Bool
are_distinct_and is_element ts = list_all is_element ts && are_distinct ts

-- 0 to 16 distinct administrators: callers, or words with {name}
abbrev pub are_administrators : List (List ℕ) → Bool
are_administrators ts = nat_le (length ts) 16 && are_distinct_and is_administrator ts

-- 1 to 16 distinct rules
abbrev pub are_rules : List (List ℕ) → Bool
are_rules ts = (nat_le 1 (length ts) && nat_le (length ts) 16) && are_distinct_and is_rule ts

-- 1 to 16 distinct principals
abbrev pub are_principals : List (List ℕ) → Bool
are_principals ts = (nat_le 1 (length ts) && nat_le (length ts) 16) && are_distinct_and is_principal ts

-- distinct names of critical options
abbrev pub are_option_names : List (List ℕ) → Bool
are_option_names ts = are_distinct_and (is_known CriticalOptions) ts

-- distinct names of extensions
abbrev pub are_extension_names : List (List ℕ) → Bool
are_extension_names ts = are_distinct_and (is_known Extensions) ts

-- 0 to 8 distinct namespaces
abbrev pub are_namespaces : List (List ℕ) → Bool
are_namespaces ts = nat_le (length ts) 8 && are_distinct_and is_namespace ts

-- the list is empty in a department for hosts
abbrev pub fits_kind : Kind → List (List ℕ) → Bool
fits_kind User ts = true
fits_kind Host ts = length ts == 0

-- one of the rules is {name} alone
abbrev pub has_bare_name : List (List ℕ) → Bool
has_bare_name rules = list_any (λ rule. bytes_eq rule (codes "{name}")) rules

-- the list is empty in a department that has such a rule
abbrev pub fits_bare_name : Bool → List (List ℕ) → Bool
fits_bare_name true ts = length ts == 0
fits_bare_name false ts = true

-- 1 to 253402300799 seconds
abbrev pub is_longest_life : ℕ → Bool
is_longest_life n = nat_le 1 n && nat_le n 253402300799

-- a start or end of a validity: up to 9999-12-31 23:59:59 UTC, in seconds since 1970-01-01 00:00:00 UTC
abbrev pub is_end : ℕ → Bool
is_end n = nat_le n 253402300799

-- a known critical option with a valid value
abbrev pub is_critical_option : Pair → Bool
is_critical_option p = is_known CriticalOptions p.name && is_option_value p.name p.value

-- 0 to 3 critical options with distinct names
abbrev pub are_options : List Pair → Bool
are_options ps = nat_le (length ps) 3 && (list_all is_critical_option ps && are_distinct (map (λ p. p.name) ps))

-- its place among the critical options, in the order of their names
abbrev pub option_place : List ℕ → ℕ
option_place name =
    if bytes_eq name (codes "force-command") then 0 else (if bytes_eq name (codes "source-address") then 1 else 2)

-- a critical option that each certificate of a department must have: with this value, or with any if it is empty; only
-- users' certificates have options
abbrev pub is_demand : Kind → Pair → Bool
is_demand User p = is_known CriticalOptions p.name && (length p.value == 0 || is_option_value p.name p.value)
is_demand Host p = false

-- whether the name of an option comes before another's
abbrev pub comes_before : Pair → Pair → Bool
comes_before p q = nat_lt (option_place p.name) (option_place q.name)

-- whether the name of each option comes before those of all that follow it
abbrev pub is_ascending : List Pair → Bool
is_ascending [] = true
is_ascending (p ∷ ps) = list_all (comes_before p) ps && is_ascending ps

-- 0 to 3 critical options, in the order of their names
abbrev pub are_demands : Kind → List Pair → Bool
are_demands kind ps = nat_le (length ps) 3 && (list_all (is_demand kind) ps && is_ascending ps)

-- the name of a key type
abbrev pub is_key_type : List ℕ → Bool
is_key_type t = is_some (type_named t)

-- 1 to 7 distinct names of key types
abbrev pub are_key_types : List (List ℕ) → Bool
are_key_types ts = (nat_le 1 (length ts) && nat_le (length ts) 7) && are_distinct_and is_key_type ts

-- key types, or none where only ssh-ed25519 is permitted
abbrev pub are_key_types_or_none : List (List ℕ) → Bool
are_key_types_or_none [] = true
are_key_types_or_none (t ∷ ts) = are_key_types (t ∷ ts)

-- a department with a valid name and a valid profile
abbrev pub is_department : Department → Bool
is_department d =
    is_name d.name && (are_administrators d.administrators && (are_rules d.rules
    && ((are_option_names d.options && fits_kind d.kind d.options)
    && (are_demands d.kind d.demands
    && ((are_extension_names d.extensions && fits_kind d.kind d.extensions)
    && (are_key_types_or_none d.key_types
    && (is_longest_life d.longest_life
    && (are_namespaces d.namespaces
    && (fits_kind d.kind d.namespaces && fits_bare_name (has_bare_name d.rules) d.namespaces)))))))))

-- a certificate that may be requested
abbrev pub is_issue : Issue → Bool
is_issue i =
    is_name i.department && (is_key_id i.key_id && (is_subject_line i.key && (are_principals i.principals
    && (is_end i.after && (is_end i.before && (are_options i.options && are_extension_names i.extensions))))))

-- a renewal that may be requested
abbrev pub is_renewal : Renewal → Bool
is_renewal r = is_serial r.serial && (is_end r.after && is_end r.before)

-- a digit, or a letter from a to f
abbrev pub is_lower_hex : ℕ → Bool
is_lower_hex b = (nat_le 48 b && nat_le b 57) || (nat_le 97 b && nat_le b 102)

-- 64 hexadecimal digits in lower case
abbrev pub is_digest : List ℕ → Bool
is_digest digest = length digest == 64 && list_all is_lower_hex digest

-- 64 bytes
abbrev pub is_signature : Signature → Bool
is_signature s = length s.bytes == 64 && list_all (λ b. nat_lt b 256) s.bytes

-- a signature that may be delivered
abbrev pub is_delivery : Delivery → Bool
is_delivery d = is_serial d.serial && (is_digest d.digest && is_signature d.signature)

-- a first and a last serial, in order
abbrev pub is_range : SerialRange → Bool
is_range r = is_serial r.lo && (is_serial r.hi && nat_le r.lo r.hi)

-- a message that may be sent
abbrev pub is_message : Message → Bool
is_message (message.Department d) = is_department d
is_message (message.Issue i) = is_issue i
is_message (message.Renew r) = is_renewal r
is_message (message.Deliver d) = is_delivery d
is_message (message.RevokeSerial serial) = is_serial serial
is_message (message.RevokeRange r) = is_range r
is_message (message.RevokeKeyId key_id) = is_key_id key_id
is_message (message.Rollover key) = is_key_line key
