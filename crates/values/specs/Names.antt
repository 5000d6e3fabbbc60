-- Names, principals, rules, key IDs and namespaces.
use Rattle.std.specs.Prelude.{ℕ, ◌+◌, ◌-◌, List, [], ◌∷◌, ◌++◌, length, take, drop, codes, Bool, true, false, ◌&&◌}
use Rattle.std.specs.Prelude.{◌||◌, not, ◌==◌, nat_le, nat_lt, if◌then◌else◌, Option, Some, None, is_some}
use Rattle.std.specs.List.{list_all, take_while}
use Rattle.std.specs.Option.{option_map_or}
use Rattle.std.specs.Str.{bytes_eq}

-- `low` to `high` bytes
abbrev pub has_size : ℕ → ℕ → List ℕ → Bool
has_size low high t = nat_le low (length t) && nat_le (length t) high

-- a to z, 0 to 9
abbrev pub is_lower_or_digit : ℕ → Bool
is_lower_or_digit b = (nat_le 97 b && nat_le b 122) || (nat_le 48 b && nat_le b 57)

-- a to z, 0 to 9 and -
abbrev pub is_name_byte : ℕ → Bool
is_name_byte b = is_lower_or_digit b || b == 45

-- the name of a caller, of a request key or of a department: 1 to 32 bytes
abbrev pub is_name : List ℕ → Bool
is_name t = has_size 1 32 t && list_all is_name_byte t

-- a to z, 0 to 9 and . _ @ -
abbrev pub is_principal_byte : ℕ → Bool
is_principal_byte b = is_lower_or_digit b || b == 46 || b == 95 || b == 64 || b == 45

-- a principal: 1 to 64 bytes
abbrev pub is_principal : List ℕ → Bool
is_principal t = has_size 1 64 t && list_all is_principal_byte t

-- * and a suffix of 1 to 63 bytes
abbrev pub is_suffix_rule : List ℕ → Bool
is_suffix_rule [] = false
is_suffix_rule (b ∷ suffix) = b == 42 && (has_size 1 63 suffix && list_all is_principal_byte suffix)

-- nothing, or . or @ and 1 to 62 more bytes
abbrev pub is_name_end : List ℕ → Bool
is_name_end [] = true
is_name_end (b ∷ rest) = (b == 46 || b == 64) && (has_size 1 62 rest && list_all is_principal_byte rest)

-- what follows the front, if the text begins with it
abbrev pub after_front : (front t : List ℕ) → Option (List ℕ)
after_front front t = if bytes_eq (take (length front) t) front then Some (drop (length front) t) else None

-- what follows {name}, if the text begins with it
abbrev pub after_name : List ℕ → Option (List ℕ)
after_name t = after_front (codes "{name}") t

-- {name}, alone or with a suffix
abbrev pub is_name_rule : List ℕ → Bool
is_name_rule t = option_map_or is_name_end (after_name t) false

-- a principal, * and a suffix, or {name}, alone or with a suffix
abbrev pub is_rule : List ℕ → Bool
is_rule t = is_principal t || (is_suffix_rule t || is_name_rule t)

-- the text ends with the suffix and is longer than it
abbrev pub ends_longer : List ℕ → List ℕ → Bool
ends_longer t suffix = nat_lt (length suffix) (length t) && bytes_eq (drop (length t - length suffix) t) suffix

-- the rule is * and a suffix, and the principal ends with the suffix and is longer than it
abbrev pub meets_suffix : List ℕ → List ℕ → Bool
meets_suffix principal [] = false
meets_suffix principal (b ∷ suffix) = b == 42 && ends_longer principal suffix

-- the principal is the name and what follows {name} in the rule. If nothing follows, it isn't root
abbrev pub meets_name : (name principal end : List ℕ) → Bool
meets_name name principal end =
    bytes_eq principal (name ++ end) && not (length end == 0 && bytes_eq principal (codes "root"))

-- the principal, of a certificate whose key ID has this name, meets the rule
abbrev pub meets : (name principal rule : List ℕ) → Bool
meets name principal rule =
    option_map_or (meets_name name principal) (after_name rule) (bytes_eq principal rule || meets_suffix principal rule)

-- the rule begins with {name}
abbrev pub is_for_names : List ℕ → Bool
is_for_names rule = is_some (after_name rule)

-- a printable byte other than a space
abbrev pub is_key_id_byte : ℕ → Bool
is_key_id_byte b = nat_le 33 b && nat_le b 126

-- the part before the first /, or the whole text if there is none
abbrev pub department_of : List ℕ → List ℕ
department_of key_id = take_while (λ b. not (b == 47)) key_id

-- the name in a key ID: what follows its first /, up to the next / or the end
abbrev pub name_of : List ℕ → List ℕ
name_of key_id = take_while (λ b. not (b == 47)) (drop (length (department_of key_id) + 1) key_id)

-- / and 1 to 64 printable bytes
abbrev pub is_key_id_end : List ℕ → Bool
is_key_id_end [] = false
is_key_id_end (b ∷ rest) = b == 47 && (has_size 1 64 rest && list_all is_key_id_byte rest)

-- a key ID: the name of a department, / and 1 to 64 printable bytes
abbrev pub is_key_id : List ℕ → Bool
is_key_id t = is_name (department_of t) && is_key_id_end (drop (length (department_of t)) t)

-- a namespace of signatures: 1 to 32 bytes of a principal's alphabet
abbrev pub is_namespace : List ℕ → Bool
is_namespace t = has_size 1 32 t && list_all is_principal_byte t

-- what {name} follows, if the text ends with it
abbrev pub before_name : List ℕ → Option (List ℕ)
before_name t =
    if bytes_eq (drop (length t - 6) t) (codes "{name}") then Some (take (length t - 6) t) else None

-- 0 to 31 bytes of a name's alphabet
abbrev pub is_prefix : List ℕ → Bool
is_prefix t = has_size 0 31 t && list_all is_name_byte t

-- an administrator: the name of a caller, or {name}, alone or after a prefix
abbrev pub is_administrator : List ℕ → Bool
is_administrator t = is_name t || option_map_or is_prefix (before_name t) false

-- the administrator is {name} after a prefix, and the caller is that prefix and the name
abbrev pub is_meant : (name caller administrator : List ℕ) → Bool
is_meant name caller administrator =
    option_map_or (λ prefix. bytes_eq caller (prefix ++ name)) (before_name administrator) false
