-- What a department's profile permits.
use Rattle.std.specs.Prelude.{ℕ, ◌-◌, List, [], ◌∷◌, length, codes, Bool, true, false, not, ◌&&◌, ◌||◌, ◌==◌, nat_lt, nat_le}
use Rattle.std.specs.Prelude.{Option, Some, None, if◌then◌else◌}
use Rattle.std.specs.List.{list_any, list_all}
use Rattle.std.specs.Str.{bytes_eq}
use Rattle.text.specs.declared.pair.Pair.{Pair}
use Rattle.values.specs.Kinds.{same_kind}
use Rattle.values.specs.Names.{is_for_names, is_meant, meets}
use Rattle.values.specs.Networks.{lie_in}
use Rattle.values.specs.declared.kind.Kind.{Kind}
use Rattle.lines.specs.Subjects.{key_name}
use Rattle.lines.specs.declared.subject.KeyType.{KeyType}
use Rattle.lines.specs.declared.subject.KeyType.TheVariants.{Ed25519}
use Rattle.message.specs.declared.department.Department.{Department}

abbrev pub is_missing : Option Department → Bool
is_missing (Some d) = false
is_missing None = true

-- the department exists, and has the other kind
abbrev pub has_other_kind : Option Department → Kind → Bool
has_other_kind (Some d) kind = not (same_kind d.kind kind)
has_other_kind None kind = false

-- every principal, of a certificate whose key ID has this name, meets a rule of the department
abbrev pub meet_rules : Department → (name : List ℕ) → List (List ℕ) → Bool
meet_rules d name principals = list_all (λ p. list_any (meets name p) d.rules) principals

-- every principal meets a rule of the department that begins with {name}
abbrev pub meet_name_rules : Department → (name : List ℕ) → List (List ℕ) → Bool
meet_name_rules d name principals =
    list_all (λ p. list_any (λ rule. is_for_names rule && meets name p rule) d.rules) principals

-- one of the department's administrators is a word with {name} that means the caller
abbrev pub means : Department → (name caller : List ℕ) → Bool
means d name caller = list_any (is_meant name caller) d.administrators

abbrev pub is_listed : List (List ℕ) → List ℕ → Bool
is_listed ts t = list_any (λ u. bytes_eq u t) ts

-- every name is listed
abbrev pub are_listed : List (List ℕ) → List Pair → Bool
are_listed names ps = list_all (λ p. is_listed names p.name) ps

-- the certificate's value is the one that it must have, or it may have any; its networks lie in those that it must have
abbrev pub has_value : (demand option : Pair) → Bool
has_value demand option =
    length demand.value == 0
    || (if bytes_eq demand.name (codes "source-address") then lie_in option.value demand.value
    else bytes_eq option.value demand.value)

-- the option is the one that certificates must have
abbrev pub meets_demand : (demand option : Pair) → Bool
meets_demand demand option = bytes_eq option.name demand.name && has_value demand option

-- each option that certificates must have is there
abbrev pub meet_demands : List Pair → List Pair → Bool
meet_demands demands options = list_all (λ demand. list_any (meets_demand demand) options) demands

-- the option is listed, or is one that certificates must have
abbrev pub is_option_permitted : Department → Pair → Bool
is_option_permitted d o = is_listed d.options o.name || list_any (λ demand. bytes_eq demand.name o.name) d.demands

-- each option is permitted, and those that must be are there
abbrev pub are_options_permitted : Department → List Pair → Bool
are_options_permitted d options = list_all (is_option_permitted d) options && meet_demands d.demands options

-- 0 < before - after <= the longest lifetime
abbrev pub is_life_permitted : Department → ℕ → ℕ → Bool
is_life_permitted d after before = nat_lt after before && nat_le (before - after) d.longest_life

-- ssh-ed25519, and not in a security key
abbrev pub is_plain : KeyType → Bool
is_plain Ed25519 = true
is_plain t = false

-- the name of the type is listed; ssh-ed25519 alone, if none is
abbrev pub is_type_listed : List (List ℕ) → KeyType → Bool
is_type_listed [] t = is_plain t
is_type_listed (n ∷ ns) t = is_listed (n ∷ ns) (key_name t)

-- the type of key that a department's certificates may be for
abbrev pub is_key_permitted : Department → KeyType → Bool
is_key_permitted d t = is_type_listed d.key_types t
