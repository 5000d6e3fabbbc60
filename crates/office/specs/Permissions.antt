-- Who may send, and what a department's profile permits.
use Rattle.std.specs.Prelude.{ℕ, List, Bool, false, ◌&&◌, ◌||◌, Option, Some, None}
use Rattle.std.specs.List.{list_all}
use Rattle.std.specs.Option.{option_map_or}
use Rattle.std.specs.Str.{bytes_eq}
use Rattle.values.specs.Names.{name_of}
use Rattle.message.specs.Permissions.{are_listed, are_options_permitted, is_key_permitted, is_life_permitted, is_listed}
use Rattle.message.specs.Permissions.{means, meet_name_rules, meet_rules}
use Rattle.message.specs.declared.department.Department.{Department}
use Rattle.message.specs.declared.issue.Issue.{Issue}
use Rattle.message.specs.declared.renewal.Renewal.{Renewal}
use Rattle.office.specs.declared.opening.Opening.{Opening}
use Rattle.office.specs.declared.certificate.Certificate.{Certificate}

-- ---- who may send

abbrev pub administers : List ℕ → Option Department → Bool
administers caller (Some d) = is_listed d.administrators caller
administers caller None = false

-- root, or an administrator of the department
abbrev pub may_administer : Opening → List ℕ → Option Department → Bool
may_administer o caller d = bytes_eq caller o.root || administers caller d

-- the caller is the one that the department means by the name in the key ID
abbrev pub is_meant_by : List ℕ → Option Department → (key_id : List ℕ) → Bool
is_meant_by caller d key_id = option_map_or (λ d. means d (name_of key_id) caller) d false

-- root, an administrator of the department, or the one that it means by the name in the key ID
abbrev pub may_ask : Opening → List ℕ → Option Department → (key_id : List ℕ) → Bool
may_ask o caller d key_id = may_administer o caller d || is_meant_by caller d key_id

-- the same, with the certificate's own key ID
abbrev pub may_ask_about : Opening → List ℕ → Option Department → Option Certificate → Bool
may_ask_about o caller d c =
    may_administer o caller d || option_map_or (λ c. is_meant_by caller d c.fields.key_id) c false

-- ---- what a profile permits

abbrev pub is_permitted : Department → Issue → Bool
is_permitted d i =
    meet_rules d (name_of i.key_id) i.principals
    && (are_options_permitted d i.options
    && (list_all (λ e. is_listed d.extensions e) i.extensions
    && (is_life_permitted d i.after i.before
    && is_key_permitted d i.key.key_type)))

abbrev pub is_permitted_by : Option Department → Issue → Bool
is_permitted_by (Some d) i = is_permitted d i
is_permitted_by None i = false

-- the department permits the certificate's principals, options, extensions and type of key, for the requested validity
abbrev pub is_renewal_permitted : Department → Certificate → Renewal → Bool
is_renewal_permitted d c r =
    meet_rules d (name_of c.fields.key_id) c.fields.principals
    && (are_options_permitted d c.fields.options
    && (are_listed d.extensions c.fields.extensions
    && (is_life_permitted d r.after r.before
    && is_key_permitted d c.fields.key_type)))

abbrev pub is_renewal_permitted_by : Option Department → Certificate → Renewal → Bool
is_renewal_permitted_by (Some d) c r = is_renewal_permitted d c r
is_renewal_permitted_by None c r = false

-- for a caller who may ask only by his name, the rules without {name} don't count
abbrev pub may_have : Opening → List ℕ → Option Department → (key_id : List ℕ) → List (List ℕ) → Bool
may_have o caller d key_id principals =
    may_administer o caller d || option_map_or (λ d. meet_name_rules d (name_of key_id) principals) d false

-- the department permits the issue, and permits it to this caller
abbrev pub is_permitted_to : Opening → List ℕ → Option Department → Issue → Bool
is_permitted_to o caller d i = is_permitted_by d i && may_have o caller d i.key_id i.principals

abbrev pub is_renewal_permitted_to : Opening → List ℕ → Option Department → Certificate → Renewal → Bool
is_renewal_permitted_to o caller d c r =
    is_renewal_permitted_by d c r && may_have o caller d c.fields.key_id c.fields.principals
