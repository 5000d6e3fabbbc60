-- Critical options and extensions of user certificates (PROTOCOL.certkeys, "Critical options" and "Extensions").
use Rattle.std.specs.Prelude.{ℕ, List, [], ◌∷◌, length, codes, Bool, ◌&&◌, ◌||◌, ◌==◌, nat_le, if◌then◌else◌}
use Rattle.std.specs.List.{list_all, list_any}
use Rattle.std.specs.Str.{bytes_eq}
use Rattle.values.specs.declared.option_field.OptionField.{OptionField}
use Rattle.values.specs.declared.option_field.OptionField.TheVariants.{CriticalOptions, Extensions}
use Rattle.values.specs.Names.{has_size}
use Rattle.values.specs.Networks.{are_networks}

-- the options that a certificate may have in this field
abbrev pub known_names : OptionField → List (List ℕ)
known_names CriticalOptions = codes "force-command" ∷ codes "source-address" ∷ codes "verify-required" ∷ []
known_names Extensions =
    codes "no-touch-required" ∷ codes "permit-X11-forwarding" ∷ codes "permit-agent-forwarding"
    ∷ codes "permit-port-forwarding" ∷ codes "permit-pty" ∷ codes "permit-user-rc" ∷ []

-- the name of an option that a certificate may have in this field
abbrev pub is_known : OptionField → List ℕ → Bool
is_known field name = list_any (λ known. bytes_eq known name) (known_names field)

-- the name of an option without a value
abbrev pub is_flag : List ℕ → Bool
is_flag name = bytes_eq name (codes "verify-required") || is_known Extensions name

-- a command: 1 to 200 printable bytes, including spaces
abbrev pub is_command : List ℕ → Bool
is_command t = has_size 1 200 t && list_all (λ b. nat_le 32 b && nat_le b 126) t

-- a valid value for an option with this name: a command, networks, or nothing for a flag
abbrev pub is_option_value : List ℕ → List ℕ → Bool
is_option_value name value =
    if bytes_eq name (codes "force-command") then is_command value
    else (if bytes_eq name (codes "source-address") then are_networks value
    else is_flag name && length value == 0)
