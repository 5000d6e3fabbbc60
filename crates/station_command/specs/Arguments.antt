-- Kinds of options that only `lists` and `list` have, as clap reads them.
use Rattle.std.specs.Prelude.{◌++◌, ◌∷◌, [], List, Bool, false, true, Some, codes, bytes_eq}
use Rattle.std.specs.Option.{option_map_or}
use Rattle.clap.specs.Words.{Row, Rule, Shape, Text, first_of, new_rule}
use Rattle.clap.specs.declared.builder.action.ArgAction.TheVariants.{Append, SetTrue}

-- `--name`, an optional flag
abbrev pub flag : Text → Rule
flag name = record (new_rule name) { long = Some name; action = Some SetTrue }

-- `--name VALUE`, given once or more
abbrev pub several : Text → Rule
several name = record (new_rule name) { long = Some name; value_names = 1; required = true; action = Some Append }

-- a subcommand with one more option
abbrev pub with_more : Shape → Rule → Shape
with_more shape rule = record shape { rules = shape.rules ++ rule ∷ [] }

-- whether a flag was given: then clap's value for it is this text
abbrev pub is_set : List Row → Text → Bool
is_set rows name = option_map_or (λ text. bytes_eq text (codes "true")) (first_of name rows) false
