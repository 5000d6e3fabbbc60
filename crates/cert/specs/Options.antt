-- Options of a certificate (PROTOCOL.certkeys, "Critical options" and "Extensions"): a finite map from names to values,
-- written in the one strictly ascending order of its names.
use Rattle.std.specs.Prelude.{ℕ, List, [], ◌∷◌, ◌++◌, Bool, true, false, ◌&&◌, fold, if◌then◌else◌}
use Rattle.std.specs.List.{list_all, flat_map}
use Rattle.std.specs.Ordering.{match_ordering, is_lt, nat_cmp}
use Rattle.std.specs.Cmp.Lexicographic.{slice_cmp}
use Rattle.text.specs.declared.pair.Pair.{Pair}
use Rattle.wire.specs.Texts.{string_text}
use Rattle.values.specs.Options.{is_known, is_flag, is_option_value}
use Rattle.values.specs.declared.kind.Kind.{Kind}
use Rattle.values.specs.declared.kind.Kind.TheVariants.{User, Host}
use Rattle.values.specs.declared.option_field.OptionField.{OptionField}

-- whether a name comes before another in byte order
abbrev pub comes_before : List ℕ → List ℕ → Bool
comes_before name other = is_lt (slice_cmp nat_cmp name other)

-- whether each name comes before all that follow it
abbrev pub is_ascending : List Pair → Bool
is_ascending [] = true
is_ascending (p ∷ ps) = list_all (λ q. comes_before p.name q.name) ps && is_ascending ps

-- the pairs with one more in its place; of two values for one name, the new one stays
abbrev pub with_pair : List Pair → Pair → List Pair
with_pair [] p = p ∷ []
with_pair (q ∷ qs) p = match_ordering (slice_cmp nat_cmp p.name q.name) (p ∷ q ∷ qs) (p ∷ qs) (q ∷ with_pair qs p)

-- the strictly ascending list of the map that the pairs form
abbrev pub listing : List Pair → List Pair
listing ps = fold with_pair [] ps

-- a name that the field may have, with a value that is valid for it
abbrev pub is_option : OptionField → Pair → Bool
is_option field p = is_known field p.name && is_option_value p.name p.value

-- only users have options
abbrev pub are_for_kind : Kind → List Pair → Bool
are_for_kind User ps = true
are_for_kind Host [] = true
are_for_kind Host (p ∷ ps) = false

-- a certificate of the kind may have these options in the field, and their names ascend
abbrev pub is_options : OptionField → Kind → List Pair → Bool
is_options field kind ps = are_for_kind kind ps && (is_ascending ps && list_all (is_option field) ps)

-- no bytes for a flag, otherwise the value as a string
abbrev pub option_data : Pair → List ℕ
option_data p = if is_flag p.name then [] else string_text p.value

-- the name and the data, each as a string
abbrev pub option_text : Pair → List ℕ
option_text p = string_text p.name ++ string_text (option_data p)

-- an options field, without its own length
abbrev pub options_text : List Pair → List ℕ
options_text ps = flat_map option_text ps
