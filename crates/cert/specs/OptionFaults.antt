-- Why pairs aren't options.
use Rattle.std.specs.Prelude.{List, [], ◌∷◌, ◌++◌, not, if◌then◌else◌, Option, Some, None, Result, Ok, Err}
use Rattle.std.specs.List.{list_any}
use Rattle.std.specs.Option.{option_or}
use Rattle.std.specs.Str.{bytes_eq}
use Rattle.text.specs.declared.pair.Pair.{Pair}
use Rattle.values.specs.Options.{is_known, is_option_value}
use Rattle.values.specs.declared.kind.Kind.{Kind}
use Rattle.values.specs.declared.option_field.OptionField.{OptionField}
use Rattle.cert.specs.Options.{are_for_kind}
use Rattle.cert.specs.declared.option_fault.OptionFault.{OptionFault}
use Rattle.cert.specs.declared.option_fault.OptionFault.TheVariants.{NotForHosts, Unknown, Twice, BadValue, NoMemory}

-- the fault of a pair that comes after these
abbrev pub pair_fault : OptionField → List Pair → Pair → Option OptionFault
pair_fault field earlier p =
    if not (is_known field p.name) then Some Unknown
    else (if list_any (λ q. bytes_eq q.name p.name) earlier then Some Twice
    else (if not (is_option_value p.name p.value) then Some BadValue else None))

-- the fault of the first faulty pair, after these earlier ones
abbrev pub first_fault : OptionField → List Pair → List Pair → Option OptionFault
first_fault field earlier [] = None
first_fault field earlier (p ∷ ps) = option_or (pair_fault field earlier p) (first_fault field (earlier ++ p ∷ []) ps)

-- the fault of the pairs, if they have one
abbrev pub options_fault : OptionField → Kind → List Pair → Option OptionFault
options_fault field kind ps = if are_for_kind kind ps then first_fault field [] ps else Some NotForHosts

-- the fault that was returned; a refused allocation isn't a fault of the pairs
abbrev pub fault_answered : {X : Type 0} → Result X OptionFault → Option OptionFault
fault_answered (Ok x) = None
fault_answered (Err NoMemory) = None
fault_answered (Err e) = Some e
