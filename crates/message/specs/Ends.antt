-- What stands in a department's text after its options.
use Rattle.std.specs.Prelude.{ℕ, List}
use Rattle.text.specs.declared.pair.Pair.{Pair}
use Rattle.message.specs.declared.department.Department.{Department}

-- the options that certificates must have, the extensions, the key types, the longest lifetime and the namespaces
abbrev pub Ends : Type 0
Ends = (List Pair × List (List ℕ)) × (List (List ℕ) × (ℕ × List (List ℕ)))

abbrev pub ends_of : Department → Ends
ends_of d = ((d.demands, d.extensions), (d.key_types, (d.longest_life, d.namespaces)))
