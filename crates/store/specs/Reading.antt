-- The values of rows.
use Rattle.std.specs.Prelude.{◌≡◌, List, [], ◌∷◌, Option, Some, None, Result, Ok, Err, Vec}
use Rattle.std.specs.Option.{option_and_then, option_map}
use Rattle.std.specs.declared.alloc.Global.{Global}
use Rattle.lines.specs.Keys.{key_of}
use Rattle.office.specs.declared.ca.Ca.{Ca}
use Rattle.store_sql.specs.declared.cas.CaRow.{CaRow}
use Rattle.store_sql.specs.declared.table_fault.Fault.{Fault}
use Rattle.store_sql.specs.declared.table_fault.Fault.TheVariants.{Damaged, Device, NoMemory}

-- the value is read, or memory is refused; a row without a value is reported as damaged
abbrev pub IsRead : {X : Type 0} → Option X → Result X Fault → Type 0
IsRead value (Ok x) = value ≡ Some x
IsRead value (Err NoMemory) = Unit {0}
IsRead value (Err Damaged) = value ≡ None
IsRead value (Err Device) = ⊥

-- the values of all rows, if each row has one
abbrev pub each : {R X : Type 0} → (R → Option X) → List R → Option (List X)
each value [] = Some []
each value (r ∷ rows) = option_and_then (λ x. option_map (λ xs. x ∷ xs) (each value rows)) (value r)

-- the items of a vector that was read
abbrev pub vec_of : {X : Type 0} → Result (Vec X Global) Fault → Result (List X) Fault
vec_of (Ok xs) = Ok xs.items
vec_of (Err f) = Err f

-- ---- CAs

-- the CA of a row
abbrev pub ca_in : CaRow → Option Ca
ca_in row = option_map (λ key. record { key = key; since = row.since }) (key_of row.ca)
