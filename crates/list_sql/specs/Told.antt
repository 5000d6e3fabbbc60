-- Faults and results as they are reported above the tables.
use Rattle.std.specs.Prelude.{Result, Ok, Err}
use Rattle.store_sql.specs.declared.table_fault.Fault.{Fault}
use Rattle.store_sql.specs.declared.table_fault.Fault.TheVariants as table
use Rattle.list_guard.specs.declared.register.RegisterFault.{RegisterFault}
use Rattle.list_guard.specs.declared.register.RegisterFault.TheVariants as register
use Rattle.list_sql.specs.declared.opening_fault.OpeningFault.{OpeningFault}
use Rattle.list_sql.specs.declared.opening_fault.OpeningFault.TheVariants as opening

-- the register's fault for a fault of the table
abbrev pub register_fault : Fault → RegisterFault
register_fault table.Device = register.Device
register_fault table.Damaged = register.Damaged
register_fault table.NoMemory = register.NoMemory

-- the fault of an opening for a fault of the table
abbrev pub opening_fault : Fault → OpeningFault
opening_fault table.Device = opening.Device
opening_fault table.Damaged = opening.Damaged
opening_fault table.NoMemory = opening.NoMemory

-- the register's result for a result of the table
abbrev pub told : {X Y : Type 0} → (X → Y) → Result X Fault → Result Y RegisterFault
told of (Ok x) = Ok (of x)
told of (Err f) = Err (register_fault f)
