-- Faults of the tables as faults of the register.
use Rattle.std.specs.Prelude.{Result, Ok, Err}
use Rattle.store_sql.specs.declared.table_fault.Fault.{Fault}
use Rattle.store_sql.specs.declared.table_fault.Fault.TheVariants as table
use Rattle.office.specs.declared.store_fault.StoreFault.{StoreFault}
use Rattle.office.specs.declared.store_fault.StoreFault.TheVariants.{Damaged, Device, NoMemory}

-- the register's fault for a fault of the tables
abbrev pub store_fault_of : Fault → StoreFault
store_fault_of table.Device = Device
store_fault_of table.Damaged = Damaged
store_fault_of table.NoMemory = NoMemory

-- the register's answer for an answer of the tables
abbrev pub told : {X : Type 0} → Result X Fault → Result X StoreFault
told (Ok x) = Ok x
told (Err f) = Err (store_fault_of f)
