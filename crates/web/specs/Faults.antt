-- The faults of serving.
use Rattle.std.specs.Prelude.{Bool, true, false, Result, Ok, Err}
use Rattle.office.specs.declared.store_fault.StoreFault.{StoreFault}
use Rattle.office.specs.declared.store_fault.StoreFault.TheVariants as store
use Rattle.web.specs.declared.serve_fault.ServeFault.{ServeFault}
use Rattle.web.specs.declared.serve_fault.ServeFault.TheVariants.{Read, Nonces, Store, NoMemory, Write}

-- the fault of serving for a fault of the register
abbrev pub serving_fault : StoreFault → ServeFault
serving_fault store.NoMemory = NoMemory
serving_fault store.AlreadyAnOffice = Store
serving_fault store.NotAnOffice = Store
serving_fault store.WrongSchema = Store
serving_fault store.Damaged = Store
serving_fault store.Device = Store

-- a reader failed
abbrev pub is_read : {A : Type 0} → Result A ServeFault → Bool
is_read (Ok a) = false
is_read (Err Read) = true
is_read (Err Nonces) = false
is_read (Err Store) = false
is_read (Err NoMemory) = false
is_read (Err Write) = false

-- a writer failed
abbrev pub is_write : {A : Type 0} → Result A ServeFault → Bool
is_write (Ok a) = false
is_write (Err Read) = false
is_write (Err Nonces) = false
is_write (Err Store) = false
is_write (Err NoMemory) = false
is_write (Err Write) = true

-- a fact about a call that wrote nothing
abbrev pub IfUnserved : {A : Type 0} → Result A ServeFault → Type 0 → Type 0
IfUnserved (Ok a) P = Unit {0}
IfUnserved (Err Read) P = P
IfUnserved (Err Nonces) P = P
IfUnserved (Err Store) P = P
IfUnserved (Err NoMemory) P = P
IfUnserved (Err Write) P = Unit {0}

-- a fact about a call that served its request, though the response may have been cut short
abbrev pub IfServed : {A : Type 0} → Result A ServeFault → Type 0 → Type 0
IfServed (Ok a) P = P
IfServed (Err Read) P = Unit {0}
IfServed (Err Nonces) P = Unit {0}
IfServed (Err Store) P = Unit {0}
IfServed (Err NoMemory) P = Unit {0}
IfServed (Err Write) P = P

-- a call that takes bytes fails only because its reader does, or for lack of memory
abbrev pub IsOfTaking : ServeFault → Type 0
IsOfTaking Read = Unit {0}
IsOfTaking NoMemory = Unit {0}
IsOfTaking Nonces = ⊥
IsOfTaking Store = ⊥
IsOfTaking Write = ⊥
