-- The conditions under which a register may return a fault.
use Rattle.office.specs.declared.store_fault.StoreFault.{StoreFault}
use Rattle.office.specs.declared.store_fault.StoreFault.TheVariants.{AlreadyAnOffice, NotAnOffice, WrongSchema, Damaged}
use Rattle.office.specs.declared.store_fault.StoreFault.TheVariants.{Device, NoMemory}

-- a failure of the database is reported only if there was one
abbrev pub HasRegisterCause : StoreFault → Type 0 → Type 0
HasRegisterCause Device failed = failed
HasRegisterCause AlreadyAnOffice failed = Unit {0}
HasRegisterCause NotAnOffice failed = Unit {0}
HasRegisterCause WrongSchema failed = Unit {0}
HasRegisterCause Damaged failed = Unit {0}
HasRegisterCause NoMemory failed = Unit {0}

-- a register that means a history fails only for lack of memory or because the database failed
abbrev pub IsOfARegister : StoreFault → Type 0
IsOfARegister Device = Unit {0}
IsOfARegister NoMemory = Unit {0}
IsOfARegister AlreadyAnOffice = ⊥
IsOfARegister NotAnOffice = ⊥
IsOfARegister WrongSchema = ⊥
IsOfARegister Damaged = ⊥
