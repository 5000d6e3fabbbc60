-- When a fault of the register is reported as `Store`.
use Rattle.web.proofs.Words.{AlreadyAnOffice, Damaged, Device, Err, HasRegisterCause, IsOfARegister, NoMemory}
use Rattle.web.proofs.Words.{NotAnOffice, Ok, Result, StoreFault, WrongSchema, sym, ◌∙◌, ◌≡◌}
use Rattle.std.specs.Prelude.{IsErrAnd}
use Rattle.web.specs.declared.serve_fault.ServeFault.{ServeFault}
use Rattle.web.specs.declared.serve_fault.ServeFault.TheVariants.{Store}
use Rattle.web.specs.declared.serve_fault.ServeFault.TheVariants as serving
use Rattle.web.specs.Faults.{IfUnserved, serving_fault}

-- for a register that means a history, only a fault with a cause is reported as `Store`
cause_of : (e : StoreFault) (stopped : Type 0) → serving_fault e ≡ Store → IsOfARegister e → HasRegisterCause e stopped → stopped
cause_of Device stopped same only cause = cause
cause_of NoMemory stopped same only cause = absurd (cc)
cause_of AlreadyAnOffice stopped same only cause = absurd only
cause_of NotAnOffice stopped same only cause = absurd only
cause_of WrongSchema stopped same only cause = absurd only
cause_of Damaged stopped same only cause = absurd only

-- a result that reports `Store` has that cause
pub cause_of_store : {T : Type 0} (told : Result T ServeFault) (e : StoreFault) (stopped : Type 0) → IsErrAnd told (λ f. f ≡ serving_fault e)
    → told ≡ Err Store → IsOfARegister e → HasRegisterCause e stopped → stopped
cause_of_store (Ok x) e stopped gives same only cause = absurd (cc)
cause_of_store (Err f) e stopped gives same only cause =
    let of_store : f ≡ Store = cc in cause_of e stopped (sym gives ∙ of_store) only cause

-- a fact holds of a call that wrote nothing
pub if_unserved : {A : Type 0} (r : Result A ServeFault) (P : Type 0) → P → IfUnserved r P
if_unserved (Ok a) P is = tt
if_unserved (Err serving.Read) P is = is
if_unserved (Err serving.Nonces) P is = is
if_unserved (Err serving.Store) P is = is
if_unserved (Err serving.NoMemory) P is = is
if_unserved (Err serving.Write) P is = tt
