-- Why a batch of exchanges was not run, or not printed without a fault.
use Rattle.std.specs.Prelude.{Bool, Err, Ok, Result, false, true}
use Rattle.exchanges.specs.declared.running.RunFault.{RunFault}
use Rattle.exchanges.specs.declared.running.RunFault.TheVariants.{Fault, NoMemory, Write}

-- The faults that can occur when the responses to exchanges are printed.
abbrev pub IsOfPrinting : RunFault → Type 0
IsOfPrinting NoMemory = ⊥
IsOfPrinting other = Unit {0}

-- the output failed
abbrev pub is_unprinted : Result (Unit {0}) RunFault → Bool
is_unprinted (Ok done) = false
is_unprinted (Err NoMemory) = false
is_unprinted (Err Write) = true
is_unprinted (Err Fault) = false
