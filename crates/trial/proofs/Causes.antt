-- Which faults can occur.
use Rattle.std.proofs.Common.{◌≡◌, ℕ, ◌+◌, List, take, Option, Some, None, Result, Ok, Err, sym, subst}
use Rattle.std.specs.Prelude.{IfOk, IfSome}
use Rattle.office.specs.declared.store_fault.StoreFault.{StoreFault}
use Rattle.office.specs.declared.store_fault.StoreFault.TheVariants as store
use Rattle.exchanges.specs.declared.exchange_reader.TheConstants.{MAX_FILE}
use Rattle.exchanges.specs.declared.exchange_reader.ExchangesFault.{ExchangesFault}
use Rattle.exchanges.specs.declared.exchange_reader.ExchangesFault.TheVariants as exchanges
use Rattle.exchanges.specs.Exchanges.{TellsOf}
use Rattle.exchanges.proofs.LongFiles.{first_tells}
use Rattle.trial.specs.declared.trial_fault.TrialFault.{TrialFault}
use Rattle.trial.specs.declared.trial_fault.TrialFault.TheVariants.{File, NoMemory, BadExchange, Fault}
use Rattle.trial.specs.Faults.{IsOfAFile, IsOfExchanges, of_exchanges, of_store}

-- the first `MAX_FILE + 1` bytes were read
pub tells : {T E : Type 0} (items : T → List ℕ) (r : Result T E) (left : Option (List ℕ))
    → IfOk r (λ v. IfSome left (λ bytes. items v ≡ take (MAX_FILE + 1) bytes))
    → IfOk r (λ v. IfSome left (λ file. TellsOf file (items v)))
tells items (Ok v) (Some file) first = subst (TellsOf file) (sym first) (first_tells file)
tells items (Ok v) None first = tt
tells items (Err e) left first = tt

pub of_a_file : (e : TrialFault) → IsOfAFile e → IsOfExchanges e
of_a_file File h = tt
of_a_file NoMemory h = tt
of_a_file other h = absurd h

pub of_a_record : (e : ExchangesFault) → IsOfExchanges (of_exchanges e)
of_a_record (exchanges.BadExchange k) = tt
of_a_record exchanges.NoMemory = tt

-- these faults occur before any exchange is run
pub not_run : (e : TrialFault) → IsOfExchanges e → ¬ (e ≡ Fault)
not_run e h same = subst IsOfExchanges same h

-- the fault of an office that couldn't be made isn't `Fault`
pub no_fault : (e : StoreFault) → ¬ (of_store e ≡ Fault)
no_fault store.NoMemory same = cc
no_fault other same = cc

-- nor a bad record
pub no_record : (e : StoreFault) (k : ℕ) → ¬ (of_store e ≡ BadExchange k)
no_record store.NoMemory k same = cc
no_record other k same = cc
