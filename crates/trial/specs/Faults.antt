-- The program's fault for each fault of one of its parts.
use Rattle.std.specs.Prelude.{Result, Ok, Err}
use Rattle.std.specs.declared.io.ErrorKind.{ErrorKind}
use Rattle.std.specs.declared.io.ErrorKind.TheVariants.{OutOfMemory}
use Rattle.office.specs.declared.store_fault.StoreFault.{StoreFault}
use Rattle.office.specs.declared.store_fault.StoreFault.TheVariants as store
use Rattle.exchanges.specs.declared.exchange_reader.ExchangesFault.{ExchangesFault}
use Rattle.exchanges.specs.declared.exchange_reader.ExchangesFault.TheVariants as exchanges
use Rattle.exchanges.specs.declared.running.RunFault.{RunFault}
use Rattle.exchanges.specs.declared.running.RunFault.TheVariants as run
use Rattle.trial.specs.declared.trial_fault.TrialFault.{TrialFault}
use Rattle.trial.specs.declared.trial_fault.TrialFault.TheVariants.{File, Write, NoMemory, BadExchange, Store, Fault}

-- for a file that can't be read as exchanges
abbrev pub of_exchanges : ExchangesFault → TrialFault
of_exchanges (exchanges.BadExchange k) = BadExchange k
of_exchanges exchanges.NoMemory = NoMemory

-- for exchanges that were not run, or not printed without a fault
abbrev pub of_run : RunFault → TrialFault
of_run run.NoMemory = NoMemory
of_run run.Write = Write
of_run run.Fault = Fault

-- the result of a batch, as that of the program
abbrev pub run_result : Result (Unit {0}) RunFault → Result (Unit {0}) TrialFault
run_result (Ok done) = Ok done
run_result (Err fault) = Err (of_run fault)

-- for an office that wasn't made
abbrev pub of_store : StoreFault → TrialFault
of_store store.NoMemory = NoMemory
of_store other = Store other

-- for a file that can't be opened or read, from the kind of the error
abbrev pub of_file : ErrorKind → TrialFault
of_file OutOfMemory = NoMemory
of_file _ = File

-- The faults of reading a file.
abbrev pub IsOfAFile : TrialFault → Type 0
IsOfAFile File = Unit {0}
IsOfAFile NoMemory = Unit {0}
IsOfAFile other = ⊥

-- The faults of reading a file of exchanges.
abbrev pub IsOfExchanges : TrialFault → Type 0
IsOfExchanges File = Unit {0}
IsOfExchanges NoMemory = Unit {0}
IsOfExchanges (BadExchange k) = Unit {0}
IsOfExchanges other = ⊥
