-- A job's fault for each fault of one of its parts.
use Rattle.std.specs.Prelude.{◌≡◌, Result, Ok, Err}
use Rattle.std.specs.declared.io.ErrorKind.{ErrorKind}
use Rattle.std.specs.declared.io.ErrorKind.TheVariants.{OutOfMemory}
use Rattle.lines.specs.declared.key_line.LineFault.{LineFault}
use Rattle.lines.specs.declared.key_line.LineFault.TheVariants as line
use Rattle.office.specs.declared.opening.Opening.{Opening as Begun}
use Rattle.office.specs.declared.opening.OpeningFault.{OpeningFault}
use Rattle.office.specs.declared.store_fault.StoreFault.{StoreFault}
use Rattle.office.specs.declared.store_fault.StoreFault.TheVariants as store
use Rattle.server.specs.declared.connection_fault.SelftestFault.{SelftestFault}
use Rattle.server.specs.declared.connection_fault.SelftestFault.TheVariants as selftest
use Rattle.exchanges.specs.declared.exchange_reader.ExchangesFault.{ExchangesFault}
use Rattle.exchanges.specs.declared.exchange_reader.ExchangesFault.TheVariants as exchanges
use Rattle.exchanges.specs.declared.running.RunFault.{RunFault}
use Rattle.exchanges.specs.declared.running.RunFault.TheVariants as run
use Rattle.headline.specs.declared.publish_fault.PublishFault.{PublishFault}
use Rattle.headline.specs.declared.publish_fault.PublishFault.TheVariants as publish
use Rattle.office_jobs.specs.declared.file_reader.ReadFault.{ReadFault}
use Rattle.office_jobs.specs.declared.file_reader.ReadFault.TheVariants.{Failed, TooLong}
use Rattle.office_jobs.specs.declared.job_fault.JobFault.{JobFault}
use Rattle.office_jobs.specs.declared.job_fault.JobFault.TheVariants.{File, Write, Socket, Connection, Fault}
use Rattle.office_jobs.specs.declared.job_fault.JobFault.TheVariants.{BadExchange, Line, List, Mismatch}
use Rattle.office_jobs.specs.declared.job_fault.JobFault.TheVariants.{NoMemory, Opening, Store}

-- for a file that can't be read as exchanges
abbrev pub of_exchanges : ExchangesFault → JobFault
of_exchanges (exchanges.BadExchange k) = BadExchange k
of_exchanges exchanges.NoMemory = NoMemory

-- for exchanges that were not run, or not printed without a fault
abbrev pub of_run : RunFault → JobFault
of_run run.NoMemory = NoMemory
of_run run.Write = Write
of_run run.Fault = Fault

-- the result of a batch, as that of a job
abbrev pub run_result : Result (Unit {0}) RunFault → Result (Unit {0}) JobFault
run_result (Ok done) = Ok done
run_result (Err fault) = Err (of_run fault)

-- for a text that isn't a public-key line
abbrev pub of_line : LineFault → JobFault
of_line line.NoMemory = NoMemory
of_line other = Line other

-- for a register that didn't answer
abbrev pub of_store : StoreFault → JobFault
of_store store.NoMemory = NoMemory
of_store other = Store other

-- for a list that wasn't written
abbrev pub of_publishing : PublishFault → JobFault
of_publishing (publish.Store fault) = of_store fault
of_publishing publish.Write = Write

-- the result of publishing, as that of a job
abbrev pub publish_result : Result (Unit {0}) PublishFault → Result (Unit {0}) JobFault
publish_result (Ok done) = Ok done
publish_result (Err fault) = Err (of_publishing fault)

-- for an office that didn't pass its own test
abbrev pub of_selftest : SelftestFault → JobFault
of_selftest (selftest.Unserved fault) = Connection fault
of_selftest selftest.Mismatch = Mismatch

-- the result of that test, as that of a job
abbrev pub test_result : Result (Unit {0}) SelftestFault → Result (Unit {0}) JobFault
test_result (Ok done) = Ok done
test_result (Err fault) = Err (of_selftest fault)

-- for a file that can't be opened or read, from the kind of the error
abbrev pub of_file : ErrorKind → JobFault
of_file OutOfMemory = NoMemory
of_file _ = File

-- for a file that isn't read whole
abbrev pub of_reading : ReadFault → JobFault
of_reading TooLong = File
of_reading (Failed kind) = of_file kind

-- The faults of reading a file.
abbrev pub IsOfAFile : JobFault → Type 0
IsOfAFile File = Unit {0}
IsOfAFile NoMemory = Unit {0}
IsOfAFile other = ⊥

-- The faults of reading a file of exchanges.
abbrev pub IsOfExchanges : JobFault → Type 0
IsOfExchanges File = Unit {0}
IsOfExchanges NoMemory = Unit {0}
IsOfExchanges (BadExchange k) = Unit {0}
IsOfExchanges other = ⊥

-- The faults of checking a list for a certificate.
abbrev pub IsOfChecking : JobFault → Type 0
IsOfChecking File = Unit {0}
IsOfChecking NoMemory = Unit {0}
IsOfChecking Write = Unit {0}
IsOfChecking (List fault) = Unit {0}
IsOfChecking other = ⊥

-- The faults of applying a file of exchanges to the in-memory office.
abbrev pub IsOfATrial : JobFault → Type 0
IsOfATrial File = Unit {0}
IsOfATrial NoMemory = Unit {0}
IsOfATrial (BadExchange k) = Unit {0}
IsOfATrial (Store fault) = Unit {0}
IsOfATrial Write = Unit {0}
IsOfATrial Fault = Unit {0}
IsOfATrial other = ⊥

-- The faults of making an initial configuration: lack of memory, or the specified fault.
abbrev pub IsOfAnOpening : Result Begun OpeningFault → JobFault → Type 0
IsOfAnOpening due NoMemory = Unit {0}
IsOfAnOpening due (Opening fault) = due ≡ Err fault
IsOfAnOpening due other = ⊥

-- The faults of opening or closing a database.
abbrev pub IsOfADatabase : JobFault → Type 0
IsOfADatabase NoMemory = Unit {0}
IsOfADatabase (Store fault) = fault ≡ store.Device
IsOfADatabase other = ⊥

-- The faults of looking up, making or opening a database.
abbrev pub IsOfOpening : JobFault → Type 0
IsOfOpening NoMemory = Unit {0}
IsOfOpening (Store fault) = Unit {0}
IsOfOpening other = ⊥

-- Any fault but that of the output.
abbrev pub IsUnwritten : JobFault → Type 0
IsUnwritten Write = ⊥
IsUnwritten other = Unit {0}
