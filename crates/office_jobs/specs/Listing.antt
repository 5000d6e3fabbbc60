-- The key revocation list of the office in a database, printed.
use Rattle.std.specs.Prelude.{ℕ, List, Option, Result, Ok, Err}
use Rattle.std.specs.Io.KnownBytes.{Appends}
use Rattle.wire.specs.Streams.{AppendsBeginning}
use Rattle.sqlite.specs.State.{State}
use Rattle.office.specs.declared.opening.Opening.{Opening}
use Rattle.office.specs.declared.arrival.Arrival.{Arrival}
use Rattle.office.specs.declared.store_fault.StoreFault.TheVariants as store
use Rattle.store.specs.Transactions.{IsAsBefore}
use Rattle.store.specs.Meaning.{Stores, Tells}
use Rattle.headline.specs.Headline.{IsListOf}
use Rattle.office_jobs.specs.declared.job_fault.JobFault.{JobFault}
use Rattle.office_jobs.specs.declared.job_fault.JobFault.TheVariants.{NoMemory, Store, Write}
use Rattle.office_jobs.specs.Opening.{IsUnprinted}

-- the tables durably represent what they represented
abbrev pub IsStored : (old new : State) → Type 0
IsStored old new = (o : Opening) (l : List Arrival) → Tells old o l → Stores new o l

-- The printed bytes are a list, whatever the tables mean. It is that of the history that they represent, and they
-- durably represent that history.
abbrev pub IsListed : (old new : State) → (held holds : Option (List ℕ)) → Type 0
IsListed old new held holds =
    (bytes : List ℕ) × Appends held holds bytes × IsListOf old bytes × IsStored old new

-- The same, but a call of the output failed: a beginning of such a list is printed.
abbrev pub IsPartListed : (old new : State) → (held holds : Option (List ℕ)) → Type 0
IsPartListed old new held holds =
    (bytes : List ℕ) × AppendsBeginning held holds bytes × IsListOf old bytes × IsStored old new

-- the outcome, in which no table has changed
abbrev pub PrintsKrl : (old new : State) → (held holds : Option (List ℕ)) → Result (Unit {0}) JobFault → Type 0
PrintsKrl old new held holds (Ok done) = IsAsBefore old new × IsListed old new held holds
PrintsKrl old new held holds (Err Write) = IsAsBefore old new × IsPartListed old new held holds
PrintsKrl old new held holds (Err NoMemory) = IsAsBefore old new × IsUnprinted old new held holds store.NoMemory
PrintsKrl old new held holds (Err (Store e)) = IsAsBefore old new × IsUnprinted old new held holds e
PrintsKrl old new held holds (Err other) = ⊥
