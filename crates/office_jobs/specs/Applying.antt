-- Exchanges applied to the office in a database.
use Rattle.std.specs.Prelude.{◌≡◌, ℕ, List, Option, Result, Ok, Err, true, false}
use Rattle.sqlite.specs.State.{State}
use Rattle.office.specs.declared.store_fault.StoreFault.TheVariants as store
use Rattle.web.specs.declared.exchange.Exchange.{Exchange}
use Rattle.web.specs.Runs.{AskNoChange}
use Rattle.store.specs.Transactions.{IsAsBefore}
use Rattle.headline.specs.Headline.{OfficePrints, OfficePrintsPart}
use Rattle.office_jobs.specs.declared.job_fault.JobFault.{JobFault}
use Rattle.office_jobs.specs.declared.job_fault.JobFault.TheVariants.{Fault, NoMemory, Store, Write}
use Rattle.office_jobs.specs.Opening.{IsUnprinted, IsUnopened}

-- The outcome. Each exchange gets its specified response, or some get a fault, and this is printed: one for each, and
-- each response of the form that its request asks for, whatever the tables mean. Or the output failed: all were run,
-- and a beginning of that is printed. Or nothing was run or printed: memory was refused, or the office wasn't opened.
-- If what was printed is a refusal or a fault for each message, the database is unchanged, whatever its tables mean.
abbrev pub Applies : List Exchange → (old new : State) → (held holds : Option (List ℕ)) → Result (Unit {0}) JobFault
    → Type 0
Applies exchanges old new held holds (Ok done) = OfficePrints old new exchanges held holds false
Applies exchanges old new held holds (Err Fault) = OfficePrints old new exchanges held holds true
Applies exchanges old new held holds (Err Write) = OfficePrintsPart old new exchanges held holds
Applies exchanges old new held holds (Err NoMemory) = IsAsBefore old new × IsUnprinted old new held holds store.NoMemory
Applies exchanges old new held holds (Err (Store e)) = IsUnopened old new e × (holds ≡ held)
Applies exchanges old new held holds (Err other) = ⊥

-- The same, and if no exchange is a message, the database is unchanged, whatever its tables mean.
pub record AppliesAll (exchanges : List Exchange) (old new : State) (held holds : Option (List ℕ))
    (result : Result (Unit {0}) JobFault) : Type 0 where
  pub applies : Applies exchanges old new held holds result
  pub reads : AskNoChange exchanges → IsAsBefore old new
