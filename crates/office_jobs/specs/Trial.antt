-- What `apply` prints for a file of exchanges.
use Rattle.std.specs.Prelude.{◌≡◌, ◌≢◌, ℕ, List, [], ◌∷◌, Bool, false, true, Option, Result, Err, IfErr, IfSome, OnOk}
use Rattle.std.specs.Io.KnownBytes.{Appends}
use Rattle.wire.specs.Streams.{AppendsBeginning}
use Rattle.office.specs.declared.arrival.Arrival.{Arrival}
use Rattle.web.specs.declared.exchange.Exchange.{Exchange}
use Rattle.web.specs.declared.exchange.Given.{Given}
use Rattle.web.specs.Runs.{AllDue}
use Rattle.exchanges.specs.Exchanges.{AreExchanges, IsBadRecord, exchanges_text}
use Rattle.exchanges.specs.Printing.{all_given_text, has_fault}
use Rattle.office_jobs.specs.declared.job_fault.JobFault.{JobFault}
use Rattle.office_jobs.specs.declared.job_fault.JobFault.TheVariants as job
use Rattle.office_jobs.specs.Faults.{IsOfATrial}
use Rattle.office_jobs.specs.TrialOffice.{opening_of, trial_arrival}

-- The file is the text of exchanges. Their specified responses from the in-memory office, with its one department, are
-- printed after the earlier output. An exchange that had a fault is not part of the history.
pub record AppliesToTrial (file : List ℕ) (old new : Option (List ℕ)) (fault : Bool) : Type 0 where
  pub exchanges : List Exchange
  pub are : AreExchanges exchanges
  pub text : file ≡ exchanges_text exchanges
  pub given : List Given
  pub last : List Arrival
  pub due : AllDue (opening_of 1 9223372036854775806) (trial_arrival ∷ []) exchanges given last
  pub printed : Appends old new (all_given_text given)
  pub faults : has_fault given ≡ fault

-- The same, but a call of the output failed: a beginning of that is printed.
pub record AppliesPartToTrial (file : List ℕ) (old new : Option (List ℕ)) : Type 0 where
  pub exchanges : List Exchange
  pub are : AreExchanges exchanges
  pub text : file ≡ exchanges_text exchanges
  pub given : List Given
  pub last : List Arrival
  pub due : AllDue (opening_of 1 9223372036854775806) (trial_arrival ∷ []) exchanges given last
  pub printed : AppendsBeginning old new (all_given_text given)

-- The outcome for a file. Each exchange is answered, or some get a fault, and this is printed, or a beginning of it if
-- the output failed. Or the file isn't an exchange file. After any fault except that of an exchange or of the output,
-- nothing is printed.
pub record TriesFile (file held holds : Option (List ℕ)) (result : Result (Unit {0}) JobFault) : Type 0 where
  pub ok : OnOk result (IfSome file (λ text. AppliesToTrial text held holds false))
  pub fault : result ≡ Err job.Fault → IfSome file (λ text. AppliesToTrial text held holds true)
  pub part : result ≡ Err job.Write → IfSome file (λ text. AppliesPartToTrial text held holds)
  pub bad : (k : ℕ) → result ≡ Err (job.BadExchange k) → IfSome file (λ text. IsBadRecord text k)
  pub only : IfErr result IsOfATrial
  pub silent : IfErr result (λ e. e ≢ job.Write → e ≢ job.Fault → holds ≡ held)
