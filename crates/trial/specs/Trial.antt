-- What is printed for a file of exchanges.
use Rattle.std.specs.Prelude.{◌≡◌, ℕ, List, [], ◌∷◌, Bool, Option}
use Rattle.std.specs.Io.KnownBytes.{Appends}
use Rattle.office.specs.declared.arrival.Arrival.{Arrival}
use Rattle.web.specs.declared.exchange.Exchange.{Exchange}
use Rattle.web.specs.declared.exchange.Given.{Given}
use Rattle.web.specs.Runs.{AllDue}
use Rattle.exchanges.specs.Exchanges.{AreExchanges, exchanges_text}
use Rattle.exchanges.specs.Printing.{all_given_text, has_fault}
use Rattle.trial.specs.TrialOffice.{trial_arrival, trial_opening}

-- The file is the text of exchanges. Their specified responses from the in-memory office, with its one department, are
-- printed after the earlier output. An exchange that had a fault is not part of the history.
pub record AppliesToTrial (file : List ℕ) (old new : Option (List ℕ)) (fault : Bool) : Type 0 where
  pub exchanges : List Exchange
  pub are : AreExchanges exchanges
  pub text : file ≡ exchanges_text exchanges
  pub given : List Given
  pub last : List Arrival
  pub due : AllDue trial_opening (trial_arrival ∷ []) exchanges given last
  pub printed : Appends old new (all_given_text given)
  pub faults : has_fault given ≡ fault
