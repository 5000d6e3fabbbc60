-- What is printed for exchanges.
use Rattle.std.specs.Prelude.{◌≡◌, ℕ, List, [], ◌∷◌, ◌++◌, length, codes, Bool, true, false, Option}
use Rattle.std.specs.Fmt.{decimal}
use Rattle.std.specs.Io.KnownBytes.{Appends}
use Rattle.std.specs.List.{flat_map, list_any}
use Rattle.wire.specs.Streams.{AppendsBeginning}
use Rattle.office.specs.declared.opening.Opening.{Opening}
use Rattle.office.specs.declared.arrival.Arrival.{Arrival}
use Rattle.web.specs.declared.exchange.Exchange.{Exchange}
use Rattle.web.specs.declared.exchange.Given.{Given}
use Rattle.web.specs.declared.exchange.Given.TheVariants.{Answer, Fault}
use Rattle.web.specs.Forms.{HaveForms}
use Rattle.web.specs.Runs.{AreGivenNoChange, Serves}

-- the word `answer`, a length and a response of that length, or the word `fault`
abbrev pub given_text : Given → List ℕ
given_text (Answer response) = codes "answer " ++ (decimal (length response) ++ 10 ∷ response)
given_text Fault = codes "fault" ++ 10 ∷ []

-- the texts in succession
abbrev pub all_given_text : List Given → List ℕ
all_given_text given = flat_map given_text given

abbrev pub is_fault : Given → Bool
is_fault (Answer response) = false
is_fault Fault = true

-- whether any exchange got no response
abbrev pub has_fault : List Given → Bool
has_fault given = list_any is_fault given

-- The output of a register for the exchanges is printed after the earlier output; `fault` says whether any got a fault.
-- Whatever the register means, there is a response or a fault for each exchange, and each response has the form that
-- its request asks for. If each exchange is no message, was refused, or got a fault, the stored rows are unchanged:
-- `same`.
pub record Prints (before after keeps : Opening → List Arrival → Type 0) (same : Type 0) (exchanges : List Exchange)
    (old new : Option (List ℕ)) (fault : Bool) : Type 0 where
  pub given : List Given
  pub serves : Serves before after keeps exchanges given
  pub printed : Appends old new (all_given_text given)
  pub faults : has_fault given ≡ fault
  pub forms : HaveForms exchanges given
  pub rows : AreGivenNoChange exchanges given → same

-- The same, but a call of the output failed: what it took before is a beginning of what was to be printed.
pub record PrintsBeginning (before after keeps : Opening → List Arrival → Type 0) (same : Type 0)
    (exchanges : List Exchange) (old new : Option (List ℕ)) : Type 0 where
  pub given : List Given
  pub serves : Serves before after keeps exchanges given
  pub printed : AppendsBeginning old new (all_given_text given)
  pub forms : HaveForms exchanges given
  pub rows : AreGivenNoChange exchanges given → same
