-- The requests that exchanges add to a history.
use Rattle.std.specs.Prelude.{◌≡◌, List, ◌++◌}
use Rattle.office.specs.declared.opening.Opening.{Opening}
use Rattle.office.specs.declared.arrival.Arrival.{Arrival}
use Rattle.web.specs.declared.exchange.Exchange.{Exchange}
use Rattle.web.specs.declared.exchange.Given.{Given}
use Rattle.web.specs.Runs.{AllDue}

-- the history after the exchanges is the one before them, with any number of requests added at its end
abbrev pub ArrivalsStay : Type 0
ArrivalsStay = (o : Opening) (l : List Arrival) (exchanges : List Exchange) (given : List Given) (last : List Arrival)
    → AllDue o l exchanges given last → (more : List Arrival) × (last ≡ l ++ more)
