-- A register's state and its stored requests, after a history.
use Rattle.std.specs.Prelude.{◌≡◌, ◌<◌, List}
use Rattle.office.specs.declared.opening.Opening.{Opening}
use Rattle.office.specs.declared.arrival.Arrival.{Arrival}
use Rattle.office.specs.declared.arrival.Kept.{Kept}
use Rattle.office.specs.Openings.{IsOpening}
use Rattle.office.specs.Machine.{State}
use Rattle.office.specs.History.{first_accepted, kept_by, state}

-- a valid opening, and a version of the published list that has a successor
pub record IsOffice (o : Opening) (l : List Arrival) : Type 0 where
  pub opening : IsOpening o
  pub version : (state o l).version < 9223372036854775807

-- the office after a history, as in `IsOffice`: the model's state, and a stored row for each first acceptance
pub record Shows (s : State) (kept : List Kept) (o : Opening) (l : List Arrival) : Type 0 where
  pub lawful : IsOpening o
  pub version : s.version < 9223372036854775807
  pub is_state : s ≡ state o l
  pub is_kept : kept ≡ kept_by (first_accepted o l)
