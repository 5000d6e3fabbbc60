-- The date of the published list is a time that arrivals may have.
use Rattle.office.proofs.Words.{Arrival, LATEST_MOMENT, List, Opening, arith, state, ◌≤◌}
use Rattle.office.specs.Machine.{State}
use Rattle.office.proofs.Changes.{IsKeptByEach, always}

abbrev IsDated : State → Type 0
IsDated s = s.date ≤ LATEST_MOMENT

dated_each : IsKeptByEach IsDated
dated_each s moment in_time e = record {
  department = λ d. e;
  certificate = λ c is. e;
  signature = λ serial signature. e;
  range = λ r is. in_time;
  key_id = λ key_id. in_time;
  ca = λ key is none. e;
  ca_published = λ key is some. in_time;
}

pub date_after : (o : Opening) (l : List Arrival) → (state o l).date ≤ LATEST_MOMENT
date_after o l = always IsDated dated_each o l (omega arith)
