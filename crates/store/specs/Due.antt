-- The rows that have to be written, and the tables before and after that.
use Rattle.std.specs.Prelude.{◌≡◌, ℕ, true, ◌<◌, ◌^◌, List, [], ◌∷◌, ◌++◌}
use Rattle.sqlite.specs.Effect.{Database}
use Rattle.office.specs.declared.arrival.Arrival.{Arrival}
use Rattle.office.specs.declared.arrival.Kept.{Kept}
use Rattle.office.specs.declared.ca.Ca.{Ca}
use Rattle.office.specs.declared.view.Decision.{Decision}
use Rattle.office.specs.State.{State, next_serial}
use Rattle.office.specs.Decided.{HasRoom, written}
pub use Rattle.office.specs.History.{kept_of}
use Rattle.store_sql.specs.declared.offices.Counters.{Counters}
use Rattle.store_sql.specs.Contents.{Contents, Means}
use Rattle.store.specs.Lawful.{IsLawful}
use Rattle.store.specs.Rows.{contents_of}

abbrev pub counters_of : Decision → Counters
counters_of d = record { next = d.next; version = d.version; date = d.date }

-- the counters are numbers that a column can hold
pub record Fits (d : Decision) : Type 0 where
  pub next : d.next < 2 ^ 63
  pub version : d.version < 2 ^ 63
  pub date : d.date < 2 ^ 63

-- The tables hold the rows of this valid state, with room for the decision, and of the stored requests. The state has
-- these CAs, and only issued serials are revoked. The decision's counters fit their columns, and its next serial is
-- that of the state after it.
pub record IsDue (d : Decision) (cas : List Ca) (x : State × List Kept) (db : Database) : Type 0 where
  pub lawful : IsLawful x.0
  pub room : HasRoom d.change x.0
  pub issued : (n : ℕ) → x.0.revoked n ≡ true → n < next_serial x.0
  pub next : d.next ≡ next_serial (written d x.0)
  pub fits : Fits d
  pub listed : cas ≡ x.0.cas
  pub means : Means db (contents_of x.0 x.1)

-- the rows of the state after the decision, and one for the request
abbrev pub contents_after : Decision → Arrival → State × List Kept → Contents
contents_after d a x = contents_of (written d x.0) (x.1 ++ kept_of a d.reply ∷ [])
