-- The contents of tables of schema 1, and of the tables they are migrated to.
use Rattle.std.specs.Prelude.{◌≡◌, false, ◌==◌, List, [], ◌∷◌, map, Bool, true}
use Rattle.std.specs.Prelude.{if◌then◌else◌, IfSome, IsTrue, Result, Ok, Err}
use Rattle.std.specs.List.{AllByRecursion}
use Rattle.sqlite.specs.Effect.{Database}
use Rattle.sqlite.specs.State.{State}
use Rattle.message.specs.declared.kinds.Message.{Message}
use Rattle.message.specs.declared.kinds.Message.TheVariants as message
use Rattle.office.specs.declared.opening.Opening.{Opening}
use Rattle.office.specs.declared.arrival.Arrival.{Arrival}
use Rattle.office.specs.declared.store_fault.StoreFault.{StoreFault}
use Rattle.office.specs.declared.store_fault.StoreFault.TheVariants.{Damaged, NotAnOffice, WrongSchema}
use Rattle.office.specs.Messages.{message_with_text}
use Rattle.office.specs.History.{state}
use Rattle.store_sql.specs.declared.offices.OfficeRow.{OfficeRow}
use Rattle.store_sql.specs.declared.cas.CaRow.{CaRow}
use Rattle.store_sql.specs.Contents.{Contents, MeansWithoutCa}
use Rattle.store_sql.specs.Changes.{renumbered, with_schema}
use Rattle.store.specs.Rows.{office_contents, office_row}
use Rattle.store.specs.Transactions.{Rests}

-- the tables of schema 1 hold these contents
abbrev pub Had : Contents → Database → Type 0
Had c db = MeansWithoutCa db c

-- CA 1: the office's key blob, from the first serial on
abbrev pub first_ca_row : OfficeRow → CaRow
first_ca_row o = record { number = 1; ca = o.ca; since = o.first }

-- CA 1, if the `office` table has exactly one row, which is that of an office of schema 1
abbrev pub ca_of : List OfficeRow → Result CaRow StoreFault
ca_of [] = Err NotAnOffice
ca_of (o ∷ []) = if o.schema == 1 then (if o.id == 1 then Ok (first_ca_row o) else Err Damaged) else Err WrongSchema
ca_of (o ∷ p ∷ rows) = Err NotAnOffice

-- the contents in schema 2: with CA 1 added, and the new schema number; all other rows stay
abbrev pub migrated : Contents → Contents
migrated c = with_schema 2 (record c { cas = map first_ca_row c.offices })

-- ---- histories

-- the rows of the office with a configuration after a history, as schema 1 has them: no CA has a row
abbrev pub former_contents : Opening → List Arrival → Contents
former_contents o l = record (office_contents o l) { offices = renumbered 1 (office_row (state o l)) ∷ []; cas = [] }

abbrev pub is_rollover : Message → Bool
is_rollover (message.Rollover k) = true
is_rollover _ = false

-- no received message is a rollover
abbrev pub HasNoRollover : List Arrival → Type 0
HasNoRollover l = AllByRecursion (λ a. IfSome (message_with_text a.bytes) (λ m. is_rollover m ≡ false)) l

-- No transaction is open, and the tables of schema 1 hold the rows of the office with this configuration after this
-- history, in which no message is a rollover. The tables of a connection that a failed disk has closed are
-- unconstrained.
pub record TellsBefore (s : State) (o : Opening) (l : List Arrival) : Type 0 where
  pub plain : HasNoRollover l
  pub rows : IsTrue s.is_open → Rests (Had (former_contents o l)) s
