-- How an office is created, and when it can't be.
use Rattle.std.specs.Prelude.{◌⊎◌, IfErr, Result}
use Rattle.sqlite_trees.specs.declared.store.Store.{Ghosts}
use Rattle.sqlite.specs.Tree.{Trees}
use Rattle.sqlite.specs.Held.{Held}
use Rattle.sqlite.specs.State.{State}
use Rattle.office.specs.declared.opening.Opening.{Opening}
use Rattle.office.specs.State.{first_ca, opened}
use Rattle.store_sql.specs.declared.table_fault.Fault.{Fault}
use Rattle.store_sql.specs.Calls.{IsBare}
use Rattle.store_sql.specs.Schema.{no_schema}
use Rattle.store_sql.specs.declared.cas.CaRow.{CaRow}
use Rattle.store_sql.specs.declared.offices.OfficeRow.{OfficeRow}
use Rattle.store_sql.specs.Changes.{with_ca_row, with_office}
use Rattle.store_sql.specs.Contents.{Contents, no_contents}
use Rattle.store_sql.specs.Refusals.{HasCauseOr, RefusesCa, RefusesOffice}
use Rattle.store.specs.Rows.{ca_row, office_row}
use Rattle.store.specs.Transactions.{DoesIn, Ends, Leaves, Rests}

-- the row of the office is refused, or, once that is inserted, the row of its CA
abbrev pub RefusesFirst : OfficeRow → CaRow → Contents → Type 0
RefusesFirst office ca c = RefusesOffice office c ⊎ RefusesCa ca (with_office office c)

-- the rules of empty tables refuse the rows of this initial configuration
abbrev pub RefusesOpening : Opening → Type 0
RefusesOpening o = RefusesFirst (office_row (opened o)) (ca_row 1 o.first (first_ca o)) no_contents

-- ---- a database without tables

-- a fault of the whole transaction has its cause, or is this refusal
abbrev pub FailsOnBlank : Type 0 → State → State → Result (Unit {0}) Fault → Type 0
FailsOnBlank refused old new r = Rests (IsBare no_schema) old → IfErr r (HasCauseOr refused old new)

-- the tables are made there, and hold these contents; or it fails, perhaps because of this refusal
abbrev pub DoesOnBlank : {S : Type 0} → Ghosts S → Contents → Type 0 → Held S → Held S → Result (Unit {0}) Fault
    → Type 0
DoesOnBlank g c refused old new r = DoesIn g (λ (_ : Unit {0}). IsBare no_schema) (λ _. c) (λ _. refused) old new r

-- in a transaction of its own: the tables are made, or nothing has changed
abbrev pub EndsOnBlank : Contents → State → State → Result (Unit {0}) Fault → Type 0
EndsOnBlank c old new r = Ends (λ _. IsBare no_schema) (λ _ _. Unit {0}) (λ (_ : Unit {0}). c) old new r

-- a crash leaves no table, or all of them with these contents
abbrev pub LeavesOnBlank : Contents → State → Trees → Type 0
LeavesOnBlank c old trees = Leaves (λ _. IsBare no_schema) (λ (_ : Unit {0}). c) old trees

-- ---- the tables of an office

-- the contents with these two rows
abbrev pub first_contents : OfficeRow → CaRow → Contents
first_contents office ca = with_ca_row ca (with_office office no_contents)
