-- How tables are made in a database without any.
use Rattle.std.specs.Prelude.{IfErr, Result}
use Rattle.sqlite_trees.specs.declared.store.Store.{Ghosts}
use Rattle.sqlite.specs.Tree.{Trees}
use Rattle.sqlite.specs.Held.{Held}
use Rattle.sqlite.specs.State.{State}
use Rattle.store_sql.specs.declared.table_fault.Fault.{Fault}
use Rattle.store_sql.specs.Schema.{no_schema}
use Rattle.store_sql.specs.Calls.{IsBare}
use Rattle.store_sql.specs.Refusals.{HasCauseOr}
use Rattle.rows.specs.Tables.{Tables}
use Rattle.rows.specs.Transactions.{DoesIn, Ends, Leaves, Rests}

-- a fault of the whole transaction has its cause, or comes from this refusal
abbrev pub FailsOnBlank : Type 0 → State → State → Result (Unit {0}) Fault → Type 0
FailsOnBlank refused old new r = Rests (IsBare no_schema) old → IfErr r (HasCauseOr refused old new)

module _ {C : Type 0} (these : Tables C) where
  -- in a database without tables they are made, and hold these contents; or the call fails, perhaps by this refusal
  abbrev pub DoesOnBlank : {S : Type 0} → Ghosts S → C → Type 0 → Held S → Held S → Result (Unit {0}) Fault → Type 0
  DoesOnBlank g c refused old new r =
      DoesIn these g (λ (_ : Unit {0}). IsBare no_schema) (λ _. c) (λ _. refused) old new r

  -- in a transaction of its own the tables are made, or everything is as before
  abbrev pub EndsOnBlank : C → State → State → Result (Unit {0}) Fault → Type 0
  EndsOnBlank c old new r = Ends these (λ _. IsBare no_schema) (λ _ _. Unit {0}) (λ (_ : Unit {0}). c) old new r

  -- a crash leaves no table, or all of them with these contents
  abbrev pub LeavesOnBlank : C → State → Trees → Type 0
  LeavesOnBlank c old trees = Leaves these (λ _. IsBare no_schema) (λ (_ : Unit {0}). c) old trees
