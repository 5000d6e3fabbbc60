-- Parts of a transaction, one after the other.
use Rattle.std.proofs.Common.{Result}
use Rattle.sqlite.specs.State.{State}
use Rattle.store_sql.specs.declared.table_fault.Fault.{Fault}
use Rattle.rows.specs.Tables.{Tables}
use Rattle.rows.specs.Calls.{RefusedFor}
use Rattle.rows.specs.Statements.{Wrote}
use Rattle.rows.specs.Transactions.{Has, Part}
use Rattle.rows.proofs.Steps.{makes, waits}

module _ {C : Type 0} {these : Tables C} where
  -- a write
  pub written : {X : Type 0} {f : C → C} {refused : C → Type 0} {old new : State}
      {r : Result X Fault} → Wrote these f (RefusedFor these refused) old new r → Part these (Has these) f refused old new r
  written {f = f} {old = old} {new = new} {r = r} w = record {
    makes = λ clean. makes these f old new r (w.changes clean);
    fault = w.fault;
    stays = w.stays;
    survives = waits f old new w.survives;
  }
