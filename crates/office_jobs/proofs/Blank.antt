-- A new database in memory.
use Rattle.office_jobs.proofs.Words.{IsBlank, State, subst}
use Rattle.sqlite.specs.Effect.{Database}
use Rattle.sqlite.specs.Steps.{IsEmpty}
use Rattle.store_sql.specs.Calls.{IsBare}
use Rattle.store_sql.specs.Schema.{no_schema}

-- it has no table, and no transaction is open
pub blank : (s : State) → IsEmpty s → IsBlank s
blank s empty =
    let bare : IsBare no_schema s.now = (empty.2, tt) in
    record {
      autocommit = empty.0.autocommit;
      now = bare;
      committed = subst (λ (db : Database). IsBare no_schema db) empty.0.clean bare;
    }
