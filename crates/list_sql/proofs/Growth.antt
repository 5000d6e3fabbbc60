-- Making the table.
use Rattle.rows.proofs.Words.{Completes, Creates, Err, Fault, IsPermutation-refl, IsSound, List, Lists, Ok, Result, Row}
use Rattle.rows.proofs.Words.{State, no_schema, subst, sym, [], ℕ, ◌≡◌}
use Rattle.list_sql.proofs.Words.{list, list_cells, list_places}
use Rattle.store_sql.proofs.Later.{stops}
use Rattle.list_sql.specs.Contents.{list_tables}

-- a table without rows has no structs
pub lists_none : {X : Type 0} (cells : X → Row) (places : List ℕ) (rows : List Row) → rows ≡ []
    → Lists cells places rows []
lists_none cells places rows is = subst (λ rs. Lists cells places rs []) (sym is)
    (record { same = IsPermutation-refl []; apart = tt })

pub completed : (a d : State) (r : Result (Unit {0}) Fault) → Creates no_schema list a d r → Completes list_tables no_schema a d r
completed a d (Ok x) one = λ bare.
    let p = one bare.0 in
    record {
      was_open = p.was_open;
      is_open = p.is_open;
      means = record {
        schema = p.schema;
        kept = record {
          sound = subst (λ s. IsSound s d.now.trees) p.schema p.sound;
          holds = record { lists = lists_none list_cells list_places (d.now.trees 0) p.empty };
        };
      };
      committed = p.committed;
      mode = p.mode;
      marks = p.marks;
    }
completed a d (Err e) one = λ bare inside. stops a d one
