-- The tables are made one after the other.
use Rattle.rows.proofs.Words.{Bool, Completes, Creates, Err, Fault, HasCleanDisk, IsBare, IsPermutation-refl, IsSound}
use Rattle.rows.proofs.Words.{List, Lists, Ok, Result, Row, State, Stays, Survives, WaitsAt, arith, false}
use Rattle.rows.proofs.Words.{if◌then◌else◌, no_schema, subst, survives_then, sym, true, [], ℕ, ◌∙◌, ◌≡◌}
use Rattle.guard_sql.proofs.Words.{approval_cells, approval_places, approved, guard, guard_cells, guard_places}
use Rattle.guard_sql.proofs.Words.{through_guard}
use Rattle.std.proofs.lemmas.Result.{IfErr-weaker}
use Rattle.store_sql.proofs.Later.{cause_then, inside_is, stops}
use Rattle.store_sql.proofs.Staying.{stays_then}
use Rattle.store_sql.specs.Calls.{FailsWhere}
use Rattle.guard_sql.specs.Contents.{guard_tables}

-- a table with no row
lists_none : {X : Type 0} (cells : X → Row) (places : List ℕ) (rows : List Row) → rows ≡ [] → Lists cells places rows []
lists_none cells places rows is = subst (λ rs. Lists cells places rs []) (sym is)
    (record { same = IsPermutation-refl []; apart = tt })

joined : (t : Bool) {X : Type 0} (last mid now first second : X) → first ≡ (if t then last else mid)
    → second ≡ (if t then first else now) → second ≡ (if t then last else now)
joined true last mid now first second one two = two ∙ one
joined false last mid now first second one two = two

-- both tables, if the first is made
module _ (a b d : State) (r : Result (Unit {0}) Fault)
    (one : HasCleanDisk b → Creates {X = Unit {0}} {E = Fault} no_schema guard a b (Ok tt))
    (first : Survives a b (WaitsAt no_schema a)) (second : Survives b d (WaitsAt through_guard b)) where
  early : HasCleanDisk d → HasCleanDisk b
  early clean = omega (arith, second.clean)

  pub completed : (HasCleanDisk d → Creates through_guard approved b d r) → HasCleanDisk d → Completes guard_tables no_schema a d r
  completed two clean = go r (two clean)
    where
      go : (r : Result (Unit {0}) Fault) → Creates through_guard approved b d r → Completes guard_tables no_schema a d r
      go (Ok x) two = λ bare.
          let p = one (early clean) bare.0 in
          let q = two p.schema in
          record {
            was_open = p.was_open;
            is_open = q.is_open;
            means = record {
              schema = q.schema;
              kept = record {
                sound = subst (λ s. IsSound s d.now.trees) q.schema q.sound;
                holds = record {
                  guards = lists_none guard_cells guard_places (d.now.trees 0) (q.others.0 ∙ p.empty);
                  approved = lists_none approval_cells approval_places (d.now.trees 1) q.empty;
                };
              };
            };
            committed = joined a.in_transaction a.committed b.now d.now b.committed d.committed p.committed
                (subst (λ t. d.committed ≡ (if t then b.committed else d.now)) p.mode q.committed);
            mode = q.mode ∙ p.mode;
            marks = q.marks ∙ p.marks;
          }
      go (Err e) two = λ bare inside.
          let p = one (early clean) bare.0 in
          let k = stops b d two in
          record {
            was_open = λ _. p.was_open;
            committed = λ still.
                k.committed still ∙ inside_is a.in_transaction a.committed b.now b.committed inside p.committed;
          }

  pub fails : (HasCleanDisk d → FailsWhere (λ s. s.now.schema ≡ through_guard) b d r) → HasCleanDisk d
      → FailsWhere (λ s. IsBare no_schema s.now) a d r
  fails two clean bare =
      let p = one (early clean) bare.0 in
      IfErr-weaker r _ _ (λ f cause. cause_then a b d f (WaitsAt no_schema a) first p.is_open cause)
      (two clean p.schema)

  pub stay : (HasCleanDisk b → Stays {X = Unit {0}} {E = Fault} a b (Ok tt)) → (HasCleanDisk d → Stays b d r)
      → HasCleanDisk d → Stays a d r
  stay before two clean = stays_then {X = Unit {0}} a b d tt r (before (early clean)) (two clean)

  pub outlive : Survives a d (WaitsAt no_schema a)
  outlive = survives_then a b d (WaitsAt no_schema a) (WaitsAt through_guard b) (WaitsAt no_schema a)
      (λ clean trees h. h) (λ clean trees h has. let p = one (early clean) has in sym p.mode ∙ h p.schema) first second
