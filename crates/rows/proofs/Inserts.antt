-- INSERT of one struct's columns, and why it is refused.
use Rattle.rows.proofs.Words.{All, Applies, Chosen, Database, Does, Edit, Enforced, FailsBy, Fault, Has, Insert}
use Rattle.rows.proofs.Words.{IsPermutation, List, Lists, Means, None, Ok, Option, Refers, RefusedFor, Result, Row}
use Rattle.rows.proofs.Words.{Schema, Some, State, Table, Tally, Term, Trees, Unique, Values, accepts_terms, all_has}
use Rattle.rows.proofs.Words.{ap, at_places, cast_row, edit_of, false, fits_i64, id_in, is_taken, length, rowid}
use Rattle.rows.proofs.Words.{slice_get, stamped, statement_of, subst, true, understood, value_rows, with_rowid}
use Rattle.rows.proofs.Words.{[], ℕ, ◌/◌, ◌<◌, ◌^◌, ◌∙◌, ◌∷◌, ◌≡◌}
use Rattle.store_sql.proofs.Statements.{mode, inserts, uncounted}
use Rattle.rows.proofs.Edits.{Spares, lists_more}
use Rattle.rows.proofs.FaultLemmas.{HasWriteCause, IsStatement, Stops, refused_for}
use Rattle.rows.proofs.CallLemmas.{Write}
use Rattle.sqlite_rules.proofs.RuleLemmas.{refers_from}
use Rattle.rows.proofs.Reasons.{HasClash, IsPut, IsSimple, halted, one}
use Rattle.store_sql.proofs.Reasons.{size}
use Rattle.store_sql.proofs.Rows.{inserted}
use Rattle.store_sql.proofs.Selects.{IsTreeOf}
use Rattle.store_sql.proofs.Stops.{IsHalted, insert_halts}
use Rattle.rows.specs.Tables.{Tables}

-- ---- foreign keys

-- the tables have none, so all are satisfied
pub all_refer : (whole : Schema) → IsSimple whole → (trees : Trees) → Refers All whole trees
all_refer whole simple trees = refers_from All whole trees (λ t ref row listed known is there. absurd
    (all_has (λ (u : Table). Has u.references ref → ⊥) whole.tables t (simple.none_refer ref) listed known))

module _ {C : Type 0} (these : Tables C) where
  -- The text that inserts the row of a struct. `row` is that row, given the rows of the table.
  pub record IsInsert {X : Type 0} (sql : List ℕ) (cells : X → Row) (places : List ℕ) (at : ℕ) (table : Table)
      (terms : List Term)
      (width : ℕ) (with_x : X → C → C) (of : C → List X) (row : X → List Row → Row) : Type 0 where
    pub simple : IsSimple these.whole
    pub tree : IsTreeOf these.Holds cells places table.tree of
    pub found : slice_get these.whole.tables at ≡ Some (uncounted table)
    pub is : (x : X) → IsStatement these sql (Insert at (Values terms width)) (length (cells x))
    pub source : X → Row
    pub sourced : (x : X)
        → (value_rows (stamped (uncounted table) (cells x)) width (length terms / width) terms ≡ source x ∷ [])
        × (accepts_terms terms (stamped (uncounted table) (cells x)) ≡ true)
    pub made : (x : X) (rows : List Row) → (with_rowid Chosen rows (cast_row (uncounted table) (source x)) ≡ row x rows)
        × (at_places places (row x rows) ≡ cells x)
    pub held : (x : X) (db after : Trees) (c : C) → these.Holds db c → Spares these.whole table.tree db after
        → IsPermutation (row x (db table.tree) ∷ db table.tree) (after table.tree)
        → Lists cells places (after table.tree) (x ∷ of c) → these.Holds after (with_x x c)

module _ {C : Type 0} {these : Tables C} where
  module _ {X : Type 0} {sql : List ℕ} {cells : X → Row} {places : List ℕ} {at : ℕ} {table : Table} {terms : List Term}
      {width : ℕ} {with_x : X → C → C} {of : C → List X} {row : X → List Row → Row}
      (it : IsInsert these sql cells places at table terms width with_x of row) where
    does : (x : X) (limit : Option ℕ) (db next : Database) (tally : Tally) (c : C) → Means these db c
        → Does limit mode (cells x) db (statement_of sql (understood these.whole sql)) None (Insert at (Values terms width))
        (Ok (tally, next)) → (next.schema ≡ these.whole) × these.Holds next.trees (with_x x c)
    does x limit db next tally c means h =
        let rows = value_rows (stamped (uncounted table) (cells x)) width (length terms / width) terms in
        let source = it.source x in
        let did = inserts limit db next tally these.whole means.schema at table it.found (cells x)
        (statement_of sql (understood these.whole sql)) terms width h
        (it.simple.no_works table.tree [] (edit_of db.trees (uncounted table) [] Chosen 0 rows).news) in
        let put = subst (λ rs. Applies these.whole Enforced db.trees (edit_of db.trees (uncounted table) [] Chosen 0 rs)
        next.trees) (it.sourced x).0 did.0 in (
          did.1,
          it.held x db.trees next.trees c means.kept.holds put.tables
              (subst (λ r. IsPermutation (r ∷ db.trees table.tree) (next.trees table.tree))
              (it.made x (db.trees table.tree)).0 (inserted these.whole (uncounted table) db.trees next.trees source put))
              (lists_more these.whole cells places (uncounted table) db.trees next.trees (of c) x source
              (it.tree.held db.trees c means.kept.holds)
              (ap (at_places places) (it.made x (db.trees table.tree)).0 ∙ (it.made x (db.trees table.tree)).1) put),
        )

    pub insert : (x : X) → Write these sql (cells x) (with_x x)
    insert x = record { command = Insert at (Values terms width); is = it.is x; on_rows = tt; does = does x }

  -- ---- INSERT

  module _ {X : Type 0} {sql : List ℕ} {cells : X → Row} {places : List ℕ} {at : ℕ} {table : Table} {terms : List Term}
      {width : ℕ} {with_x : X → C → C} {of : C → List X} {row : X → List Row → Row}
      (it : IsInsert these sql cells places at table terms width with_x of row) (x : X) where
    halts : (s : State) (c : C) → Means these s.now c → Stops these sql (cells x) (Insert at (Values terms width)) s
        → IsHalted these.whole s.now.trees (one s.now.trees (uncounted table) [] (row x (s.now.trees table.tree)))
    halts s c means stops =
        let trees = s.now.trees in
        let halts = insert_halts s.now these.whole means.schema at table it.found (cells x)
        (statement_of sql (understood these.whole sql)) (it.simple.no_works table.tree) terms width (it.sourced x).1 stops.0 stops.1 in
        let given = subst (λ rs. IsHalted these.whole trees (edit_of trees (uncounted table) [] Chosen 0 rs))
        (it.sourced x).0 halts in
        subst (λ r. IsHalted these.whole trees (one trees (uncounted table) [] r)) (it.made x (trees table.tree)).0 given

    -- the edit that adds the row, and the row
    abbrev pub adds : State → Edit
    adds s = one s.now.trees (uncounted table) [] (row x (s.now.trees table.tree))

    abbrev pub new_row : State → Row
    new_row s = row x (s.now.trees table.tree)

    -- why the call fails: the number is out of range or taken, or the key is taken, or the row is too long
    pub insert_fails : (Refuses : C → Type 0) → ((s : State) → IsPut these.whole (uncounted table) (new_row s))
        → ((s : State) (c : C) → Means these s.now c → fits_i64 (id_in (rowid (new_row s))) ≡ false → Refuses c)
        → ((s : State) (c : C) → Means these s.now c → is_taken (s.now.trees table.tree) (new_row s) ≡ true → Refuses c)
        → ((s : State) (c : C) → Means these s.now c → HasClash s.now.trees (uncounted table) [] (new_row s) these.whole → Refuses c)
        → ((s : State) (c : C) → 10 ^ 9 < size (new_row s) → Refuses c)
        → {Y : Type 0} (old new : State) (r : Result Y Fault) → FailsBy these (HasWriteCause these sql (cells x)) old new r
        → RefusedFor these Refuses old new r
    insert_fails Refuses put range taken clash long =
        refused_for these sql (cells x) (Insert at (Values terms width)) (it.is x).0 (it.is x).2 Refuses (λ s c means stops.
        halted these.whole it.simple s.now.trees (uncounted table) [] (new_row s) (put s) (it.tree.held s.now.trees c means.kept.holds).apart
        (means.kept.sound.obeys.rules Unique) (range s c means) (taken s c means)
        (clash s c means) (long s c) (λ next did broken. absurd (broken (all_refer these.whole it.simple next))) (halts s c means stops))
