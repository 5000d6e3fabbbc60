-- What INSERT and UPDATE leave of the structs of one table.
use Rattle.rows.proofs.Words.{AllByRecursion, Applies, Bool, Chosen, Enforced, Given, Has, IsPermutation}
use Rattle.rows.proofs.Words.{IsPermutation-cons, IsPermutation-map, IsPermutation-trans, IsTable, IsTable-put_row}
use Rattle.rows.proofs.Words.{List, Lists, Row, Schema, Table, Trees, at_places, cast_row, cond, edit_of, filter}
use Rattle.rows.proofs.Words.{ids_of, is_int, map, rowid, subst, sym, true, with_rowid, [], ℕ, ◌∷◌, ◌≡◌, ◌≢◌}
use Rattle.store_sql.proofs.Edits.{lists_updated, of_record, updated, updated_apart}
use Rattle.store_sql.proofs.Rows.{inserted}

-- the trees of the tables, except this one, are unchanged
abbrev pub Spares : Schema → ℕ → Trees → Trees → Type 0
Spares whole tree db after = AllByRecursion (λ t. t.tree ≢ tree → after t.tree ≡ db t.tree) whole.tables

-- one more struct, if its row is added
pub lists_more : {X : Type 0} (whole : Schema) (cells : X → Row) (places : List ℕ) (table : Table) (db after : Trees) (xs : List X)
    (x : X) (source : Row) → Lists cells places (db table.tree) xs
    → at_places places (with_rowid Chosen (db table.tree) (cast_row table source)) ≡ cells x
    → Applies whole Enforced db (edit_of db table [] Chosen 0 (source ∷ [])) after
    → Lists cells places (after table.tree) (x ∷ xs)
lists_more whole cells places table db after xs x source h is did = record {
  same = IsPermutation-trans _ _ _ (subst
      (λ v. IsPermutation (cells x ∷ map cells xs) (v ∷ map (at_places places) (db table.tree))) (sym is)
      (IsPermutation-cons (cells x) _ _ h.same))
      (IsPermutation-map (at_places places) _ _ (inserted whole table db after source did));
  apart = subst IsTable (sym did.rows)
      (IsTable-put_row (with_rowid Chosen (db table.tree) (cast_row table source)) (db table.tree) h.apart);
}

-- ---- UPDATE of the rows that pass a test

-- each struct that passes is changed: `next_row` is a row's new row
pub lists_changed : {X : Type 0} (whole : Schema) (cells : X → Row) (places : List ℕ) (table : Table) (db after : Trees)
    (rows : List Row) (xs : List X) (mine : X → Bool) (u : X → X)
    (tests : Row → Bool) (change next_row : Row → Row) → ((x : X) → tests (cells x) ≡ mine x)
    → ((x : X) → change (cells x) ≡ cells (u x))
    → ((x : X) (r : Row) → at_places places r ≡ cells x → is_int (rowid r) ≡ true)
    → ((x : X) (r : Row) → at_places places r ≡ cells x
    → at_places places (cast_row table (next_row r)) ≡ change (at_places places r))
    → Lists cells places (db table.tree) xs → IsPermutation
    (map (λ r. rowid r ∷ next_row r) (filter (λ r. tests (at_places places r)) (db table.tree))) rows
    → Applies whole Enforced db (edit_of db table (ids_of rows) Given 1 rows) after
    → Lists cells places (after table.tree) (map (λ x. cond (mine x) (u x) x) xs)
lists_changed whole cells places table db after rows xs mine u tests change next_row tested changed int back h all did =
    let p = λ (r : Row). tests (at_places places r) in
    let each = λ (r : Row) (here : Has (db table.tree) r). of_record cells places (db table.tree) xs r h here in
    let ints = λ (r : Row) (here : Has (db table.tree) r). let it = each r here in int it.0 r it.2 in
    let news = λ (r : Row) (here : Has (db table.tree) r). let it = each r here in back it.0 r it.2 in
    record {
      same = lists_updated cells places mine u tests change (λ r. cast_row table (next_row r)) tested changed
          (db table.tree) (after table.tree) xs h news
          (updated whole table db after rows p next_row h.apart ints all did);
      apart = updated_apart whole table db after rows p next_row h.apart ints all did;
    }
