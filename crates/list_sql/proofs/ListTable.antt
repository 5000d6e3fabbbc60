-- The statements on the table of the list, and the causes of a refusal.
use Rattle.rows.proofs.Words.{AllByRecursion, Applies, Blob, Database, Delete, Does, Edit, Enforced, FailsBy, Fault}
use Rattle.rows.proofs.Words.{Given, Has, Insert, Int, IsAnswer, IsPermutation, IsPermutation-map, IsPermutation-trans}
use Rattle.rows.proofs.Words.{IsTooLong, List, Lists, None, Null, Ok, Option, Program, Query, RefusedFor, Result, Row}
use Rattle.rows.proofs.Words.{State, Tally, Term, Trees, Values, accepts_program, ap, arith, codes, col, column, drop}
use Rattle.rows.proofs.Words.{edit_of, everything, false, filter, id_in, ids_of, inl, inr, is_int, lit, lt-ltb, map}
use Rattle.rows.proofs.Words.{map-map, overlay, pos, refl, rowid, statement_of, subst, true, understood, with_tree, []}
use Rattle.rows.proofs.Words.{ℕ, ◌++◌, ◌<◌, ◌^◌, ◌∙◌, ◌∷◌, ◌≡◌}
use Rattle.list_sql.proofs.Words.{Contents, DELETE_LISTS, EVERY_LIST, HasRows, Holds, INSERT_LIST, ListRow, Means}
use Rattle.list_sql.proofs.Words.{RefusesList, RefusesNone, list_at, list_cells, list_places, whole, with_list}
use Rattle.list_sql.proofs.Words.{without_rows}
use Rattle.std.proofs.lemmas.List.Sorted.{IsPermutation-to_front}
use Rattle.sqlite_rules.specs.Edit.{edited}
use Rattle.store_sql.proofs.CallLemmas.{FindIn, IsSelect}
use Rattle.store_sql.proofs.Edits.{keep_all, left_is, of_record}
use Rattle.store_sql.proofs.FaultLemmas.{none_overflows}
use Rattle.store_sql.proofs.Queries.{on_table, selected}
use Rattle.store_sql.proofs.Reasons.{is_exact, never, size, storable}
use Rattle.store_sql.proofs.Rows.{cast_int, cast_null}
use Rattle.store_sql.proofs.Selects.{IsTreeOf, select}
use Rattle.store_sql.proofs.Statements.{deletes, mode}
use Rattle.store_sql.proofs.Stops.{delete_halts}
use Rattle.store_sql.proofs.Texts.{query, statement}
use Rattle.store_sql.proofs.Inserts.{taken_number}
use Rattle.rows.proofs.CallLemmas.{Write}
use Rattle.list_sql.proofs.Elsewhere.{in_list, list_apart, simple}
use Rattle.rows.proofs.FaultLemmas.{HasWriteCause, IsStatement, Stops, refused_for}
use Rattle.list_sql.proofs.Growth.{lists_none}
use Rattle.rows.proofs.Inserts.{IsInsert, all_refer, insert, insert_fails}
use Rattle.rows.proofs.Reasons.{IsPut, removal_halts, unclashed}
use Rattle.list_sql.proofs.Removals.{keys_hold}
use Rattle.list_sql.specs.Contents.{list_tables}

pub tree : IsTreeOf Holds list_cells list_places 0 (λ c. c.lists)
tree = record { stored = λ trees. refl; held = λ trees c h. h.lists; apart = list_apart }

-- ---- INSERT

abbrev terms : List Term
terms = col 0 0 ∷ lit Null ∷ col 0 1 ∷ col 0 2 ∷ []

abbrev pub row_of : ListRow → Row
row_of x = Int (pos x.id) ∷ Null ∷ Int (pos x.schema) ∷ Blob x.bytes ∷ []

-- the order of the structs doesn't matter
at_end : (rows : List Row) (x : ListRow) (xs : List ListRow) → Lists list_cells list_places rows (x ∷ xs)
    → Lists list_cells list_places rows (xs ++ x ∷ [])
at_end rows x xs h = record {
  same = IsPermutation-trans _ _ _
      (IsPermutation-map list_cells (xs ++ x ∷ []) (x ∷ xs) (IsPermutation-to_front xs x)) h.same;
  apart = h.apart;
}

insert_is : IsStatement list_tables INSERT_LIST.now (Insert 0 (Values terms 4)) 3
unfolding everything
insert_is = statement whole INSERT_LIST.now _ 3 refl refl

pub puts : IsInsert list_tables INSERT_LIST.now list_cells list_places 0 list_at terms 4 with_list (λ c. c.lists)
    (λ x rows. row_of x)
puts = record {
  simple = simple;
  tree = tree;
  found = refl;
  is = λ x. insert_is;
  source = row_of;
  sourced = λ x. (refl, refl);
  made = λ x rows. (simp (cast_int, cast_null), refl);
  held = λ x db after c h o put now. in_list db after c h (c.lists ++ x ∷ []) o (at_end (after 0) x c.lists now);
}

pub put : (x : ListRow) → Write list_tables INSERT_LIST.now (list_cells x) (with_list x)
put = insert puts

-- ---- SELECT of all

abbrev columns : List Term
columns = col 1 0 ∷ col 1 2 ∷ col 1 3 ∷ []

abbrev names : List (List ℕ)
names = codes "id" ∷ codes "schema" ∷ codes "bytes" ∷ []

every_is : IsSelect whole EVERY_LIST.now (on_table 0 [] columns []) names 0
unfolding everything
every_is = query whole EVERY_LIST.now _ _ 0 refl refl

abbrev Rows : Trees → List ListRow → Type 0
Rows trees rows = Lists list_cells list_places (trees 0) rows

its_rows : IsTreeOf Rows list_cells list_places 0 (λ rows. rows)
its_rows = record { stored = λ trees. refl; held = λ trees rows h. h; apart = list_apart }

pub every : FindIn whole Rows EVERY_LIST.now [] list_cells (λ rows. rows)
every = select its_rows every_is (λ x. true) (λ v. true) (λ v. column v 0 ∷ column v 1 ∷ column v 2 ∷ [])
    (λ x. refl) (λ x. refl) (λ r. refl) (λ r. refl) refl (λ rows. keep_all rows)

pub known : (rows : List ListRow) (db : Database) → HasRows rows db → (db.schema ≡ whole) × Rows db.trees rows
known rows db has = (has.schema, has.holds)

-- ---- DELETE of all

abbrev every_row : Query
every_row = on_table 0 [] (col 1 0 ∷ []) []

abbrev removal : Program
removal = record { lets = []; body = every_row }

delete_is : IsStatement list_tables DELETE_LISTS.now (Delete 0 removal) 0
unfolding everything
delete_is = statement whole DELETE_LISTS.now _ 0 refl refl

none_left : (rows : List Row) → filter (λ (r : Row). false) rows ≡ []
none_left [] = refl
none_left (r ∷ rows) = none_left rows

left_rows : (db after : Trees) (c : Contents) (rows : List Row) → Holds db c
    → IsAnswer every_row (overlay db []) [] rows
    → Applies whole Enforced db (edit_of db list_at (ids_of rows) Given 0 []) after
    → Lists list_cells list_places (after 0) []
left_rows db after c rows h answer did =
    let all = selected 0 [] (col 1 0 ∷ []) [] db [] rows refl answer in
    let ids : IsPermutation (map (λ r. id_in (rowid r)) (filter (λ (r : Row). true) (db 0))) (ids_of rows) =
    subst (λ l. IsPermutation l (ids_of rows))
    (map-map (λ r. id_in (rowid r)) (λ r. column r 0 ∷ []) (filter (λ (r : Row). true) (db 0)))
    (IsPermutation-map (λ r. id_in (rowid r)) _ _ all) in
    let ints = λ (r : Row) (here : Has (db 0) r).
    let it = of_record list_cells list_places (db 0) c.lists r h.lists here in
    let id : column r 0 ≡ Int (pos it.0.id) = ap (λ v. column v 0) it.2 in ap is_int id in
    let left : after 0 ≡ filter (λ (r : Row). false) (db 0) = did.rows
    ∙ left_is (λ (r : Row). true) (db 0) h.lists.apart ints (ids_of rows) ids in
    lists_none list_cells list_places (after 0) (left ∙ none_left (db 0))

delete_does : (limit : Option ℕ) (db next : Database) (tally : Tally) (c : Contents) → Means db c
    → Does limit mode [] db (statement_of DELETE_LISTS.now (understood whole DELETE_LISTS.now)) None (Delete 0 removal)
    (Ok (tally, next)) → (next.schema ≡ whole) × Holds next.trees (without_rows c)
delete_does limit db next tally c means h =
    let did = deletes limit db next tally whole means.schema 0 list_at refl []
    (statement_of DELETE_LISTS.now (understood whole DELETE_LISTS.now)) removal h (simple.no_works 0) in (
      did.3,
      in_list db.trees next.trees c means.kept.holds [] did.2.tables
          (left_rows db.trees next.trees c did.0 means.kept.holds (did.1.answer Null) did.2),
    )

pub delete : Write list_tables DELETE_LISTS.now [] without_rows
delete = record { command = Delete 0 removal; is = delete_is; on_rows = tt; does = delete_does }

delete_typed : accepts_program whole [] every_row [] ≡ true
delete_typed = refl

-- it is never refused
unrefused : (s : State) (c : Contents) → Means s.now c → Stops list_tables DELETE_LISTS.now [] (Delete 0 removal) s → ⊥
unrefused s c means stops =
    let db = s.now.trees in
    let kept = delete_halts s.now whole means.schema 0 list_at refl []
    (statement_of DELETE_LISTS.now (understood whole DELETE_LISTS.now)) (simple.no_works 0) removal delete_typed
    (λ h. elim h [ inl over ↦ over | inr fold ↦ none_overflows _ fold ]) stops.0 stops.1 in
    let edit : Edit = record { table = list_at; gone = ids_of kept.0; news = [] } in
    removal_halts whole simple db list_at (ids_of kept.0) (inl refl) (keys_hold (with_tree db 0 (edited db edit)))
    (λ next did. all_refer whole simple next) kept.2

pub delete_fails : {X : Type 0} (old new : State) (r : Result X Fault)
    → FailsBy list_tables (HasWriteCause list_tables DELETE_LISTS.now []) old new r → RefusedFor list_tables RefusesNone old new r
delete_fails old new r h =
    refused_for list_tables DELETE_LISTS.now [] (Delete 0 removal) delete_is.0 delete_is.2 RefusesNone unrefused old new r h

-- ---- why a row is refused

pub is_put : (x : ListRow) → IsPut whole list_at (row_of x)
is_put x = record {
  listed = inl refl;
  formed = (refl, refl, refl, refl);
  short = λ fits. (storable _ (row_of x) refl exact (omega arith, omega arith) fits, omega arith);
  entries = λ fits. tt;
}
  where
    exact : AllByRecursion (λ v. is_exact v ≡ true) (row_of x)
    exact = (refl, (refl, (refl, (refl, tt))))

list_long : (x : ListRow) → 10 ^ 9 < size (row_of x) → IsTooLong (list_cells x)
list_long x long = omega (arith, long)

pub list_fails : {X : Type 0} (x : ListRow) → x.id < 2 ^ 63 → (old new : State) (r : Result X Fault)
    → FailsBy list_tables (HasWriteCause list_tables INSERT_LIST.now (list_cells x)) old new r → RefusedFor list_tables (RefusesList x) old new r
list_fails x below = insert_fails puts x (RefusesList x) (λ s. is_put x)
    (λ s c means out. never (lt-ltb x.id (2 ^ 63) below) out)
    (λ s c means taken. inl (taken_number (λ y. y.id) x.id (drop 1 (row_of x)) (λ y r is. ap (λ v. column v 0) is)
    means.kept.holds.lists taken)) (λ s c means clash. absurd (unclashed whole simple s.now.trees list_at [] (row_of x) tt clash))
    (λ s c long. inr (list_long x long))
