-- The statements on the table of departments.
use Rattle.store_sql.proofs.Words.{Abort, Applies, AreConflicts, Binary, Bool, Chosen, Command, Compare, Contents}
use Rattle.store_sql.proofs.Words.{Database, DepartmentRow, Does, Enforced, Eq, Given, Has, Holds, InsertOr, IsNumber}
use Rattle.store_sql.proofs.Words.{IsPermutation, IsPermutation-cons, IsPermutation-map, IsPermutation-trans, IsTable}
use Rattle.store_sql.proofs.Words.{IsTable-put_row, Kept, List, Means, Ne, None, Null, Ok, Option, Program, Query, Row}
use Rattle.store_sql.proofs.Words.{Some, Tally, Term, Text, Trees, Unique, Values, [], all-permutation, all_from}
use Rattle.store_sql.proofs.Words.{all_has, and-true, and_parts, ap, arith, ascending, at_places, binary}
use Rattle.store_sql.proofs.Words.{bytes_eq-Decides, cases_Bool, cast_row, codes, col, column, placed_department}
use Rattle.store_sql.proofs.Words.{department_cells, department_places, edit_of, everything, false, filter, first_key}
use Rattle.store_sql.proofs.Words.{has_filtered, has_name, ids_of, inl, inr, is_eq, is_int, is_true, length}
use Rattle.store_sql.proofs.Words.{length_permutation, list_any, lit, map, nat_cmp, next_rowid, not, op2, pos, refl}
use Rattle.store_sql.proofs.Words.{rowid, shown, slice_cmp, statement_of, subst, subst₂, sym, tied_itself, tied_same}
use Rattle.store_sql.proofs.Words.{true, understood, value_cmp, value_cmp_total, whole, with_rowid, ℕ, ◌&&◌, ◌++◌, ◌∙◌}
use Rattle.store_sql.proofs.Words.{◌∷◌, ◌≡◌}
use Rattle.std.proofs.Math.Bool.{or-false}
use Rattle.std.proofs.lemmas.Bool.{not-true}
use Rattle.store_sql.proofs.Upserts.{Upserted, upserts}
use Rattle.std.proofs.lemmas.List.Filters.{length-filter_both}
use Rattle.store_sql.proofs.Rows.{ints_of, more_numbered, next_number, still_numbered, cast_null, cast_int, put_adds}
use Rattle.store_sql.proofs.Rows.{and_first, eq_tie, ne_tie, not_ne, none_passes, only_one, own_text}
use Rattle.sqlite_rules.specs.Keys.{conflicts}
use Rattle.store_sql.specs.Changes.{with_department_row, departments_named}
use Rattle.store_sql.specs.declared.sql.TheConstants.{PUT_DEPARTMENT, FIND_DEPARTMENT, EVERY_DEPARTMENT}
use Rattle.store_sql.proofs.CallLemmas.{IsSelect, Write, Find}
use Rattle.store_sql.proofs.Edits.{keep_all, equal_is, filter_alike, of_record, updated, updated_apart}
use Rattle.store_sql.proofs.Elsewhere.{in_department, department_apart}
use Rattle.store_sql.proofs.Inserts.{no_works}
use Rattle.store_sql.proofs.Queries.{on_table, selected, lists_left, text_test}
use Rattle.store_sql.proofs.Statements.{mode}
use Rattle.store_sql.proofs.FaultLemmas.{IsStatement}
use Rattle.store_sql.proofs.Selects.{IsTreeOf, select, text_cmp, FindSorted, select_all}
use Rattle.store_sql.proofs.Texts.{query, statement}

abbrev pub put_sql : List ℕ
put_sql = PUT_DEPARTMENT.now

abbrev pub terms : List Term
terms = lit Null ∷ col 0 0 ∷ col 0 1 ∷ col 0 2 ∷ col 0 3 ∷ col 0 4 ∷ col 0 5 ∷ col 0 6 ∷ col 0 7 ∷ []

-- the parameters from 0, the rowid of the existing row at 8, that of the new row at 9, and the new columns from 10
abbrev pub put_query : Query
put_query = on_table 1 (op2 (Compare Eq Binary) (col 1 0) (col 0 8) ∷ [])
    (col 1 0 ∷ col 1 0 ∷ col 1 1 ∷ col 0 11 ∷ col 0 12 ∷ col 0 13 ∷ col 0 14 ∷ col 0 15 ∷ col 0 16 ∷ col 0 17 ∷ []) []

abbrev pub put_program : Program
put_program = record { lets = []; body = put_query }

abbrev pub put_command : Command
put_command = InsertOr 1 Abort (Values terms 9) (record { target = Some (1 ∷ []); update = Some put_program } ∷ [])

pub put_is : IsStatement put_sql put_command 8
unfolding everything
put_is = statement whole put_sql _ 8 refl refl

-- whether the row has the name
abbrev pub named : List ℕ → Row → Bool
named name r = is_true (binary (Compare Eq Binary) (column r 1) (Text name)) && true

module _ (d : DepartmentRow) where
  abbrev pub source : Row
  source = Null ∷ department_cells d

  abbrev pub fresh_row : List Row → Row
  fresh_row rows = with_rowid Chosen rows (cast_row placed_department source)

  -- the conflicting rows are those with the name
  pub conflict_is : (rows : List Row) (r : Row) → conflicts (Some (1 ∷ [])) whole.indexes placed_department (fresh_row rows) r
      ≡ named d.name r
  unfolding first_key
  conflict_is rows r = rw cast_null (or-false _)

  -- a row after an update, if this is the new row that conflicted
  abbrev pub next_row : Row → Row → Row
  next_row new r = column r 0 ∷ column r 1 ∷ column new 2 ∷ column new 3 ∷ column new 4 ∷ column new 5 ∷ column new 6
      ∷ column new 7 ∷ column new 8 ∷ []

  put_in : (rows : List Row) → at_places department_places (cast_row placed_department (fresh_row rows)) ≡
      department_cells d
  put_in rows = rw cast_null (simp cast_int)

  put_over : (rows : List Row) (r : Row) → column r 1 ≡ Text d.name
      → at_places department_places (cast_row placed_department (next_row (fresh_row rows) r)) ≡ department_cells d
  put_over rows r is = rw (cast_null, is) (simp cast_int)

  -- if no row conflicts, none has the name
  pub none_named : (rows : List Row) → AreConflicts (Some (1 ∷ [])) whole.indexes placed_department rows (fresh_row rows) []
      → (r : Row) → Has rows r → named d.name r ≡ false
  none_named rows none r here = elim (cases_Bool (named d.name r))
      [ inl hit ↦ absurd (none.complete r here (conflict_is rows r ∙ hit)) | inr miss ↦ miss ]

  -- the row of the new struct, besides those with other names
  replaced : (c : Contents) (db after : Trees) (new : Row) → Holds db c
      → at_places department_places new ≡ department_cells d
      → IsPermutation (new ∷ filter (λ r. not (named d.name r)) (db 1)) (after 1)
      → IsPermutation (map department_cells (d ∷ filter (λ e. not (has_name d.name e)) c.departments))
      (map (at_places department_places) (after 1))
  replaced c db after new h is put =
      let left = filter (λ r. not (named d.name r)) (db 1) in
      let others = filter (λ e. not (has_name d.name e)) c.departments in
      let rest : IsPermutation (map department_cells others) (map (at_places department_places) left) =
      lists_left department_cells (λ e. not (has_name d.name e)) department_places
      (λ v. not (is_true (binary (Compare Eq Binary) (column v 0) (Text d.name)) && true))
      (λ e. ap not (and-true _ ∙ text_test e.name d.name)) (db 1) c.departments h.departments in
      IsPermutation-trans _ _ _ (subst (λ v. IsPermutation (department_cells d ∷ map department_cells others)
      (v ∷ map (at_places department_places) left)) (sym is) (IsPermutation-cons (department_cells d) _ _ rest))
      (IsPermutation-map (at_places department_places) _ _ put)

  -- the row that is inserted if none conflicts
  put_new : (c : Contents) (db after : Trees) → Holds db c
      → AreConflicts (Some (1 ∷ [])) whole.indexes placed_department (db 1) (fresh_row (db 1)) []
      → Applies whole Enforced db (edit_of db placed_department [] Given 0 (fresh_row (db 1) ∷ [])) after
      → Holds after (with_department_row d c)
  put_new c db after h none did =
      let new = cast_row placed_department (fresh_row (db 1)) in
      let left : filter (λ r. not (named d.name r)) (db 1) ≡ db 1 =
      filter_alike (λ r. not (named d.name r)) (λ r. true) (db 1) (λ r here. ap not (none_named (db 1) none r here))
      ∙ keep_all (db 1) in
      let put : IsPermutation (new ∷ db 1) (after 1) = subst (IsPermutation (new ∷ db 1)) (sym did.rows)
      (put_adds new (db 1) (and_first _ _ did.fresh)) in
      in_department db after c h _ did.tables
      (record {
        same = replaced c db after new h (put_in (db 1))
            (subst (λ l. IsPermutation (new ∷ l) (after 1)) (sym left) put);
        apart = subst IsTable (sym did.rows) (IsTable-put_row new (db 1) h.departments.apart);
      })
      (more_numbered (db 1) (after 1) new put
      (rw (cast_null, cast_int (next_rowid (db 1))) (next_number (db 1) h.departments_numbered)) h.departments_numbered)

  -- if there is a row with the name
  module _ (c : Contents) (db : Trees) (kept : Kept db c) (r0 : Row) (here0 : Has (db 1) r0)
      (hit0 : named d.name r0 ≡ true) where
    abbrev h : Holds db c
    h = kept.holds

    abbrev new : Row
    new = fresh_row (db 1)

    ints : (r : Row) → Has (db 1) r → is_int (rowid r) ≡ true
    ints r here = all_has (λ r. is_int (rowid r) ≡ true) (db 1) r (ints_of (db 1) h.departments_numbered) here

    pub name_is : (r : Row) → Has (db 1) r → named d.name r ≡ true → column r 1 ≡ Text d.name
    name_is r here hit =
        let it = of_record department_cells department_places (db 1) c.departments r h.departments here in
        let name : column r 1 ≡ Text it.0.name = ap (λ v. column v 0) it.2 in
        let test : is_true (binary (Compare Eq Binary) (Text it.0.name) (Text d.name)) ≡ true =
        (rw (← name) (and_parts _ _ hit).0) in
        name ∙ ap Text ((bytes_eq-Decides it.0.name d.name).0 (sym (text_test it.0.name d.name) ∙ test))

    -- another row with the name would break the rule that names are unique
    pub unique : (r : Row) → Has (db 1) r → named d.name r ≡ true → is_eq (value_cmp (rowid r) (rowid r0)) ≡ true
    unfolding first_key
    unique r here hit =
        let rule = all_has _ (db 1) r0 (kept.sound.obeys.rules Unique).1.0 here0 in
        let clear : list_any (λ other. (is_true (binary (Compare Eq Binary) (column other 1) (column r0 1)) && true)
        && is_true (binary (Compare Ne Binary) (rowid other) (rowid r0))) (db 1) ≡ false = not-true _
        (and_parts _ _ rule).0 in
        let mine = none_passes _ (db 1) clear r here in
        let same : is_true (binary (Compare Eq Binary) (column r 1) (column r0 1)) ≡ true = rw
        (name_is r here hit, name_is r0 here0 hit0) (own_text d.name) in
        let apart : is_true (binary (Compare Ne Binary) (rowid r) (rowid r0)) ≡ false = rw same at mine in
        not_ne (value_cmp (rowid r) (rowid r0))
        (sym (ne_tie (rowid r) (rowid r0) (ints r here) (ints r0 here0)) ∙ apart)

    -- whether the row has the rowid of that row
    abbrev pub has_id : Row → Bool
    has_id r = is_true (binary (Compare Eq Binary) (column r 0) (rowid r0)) && true

    id_is : (r : Row) → Has (db 1) r → has_id r ≡ is_eq (value_cmp (rowid r) (rowid r0))
    id_is r here = and-true _ ∙ eq_tie (rowid r) (rowid r0) (ints r here) (ints r0 here0)

    pub the_row : (r : Row) → Has (db 1) r → has_id r ≡ true → r ≡ r0
    the_row r here hit = tied_same (db 1) r r0 h.departments.apart here here0 (equal_is _ (sym (id_is r here) ∙ hit))

    pub own_row : has_id r0 ≡ true
    own_row = id_is r0 here0 ∙ ap is_eq (tied_itself value_cmp_total (rowid r0))

    same_rows : (r : Row) → Has (db 1) r → has_id r ≡ named d.name r
    same_rows r here = elim (cases_Bool (named d.name r)) [
      | inl hit ↦ id_is r here ∙ unique r here hit ∙ sym hit
      | inr miss ↦ elim (cases_Bool (has_id r)) [
        | inl found ↦ absurd (let wrong : true ≡ false = sym hit0 ∙ ap (named d.name) (sym (the_row r here found))
            ∙ miss in cc)
        | inr lost ↦ lost ∙ sym miss
      ]
    ]

    -- the row that replaces it
    put_same : (after : Trees) (rows : List Row) → IsPermutation
        (map (λ r. rowid r ∷ next_row new r) (filter has_id (db 1))) rows
        → Applies whole Enforced db (edit_of db placed_department (ids_of rows) Given 1 rows) after
        → Holds after (with_department_row d c)
    put_same after rows all did =
        let next = cast_row placed_department (next_row new r0) in
        let one : filter has_id (db 1) ≡ r0 ∷ [] = only_one has_id (db 1) r0 h.departments.apart here0 own_row the_row
        in
        let left : filter (λ r. not (has_id r)) (db 1) ≡ filter (λ r. not (named d.name r)) (db 1) = filter_alike _ _
        (db 1) (λ r here. ap not (same_rows r here)) in
        let moved = updated whole placed_department db after rows has_id (next_row new) h.departments.apart ints all did in
        let put : IsPermutation (next ∷ filter (λ r. not (named d.name r)) (db 1)) (after 1) =
        subst₂ (λ f l. IsPermutation (map (λ r. cast_row placed_department (next_row new r)) f ++ l) (after 1)) one left
        moved in
        let rest = filter (λ r. not (named d.name r)) (db 1) in
        let was = all_has (λ r. IsNumber (length (db 1)) (rowid r)) (db 1) r0 h.departments_numbered here0 in
        let id : IsNumber (length (db 1)) (rowid next) = rw was.1 (rw (cast_int (pos was.0)) (was.0, refl, was.2)) in
        let count : length (after 1) ≡ length (db 1) =
        let all_of = length_permutation (next ∷ rest) (after 1) put in
        let others = ap (λ (l : List Row). length l) left in
        let alone = ap (λ (l : List Row). length l) one in
        let both = length-filter_both has_id (λ r. not (has_id r)) (λ r. refl) (db 1) in
        omega (arith, all_of, others, alone, both) in
        in_department db after c h _ did.tables
        (record {
          same = replaced c db after next h (put_over (db 1) r0 (name_is r0 here0 hit0)) put;
          apart = updated_apart whole placed_department db after rows has_id (next_row new) h.departments.apart ints all
              did;
        })
        (still_numbered (db 1) (after 1) count
        (all-permutation (λ r. IsNumber (length (db 1)) (rowid r)) (next ∷ rest) (after 1) put (
          id,
          all_from (λ r. IsNumber (length (db 1)) (rowid r)) rest (λ r here.
              all_has (λ r. IsNumber (length (db 1)) (rowid r)) (db 1) r h.departments_numbered
              (has_filtered (λ r. not (named d.name r)) (db 1) r here).0),
        )))

  put_does : (limit : Option ℕ) (db next : Database) (tally : Tally) (c : Contents) → Means db c
      → Does limit mode (department_cells d) db (statement_of put_sql (understood whole put_sql)) None put_command
      (Ok (tally, next)) → (next.schema ≡ whole) × Holds next.trees (with_department_row d c)
  put_does limit db next tally c means did =
      let it = upserts limit db next tally whole means.schema 1 placed_department refl (department_cells d)
      (statement_of put_sql (understood whole put_sql)) (Some (1 ∷ [])) put_program
      (no_works 1) terms 9 source refl did in
      (it.1, go it.0)
    where
      go : Upserted limit db next tally whole means.schema 1 placed_department refl (department_cells d)
          (statement_of put_sql (understood whole put_sql)) (Some (1 ∷ [])) put_program
          (no_works 1) (fresh_row (db.trees 1)) next.trees → Holds next.trees (with_department_row d c)
      go (inl it) = put_new c db.trees next.trees means.kept.holds it.0 it.1
      go (inr it) =
          let there = it.0 in
          let met = it.2.sound there (inl refl) in
          let hit : named d.name met.0 ≡ true = sym (conflict_is (db.trees 1) met.0) ∙ met.2 in
          let params = department_cells d ++ rowid there ∷ shown placed_department (fresh_row (db.trees 1)) in
          let all = selected 1 _ _ [] db.trees params it.3 refl (it.4.answer Null) in
          put_same c db.trees means.kept met.0 met.1 hit next.trees it.3 (rw (met.3) at all) it.5

pub put : (d : DepartmentRow) → Write put_sql (department_cells d) (with_department_row d)
put d = record { command = put_command; is = put_is; on_rows = tt; does = put_does d }

-- ---- SELECT of one department

abbrev columns : List Term
columns = col 1 1 ∷ col 1 2 ∷ col 1 3 ∷ col 1 4 ∷ col 1 5 ∷ col 1 6 ∷ col 1 7 ∷ col 1 8 ∷ []

abbrev columns_shown : Row → Row
columns_shown v = column v 0 ∷ column v 1 ∷ column v 2 ∷ column v 3 ∷ column v 4 ∷ column v 5 ∷ column v 6 ∷ column v 7
    ∷ []

abbrev names : List (List ℕ)
names = codes "name" ∷ codes "kind" ∷ codes "admins" ∷ codes "rules" ∷ codes "options" ∷ codes "extensions"
    ∷ codes "maxlife" ∷ codes "namespaces" ∷ []

pub tree : IsTreeOf Holds department_cells department_places 1 (λ c. c.departments)
tree = record { stored = λ trees. refl; held = λ trees c h. h.departments; apart = department_apart }

find_is : IsSelect whole FIND_DEPARTMENT.now
    (on_table 1 (op2 (Compare Eq Binary) (col 1 1) (col 0 0) ∷ []) columns []) names 1
unfolding everything
find_is = query whole FIND_DEPARTMENT.now _ _ 1 refl refl

pub find : (name : List ℕ) → Find FIND_DEPARTMENT.now (Text name ∷ []) department_cells (departments_named name)
find name = select tree find_is (has_name name)
    (λ v. is_true (binary (Compare Eq Binary) (column v 0) (Text name)) && true) columns_shown
    (λ x. and-true _ ∙ text_test x.name name) (λ x. refl) (λ r. refl) (λ r. refl) refl (λ c. refl)

-- ---- SELECT of all departments

every_is : IsSelect whole EVERY_DEPARTMENT.now (on_table 1 [] columns ((col 1 1, ascending Binary) ∷ [])) names 0
unfolding everything
every_is = query whole EVERY_DEPARTMENT.now _ _ 0 refl refl

pub every : FindSorted EVERY_DEPARTMENT.now ([]) department_cells (λ c. c.departments) (λ d. d.name) (slice_cmp nat_cmp)
every = select_all tree every_is columns_shown (λ x. refl) (λ r. refl) refl (λ r. refl) (λ x y. text_cmp x.name y.name)
