-- The statements on the table of runs (maximal ranges) of revoked serials.
use Rattle.store_sql.proofs.Words.{Applies, Binary, Bool, Compare, Contents, Database, Delete, Does, Enforced, Equal}
use Rattle.store_sql.proofs.Words.{Ge, Given, Has, Holds, INSERT_RUN, Insert, Int, IsAnswer, IsPermutation}
use Rattle.store_sql.proofs.Words.{IsPermutation-map, IsPermutation-refl, IsSorted, Key, Le, List, Lists, Means, None}
use Rattle.store_sql.proofs.Words.{Null, Ok, Option, Output, Program, Query, Row, RunRow, Tally, Term, Trees, Values}
use Rattle.store_sql.proofs.Words.{[], and-true, ap, ap₂, ascending, at_places, binary, codes, col, column, edit_of}
use Rattle.store_sql.proofs.Words.{everything, filter, id_in, ids_of, inl, inr, is_int, is_true, last_run, lit, map}
use Rattle.store_sql.proofs.Words.{map-map, nat_cmp, nat_le, not, op2, overlay, pos, refl, rowid, placed_run, run_cells}
use Rattle.store_sql.proofs.Words.{run_places, statement_of, subst, sym, take, tied_itself, tied_same, true, understood}
use Rattle.store_sql.proofs.Words.{value_cmp, value_cmp_total, whole, ℕ, ◌&&◌, ◌∙◌, ◌∷◌, ◌≡◌}
use Rattle.store_sql.proofs.Selects.{IsTreeOf, DescendBy, falling, number_cmp, FindSorted, select_all}
use Rattle.store_sql.proofs.FaultLemmas.{IsStatement, none_overflows}
use Rattle.store_sql.proofs.Rows.{cast_null, cast_int, le_number, ge_number}
use Rattle.store_sql.specs.Changes.{with_run}
use Rattle.store_sql.specs.Runs.{begins_between, without_runs}
use Rattle.store_sql.specs.declared.sql.TheConstants.{EVERY_RUN, LAST_RUN, DELETE_RUNS}
use Rattle.store_sql.proofs.Elsewhere.{run_apart, in_run}
use Rattle.store_sql.proofs.CallLemmas.{IsSelect, Write, Find}
use Rattle.store_sql.proofs.Edits.{of_record, of_row, left_is, filter_table}
use Rattle.store_sql.proofs.Inserts.{no_works, IsInsert, insert}
use Rattle.store_sql.proofs.Queries.{on_table, in_order, selected, chosen, lists_left, int_le_test, int_ge_test}
use Rattle.store_sql.proofs.Statements.{mode, deletes}
use Rattle.store_sql.proofs.LastRun.{falls, first_is_last, listed}
use Rattle.store_sql.proofs.FoundLemmas.{unmapped}
use Rattle.store_sql.proofs.Texts.{query, statement}

pub tree : IsTreeOf Holds run_cells run_places 6 (λ c. c.runs)
tree = record { stored = λ trees. refl; held = λ trees c h. h.runs; apart = run_apart }

-- ---- INSERT

abbrev terms : List Term
terms = col 0 0 ∷ lit Null ∷ col 0 1 ∷ []

abbrev pub run_row : RunRow → Row
run_row x = Int (pos x.lo) ∷ Null ∷ Int (pos x.hi) ∷ []

insert_is : IsStatement INSERT_RUN.now (Insert 4 (Values terms 3)) 2
unfolding everything
insert_is = statement whole INSERT_RUN.now _ 2 refl refl

pub puts : IsInsert INSERT_RUN.now run_cells run_places 4 placed_run terms 3 with_run (λ c. c.runs) (λ x rows. run_row x)
puts = record {
  tree = tree;
  found = refl;
  is = λ x. insert_is;
  source = run_row;
  sourced = λ x. (refl, refl);
  made = λ x rows. (simp (cast_int, cast_null), refl);
  held = λ x db after c h o put. in_run db after c h (x ∷ c.runs) o;
}

pub put : (x : RunRow) → Write INSERT_RUN.now (run_cells x) (with_run x)
put = insert puts

-- ---- SELECT of all runs

abbrev columns : List Term
columns = col 1 0 ∷ col 1 2 ∷ []

every_is : IsSelect whole EVERY_RUN.now (on_table 6 [] columns ((col 1 0, ascending Binary) ∷ []))
    (codes "lo" ∷ codes "hi" ∷ []) 0
unfolding everything
every_is = query whole EVERY_RUN.now _ _ 0 refl refl

pub every : FindSorted EVERY_RUN.now ([]) run_cells (λ c. c.runs) (λ r. r.lo) nat_cmp
every = select_all tree every_is (λ v. column v 0 ∷ column v 1 ∷ []) (λ x. refl) (λ r. refl) refl (λ r. refl)
    (λ x y. number_cmp x.lo y.lo)

-- no two begin with the same serial
begin_apart : (trees : Trees) (c : Contents) → Holds trees c → (x y : RunRow) → Has c.runs x → Has c.runs y
    → x.lo ≡ y.lo → x ≡ y
begin_apart trees c h x y here there equal =
    let r = of_row run_cells run_places (trees 6) c.runs x h.runs here in
    let s = of_row run_cells run_places (trees 6) c.runs y h.runs there in
    let first : rowid r.0 ≡ Int (pos x.lo) = ap (λ v. column v 0) r.2 in
    let second : rowid s.0 ≡ Int (pos x.lo) = ap (λ v. column v 0) s.2 ∙ ap (λ n. Int (pos n)) (sym equal) in
    let tie : value_cmp (rowid r.0) (rowid s.0) ≡ Equal =
    ap₂ value_cmp first second ∙ tied_itself value_cmp_total (Int (pos x.lo)) in
    let same : r.0 ≡ s.0 = tied_same (trees 6) r.0 s.0 h.runs.apart r.1 s.1 tie in
    run_apart x y (sym r.2 ∙ ap (at_places run_places) same ∙ s.2)

-- ---- SELECT of the last run that begins at or before a serial

abbrev last_sql : List ℕ
last_sql = LAST_RUN.now

abbrev low_test : List Term
low_test = op2 (Compare Le Binary) (col 1 0) (col 0 0) ∷ []

abbrev downwards : List (Term × Key)
downwards = (col 1 0, record { collation = Binary; descending = true }) ∷ []

abbrev low_query : Query
low_query = on_table 6 low_test columns downwards

abbrev last_query : Query
last_query = record low_query { limit = lit (Int (pos 1)) }

last_is : IsSelect whole last_sql last_query (codes "lo" ∷ codes "hi" ∷ []) 1
unfolding everything
last_is = query whole last_sql _ _ 1 refl refl

low_passes : (n : ℕ) (r : RunRow)
    → (is_true (binary (Compare Le Binary) (column (run_cells r) 0) (Int (pos n))) && true) ≡ nat_le r.lo n
low_passes n r = and-true _ ∙ int_le_test (pos r.lo) (pos n) ∙ le_number r.lo n

-- all runs that begin so, the last of them first
module _ (n : ℕ) (trees : Trees) (rows : List Row) (c : Contents) (h : Holds trees c)
    (answer : IsAnswer last_query (overlay trees []) (Int (pos n) ∷ []) rows) where
  low_answer : IsAnswer low_query (overlay trees []) (Int (pos n) ∷ []) (map (λ (o : Output). o.1) answer.ordered)
  low_answer = record {
    staged = answer.staged;
    grouped = answer.grouped;
    kept = answer.kept;
    distinct = answer.distinct;
    ordered = answer.ordered;
    same = answer.same;
    sorted = answer.sorted;
    shown = refl;
  }

  low_are : IsPermutation (map run_cells (filter (λ r. nat_le r.lo n) c.runs)) (map (λ (o : Output). o.1) answer.ordered)
  low_are = chosen run_cells run_cells (λ r. nat_le r.lo n) run_places
      (λ v. is_true (binary (Compare Le Binary) (column v 0) (Int (pos n))) && true) (λ v. column v 0 ∷ column v 1 ∷ [])
      (λ x. low_passes n x) (λ x. refl) (trees 6) (map (λ (o : Output). o.1) answer.ordered) c.runs h.runs
      (selected 6 low_test columns downwards trees (Int (pos n) ∷ [])
      (map (λ (o : Output). o.1) answer.ordered) refl low_answer)

  low_fall : DescendBy 0 (map (λ (o : Output). o.1) answer.ordered)
  low_fall = in_order 6 low_test columns downwards trees (Int (pos n) ∷ [])
      (map (λ (o : Output). o.1) answer.ordered) (λ v. column v 0 ∷ []) (λ r. refl) refl low_answer

  last_answers : IsPermutation (map run_cells (listed (last_run n c))) rows
  last_answers =
      let all = unmapped run_cells (filter (λ r. nat_le r.lo n) c.runs) (map (λ (o : Output). o.1) answer.ordered) low_are in
      let down : IsSorted falls all.0 = falling all.0 (subst (DescendBy 0) all.2 low_fall) in
      let one : take 1 all.0 ≡ listed (last_run n c) =
      first_is_last n c.runs all.0 (begin_apart trees c h) all.1 down in
      let shown : rows ≡ map run_cells (take 1 all.0) = answer.shown ∙ ap (take 1) all.2 ∙ taken all.0 in
      subst (IsPermutation (map run_cells (listed (last_run n c)))) (sym (shown ∙ ap (map run_cells) one)) (IsPermutation-refl _)
    where
      taken : (zs : List RunRow) → take 1 (map run_cells zs) ≡ map run_cells (take 1 zs)
      taken [] = refl
      taken (z ∷ zs) = refl

pub last : (n : ℕ) → Find last_sql (Int (pos n) ∷ []) run_cells (λ c. listed (last_run n c))
last n = record {
  query = last_query;
  names = codes "lo" ∷ codes "hi" ∷ [];
  is = last_is;
  typed = refl;
  sure = λ trees h. elim h [ inl over ↦ over | inr fold ↦ none_overflows _ fold ];
  apart = run_apart;
  answers = last_answers n;
}

-- ---- DELETE

abbrev pub tests : List Term
tests = op2 (Compare Ge Binary) (col 1 0) (col 0 0) ∷ op2 (Compare Le Binary) (col 1 0) (col 0 1) ∷ []

abbrev pub passes : RunRow → Row → Bool
passes ends v = is_true (binary (Compare Ge Binary) (column v 0) (Int (pos ends.lo))) &&
    (is_true (binary (Compare Le Binary) (column v 0) (Int (pos ends.hi))) && true)

passes_is : (ends r : RunRow) → passes ends (run_cells r) ≡ begins_between ends r
passes_is ends r = ap₂ ◌&&◌ (int_ge_test (pos r.lo) (pos ends.lo) ∙ ge_number r.lo ends.lo)
    (and-true _ ∙ int_le_test (pos r.lo) (pos ends.hi) ∙ le_number r.lo ends.hi)

abbrev pub delete_sql : List ℕ
delete_sql = DELETE_RUNS.now

abbrev pub delete_query : Query
delete_query = on_table 6 tests (col 1 0 ∷ []) []

abbrev pub delete_program : Program
delete_program = record { lets = []; body = delete_query }

pub delete_is : IsStatement delete_sql (Delete 4 delete_program) 2
unfolding everything
delete_is = statement whole delete_sql _ 2 refl refl

abbrev pub hit : RunRow → Row → Bool
hit ends r = passes ends (at_places run_places r)

left_runs : (ends : RunRow) (c : Contents) (db after : Trees) (rows : List Row) → Holds db c
    → IsAnswer delete_query (overlay db []) (run_cells ends) rows
    → Applies whole Enforced db (edit_of db placed_run (ids_of rows) Given 0 []) after
    → Lists run_cells run_places (after 6) (filter (λ r. not (begins_between ends r)) c.runs)
left_runs ends c db after rows h answer did =
    let all = selected 6 tests (col 1 0 ∷ []) [] db (run_cells ends) rows refl answer in
    let ids : IsPermutation (map (λ r. id_in (rowid r)) (filter (hit ends) (db 6))) (ids_of rows) =
    subst (λ l. IsPermutation l (ids_of rows))
    (map-map (λ r. id_in (rowid r)) (λ r. column r 0 ∷ []) (filter (hit ends) (db 6)))
    (IsPermutation-map (λ r. id_in (rowid r)) _ _ all) in
    let ints = λ (r : Row) (here : Has (db 6) r).
    let it = of_record run_cells run_places (db 6) c.runs r h.runs here in
    let id : column r 0 ≡ Int (pos it.0.lo) = ap (λ v. column v 0) it.2 in ap is_int id in
    let left : after 6 ≡ filter (λ r. not (hit ends r)) (db 6) = did.rows
    ∙ left_is (hit ends) (db 6) h.runs.apart ints (ids_of rows) ids in
    record {
      same = rw left (lists_left run_cells (λ r. not (begins_between ends r)) run_places (λ v. not (passes ends v))
          (λ r. ap not (passes_is ends r)) (db 6) c.runs h.runs);
      apart = rw left (filter_table _ (db 6) h.runs.apart);
    }

delete_does : (ends : RunRow) (limit : Option ℕ) (db next : Database) (tally : Tally) (c : Contents) → Means db c
    → Does limit mode (run_cells ends) db (statement_of delete_sql (understood whole delete_sql)) None
    (Delete 4 delete_program) (Ok (tally, next)) → (next.schema ≡ whole) × Holds next.trees (without_runs ends c)
delete_does ends limit db next tally c means h =
    let did = deletes limit db next tally whole means.schema 4 placed_run refl (run_cells ends)
    (statement_of delete_sql (understood whole delete_sql)) delete_program h (no_works 6) in
    let left = left_runs ends c db.trees next.trees did.0 means.kept.holds (did.1.answer Null) did.2 in (
      did.3,
      in_run db.trees next.trees c means.kept.holds (filter (λ r. not (begins_between ends r)) c.runs) did.2.tables left,
    )

pub delete : (ends : RunRow) → Write delete_sql (run_cells ends) (without_runs ends)
delete ends = record { command = Delete 4 delete_program; is = delete_is; on_rows = tt; does = delete_does ends }
