-- UPDATE of the struct with one number, in any table: the contents after it, and why it is refused.
use Rattle.rows.proofs.Words.{All, AllByRecursion, Applies, BadReference, Binary, Bool, Check, Command, Compare}
use Rattle.rows.proofs.Words.{Database, Datatype, Does, Edit, Enforced, Eq, FailsBy, Fault, ForeignKey, Given, Has}
use Rattle.rows.proofs.Words.{HasOne, Int, IsPermutation, IsTooLong, Keeps, List, Lists, Mismatch, NoRowid, None}
use Rattle.rows.proofs.Words.{NotNull, Null, Ok, Option, PrimaryKey, Program, Refers, RefusedFor, Result, Row, Some}
use Rattle.rows.proofs.Words.{State, Table, Tally, Term, TooDeep, Trees, Unique, Update, Violates, accepts_program}
use Rattle.rows.proofs.Words.{all_has, and-true, ap, at_places, binary, cases_Bool, cast_row, column, cond, edit_of}
use Rattle.rows.proofs.Words.{eqb-true, eval_all, false, filter, fits_i64, guards, holds, id_in, ids_of, inl, inr}
use Rattle.rows.proofs.Words.{is_int, is_true, length, list_all, map, nat_lt, pos, references_fit, refl, rowid}
use Rattle.rows.proofs.Words.{slice_get, statement_of, subst, sym, true, understood, with_tree, [], ℕ, ℤ, ◌&&◌, ◌<◌}
use Rattle.rows.proofs.Words.{◌==◌, ◌^◌, ◌∙◌, ◌∷◌, ◌≡◌}
use Rattle.guard_sql.proofs.Words.{Contents, Holds, Means, whole}
use Rattle.rows.proofs.Reasons.{IsPut, halted, one, removal_halts, unclashed}
use Rattle.sqlite_rules.specs.Edit.{edited}
use Rattle.rows.proofs.CallLemmas.{Write}
use Rattle.rows.proofs.Edits.{Spares, lists_changed}
use Rattle.guard_sql.proofs.Elsewhere.{simple}
use Rattle.rows.proofs.FaultLemmas.{HasWriteCause, IsStatement, Stops, refused_for}
use Rattle.rows.proofs.Inserts.{all_refer}
use Rattle.store_sql.proofs.FaultLemmas.{none_overflows}
use Rattle.store_sql.proofs.NumberUpdates.{IsSole, freed, picked}
use Rattle.store_sql.proofs.Reasons.{size}
use Rattle.store_sql.proofs.Rows.{same_number}
use Rattle.store_sql.proofs.Queries.{int_test, on_table, selected}
use Rattle.store_sql.proofs.Selects.{IsTreeOf}
use Rattle.store_sql.proofs.Statements.{mode, uncounted, updates}
use Rattle.store_sql.proofs.Stops.{IsHalted, update_halts}
use Rattle.sqlite_rules.proofs.RuleLemmas.{keeps_same}
use Rattle.sqlite_schema.specs.Rules.{Obeys}
use Rattle.guard_sql.specs.Contents.{guard_tables}

-- ---- no row at all

same_trees : (db : Trees) (tree t : ℕ) → with_tree db tree (db tree) t ≡ db t
same_trees db tree t = elim (cases_Bool (t == tree)) [
  | inl same ↦ rw same (ap db (sym (eqb-true t tree same)))
  | inr apart ↦ rw apart refl
]

-- an edit of no row is made
pub nothing_halts : (db : Trees) (table : Table) → Obeys whole db → Has whole.tables table
    → IsHalted whole db (record { table = table; gone = []; news = [] }) → ⊥
nothing_halts db table obeys listed = removal_halts whole simple db table [] listed
    (keeps_same whole db (with_tree db table.tree (db table.tree)) (λ t known. same_trees db table.tree t.tree) Unique
    (obeys.rules Unique)) (λ next did. all_refer whole simple next)

-- ---- UPDATE

-- the text that changes the struct with this number in this way
pub record IsUpdate {X : Type 0} (sql : List ℕ) (params : Row) (cells : X → Row) (places : List ℕ) (at : ℕ)
    (table : Table)
    (tests project : List Term) (of : Contents → List X) (after : Contents → Contents) (number : X → ℕ) (n : ℕ)
    (u : X → X) (row : X → Row) : Type 0 where
  pub tree : IsTreeOf Holds cells places table.tree of
  pub found : slice_get whole.tables at ≡ Some (uncounted table)
  pub is : IsStatement guard_tables sql (Update at (record { lets = []; body = on_table table.tree tests project [] }))
      (length params)
  pub typed : accepts_program whole [] (on_table table.tree tests project []) params ≡ true
  -- the new row from a row's columns, and its columns
  pub next : Row → Row
  pub change : Row → Row
  pub on_row : (r : Row) → (column (at_places places r) 0 ≡ rowid r) × (list_all (holds (params ∷ r ∷ [])) tests
      ≡ (is_true (binary (Compare Eq Binary) (column (at_places places r) 0) (Int (pos n))) && true))
      × (eval_all project (params ∷ r ∷ []) ≡ rowid r ∷ next (at_places places r))
  pub on_struct : (x : X) → (column (cells x) 0 ≡ Int (pos (number x))) × (change (cells x) ≡ cells (u x))
      × (at_places places (row x) ≡ cells x)
  pub made : (x : X) → cast_row (uncounted table) (next (cells x)) ≡ row (u x)
  pub held : (db next : Trees) (c : Contents) → Holds db c → Spares whole table.tree db next
      → Lists cells places (next table.tree) (map (λ x. cond (number x == n) (u x) x) (of c)) → Holds next (after c)

module _ {X : Type 0} {sql : List ℕ} {params : Row} {cells : X → Row} {places : List ℕ} {at : ℕ} {table : Table}
    {tests project : List Term} {of : Contents → List X} {after : Contents → Contents} {number : X → ℕ} {n : ℕ}
    {u : X → X} {row : X → Row}
    (it : IsUpdate sql params cells places at table tests project of after number n u row) where
  abbrev program : Program
  program = record { lets = []; body = on_table table.tree tests project [] }

  abbrev command : Command
  command = Update at program

  abbrev passes : Row → Bool
  passes v = is_true (binary (Compare Eq Binary) (column v 0) (Int (pos n))) && true

  abbrev next_row : Row → Row
  next_row r = it.next (at_places places r)

  is_made : (x : X) (r : Row) → at_places places r ≡ cells x → cast_row (uncounted table) (next_row r) ≡ row (u x)
  is_made x r is = ap (λ v. cast_row (uncounted table) (it.next v)) is ∙ it.made x

  tested : (x : X) → passes (cells x) ≡ (number x == n)
  tested x = rw (it.on_struct x).0 (and-true _ ∙ int_test (pos (number x)) (pos n) ∙ same_number (number x) n)

  numbered : (x : X) (r : Row) → at_places places r ≡ cells x → rowid r ≡ Int (pos (number x))
  numbered x r is = sym ((it.on_row r).0) ∙ ap (λ v. column v 0) is ∙ (it.on_struct x).0

  back : (x : X) (r : Row) → at_places places r ≡ cells x
      → at_places places (cast_row (uncounted table) (next_row r)) ≡ it.change (at_places places r)
  back x r is = ap (at_places places) (is_made x r is) ∙ (it.on_struct (u x)).2 ∙ sym (it.on_struct x).1 ∙ sym
      (ap it.change is)

  -- the rows that the query shows
  shown : (trees : Trees) (rows : List Row) → IsPermutation (map (λ r. eval_all project (params ∷ r ∷ []))
      (filter (λ r. list_all (holds (params ∷ r ∷ [])) tests) (trees table.tree))) rows
      → IsPermutation (map (λ r. rowid r ∷ next_row r) (filter (λ r. passes (at_places places r))
      (trees table.tree))) rows
  shown trees rows = subst (λ l. IsPermutation l rows)
      (λ i. map (λ r. (it.on_row r).2 i) (filter (λ r. (it.on_row r).1 i) (trees table.tree)))

  does : (limit : Option ℕ) (db next : Database) (tally : Tally) (c : Contents) → Means db c
      → Does limit mode params db (statement_of sql (understood whole sql)) None command (Ok (tally, next))
      → (next.schema ≡ whole) × Holds next.trees (after c)
  does limit db next tally c means h =
      let did = updates limit db next tally whole means.schema at table it.found params
      (statement_of sql (understood whole sql)) program h (simple.no_works table.tree) in
      let all = selected table.tree tests project [] db.trees params did.0 (it.tree.stored db.trees)
      (did.1.answer Null) in
      let now = lists_changed whole cells places (uncounted table) db.trees next.trees did.0 (of c)
      (λ x. number x == n) u passes it.change next_row tested (λ x. (it.on_struct x).1)
      (λ x r is. ap is_int (numbered x r is)) back
      (it.tree.held db.trees c means.kept.holds) (shown db.trees did.0 all) did.2 in (
        did.3,
        it.held db.trees next.trees c means.kept.holds did.2.tables now,
      )

  pub update : Write guard_tables sql params after
  update = record { command = Update at program; is = it.is; on_rows = tt; does = does }

  -- it is refused if the struct is then too long: its number stays
  module _ (listed : Has whole.tables (uncounted table)) (fits : fits_i64 (pos n) ≡ true)
      (same : (x : X) → number (u x) ≡ number x) (row_number : (x : X) → rowid (row x) ≡ Int (pos (number x)))
      (long : (x : X) → 10 ^ 9 < size (row x) → IsTooLong (cells x))
      (unindexed : AllByRecursion (λ i. guards i (uncounted table) ≡ true → ⊥) whole.indexes)
      (put : (x : X) → IsPut whole (uncounted table) (row x))
    where
      hits : (x : X) (r : Row) → at_places places r ≡ cells x → passes (at_places places r) ≡ true → number x ≡ n
      hits x r is h = eqb-true (number x) n (sym (tested x) ∙ ap passes (sym is) ∙ h)

      over : (s : State) (c : Contents) (means : Means s.now c) (rows : List Row)
          → IsHalted whole s.now.trees (edit_of s.now.trees (uncounted table) (ids_of rows) Given 1 rows)
          → IsSole cells places number n (s.now.trees table.tree) (of c) (λ r. passes (at_places places r))
          (λ r. rowid r ∷ next_row r) (it.tree.held s.now.trees c means.kept.holds) numbered hits rows
          → HasOne (λ x. (number x ≡ n) × IsTooLong (cells (u x))) (of c)
      over s c means rows halts (inl none) =
          absurd (nothing_halts s.now.trees (uncounted table) means.kept.sound.obeys listed
          (subst (λ rs. IsHalted whole s.now.trees (edit_of s.now.trees (uncounted table)
          (ids_of rs) Given 1 rs)) none halts))
      over s c means rows halts (inr (x, has, is_n, r, here, is, alone)) =
          let db = s.now.trees in
          let t = uncounted table in
          let new = row (u x) in
          let id : rowid r ≡ Int (pos n) = numbered x r is ∙ ap (λ k. Int (pos k)) is_n in
          let new_id : rowid new ≡ Int (pos n) = row_number (u x) ∙ ap (λ k. Int (pos k)) (same x ∙ is_n) in
          let step = subst (λ rs. IsHalted whole db (edit_of db t (ids_of rs) Given 1 rs)) alone halts in
          let at_id = subst (λ v. IsHalted whole db (one db t (id_in v ∷ []) (cast_row t (next_row r)))) id step in
          let stopped = subst (λ row. IsHalted whole db (one db t (pos n ∷ []) row)) (is_made x r is) at_id in
          halted whole simple db t (pos n ∷ []) new (put (u x)) (it.tree.held db c means.kept.holds).apart
          (means.kept.sound.obeys.rules Unique)
          (λ out. absurd (let wrong : true ≡ false = sym fits ∙ ap (λ v. fits_i64 (id_in v)) (sym new_id) ∙ out in cc))
          (λ taken. absurd (freed (db table.tree) (pos n) new new_id taken))
          (λ clash. absurd (unclashed whole simple db t (pos n ∷ []) new unindexed clash)) (λ big. (x, has, (is_n, long (u x) big)))
          (λ next did broken. absurd (broken (all_refer whole simple next))) stopped

      refuses : (s : State) (c : Contents) → Means s.now c → Stops guard_tables sql params command s
          → HasOne (λ x. (number x ≡ n) × IsTooLong (cells (u x))) (of c)
      refuses s c means stops =
          let q = on_table table.tree tests project [] in
          let kept = update_halts s.now whole means.schema at table it.found params
          (statement_of sql (understood whole sql)) (simple.no_works table.tree) (record { lets = []; body = q }) it.typed
          (λ h. elim h [ inl over ↦ over | inr fold ↦ none_overflows _ fold ]) stops.0 stops.1 in
          let all = selected table.tree tests project [] s.now.trees params kept.0 (it.tree.stored s.now.trees)
          (kept.1.answer Null) in
          over s c means kept.0 kept.2
          (picked cells places number n (s.now.trees table.tree) (of c) (λ r. passes (at_places places r))
          (λ r. rowid r ∷ next_row r) (it.tree.held s.now.trees c means.kept.holds) numbered hits kept.0
          (shown s.now.trees kept.0 all))

      -- why the call fails
      pub update_fails : {Y : Type 0} (old new : State) (r : Result Y Fault)
          → FailsBy guard_tables (HasWriteCause guard_tables sql params) old new r
          → RefusedFor guard_tables (λ c. HasOne (λ x. (number x ≡ n) × IsTooLong (cells (u x))) (of c)) old new r
      update_fails = refused_for guard_tables sql params command
          it.is.0 it.is.2 (λ c. HasOne (λ x. (number x ≡ n) × IsTooLong (cells (u x))) (of c)) refuses
