-- Why a department is refused.
use Rattle.store_sql.proofs.Words.{All, AllByRecursion, Applies, AreConflicts, BadReference, Binary, Bool, Check}
use Rattle.store_sql.proofs.Words.{Contents, Datatype, DepartmentRow, Enforced, FailsBy, Fault, ForeignKey, Given, Has}
use Rattle.store_sql.proofs.Words.{Int, IsJudged, IsNumber, IsPermutation, List, Means, Mismatch, NoRowid, NotNull}
use Rattle.store_sql.proofs.Words.{Null, PrimaryKey, Refers, Refusal, RefusedFor, Result, Row, Some, State, Text}
use Rattle.store_sql.proofs.Words.{TooDeep, Trees, Unique, Violates, [], accepts_program, agree, all_from, all_has, ap}
use Rattle.store_sql.proofs.Words.{arith, cases_Bool, cast_row, column, placed_department, department_cells}
use Rattle.store_sql.proofs.Words.{department_places, edit_of, equal, false, filter, first_key, guards, has_filtered}
use Rattle.store_sql.proofs.Words.{has_kept, has_rowid, id_in, ids_of, inl, inr, is_eq, left_by, length, list_any}
use Rattle.store_sql.proofs.Words.{ltb-false, map, next_rowid, not, or_right, plain, pos, refl, rowid, shown, some_from}
use Rattle.store_sql.proofs.Words.{some_has, statement_of, subst, sym, true, understood, value_cmp, whole}
use Rattle.store_sql.proofs.Words.{without_rowid, ℕ, ℤ, ◌&&◌, ◌++◌, ◌^◌, ◌∙◌, ◌∷◌, ◌≡◌}
use Rattle.sqlite_trees.specs.View.{IsStorable}
use Rattle.store_sql.proofs.Reasons.{is_exact, HasClash, IsPut, halted, never, one, size, storable}
use Rattle.std.proofs.lemmas.Bool.{eqb-false, or_cases, or_left}
use Rattle.std.proofs.Common.{◌<◌}
use Rattle.store_sql.specs.Refusals.{IsTooLong}
use Rattle.sqlite_rules.proofs.TableLemmas.{put_all_adds, put_all_keeps}
use Rattle.store_sql.specs.Refusals.{RefusesDepartment}
use Rattle.store_sql.proofs.DepartmentUpsert.{conflict_is, fresh_row, has_id, name_is, named, next_row, none_named}
use Rattle.store_sql.proofs.DepartmentUpsert.{own_row, put_is, put_query, put_sql, source, terms, the_row, unique}
use Rattle.store_sql.proofs.DepartmentUpsert.{put_program, put_command}
use Rattle.store_sql.proofs.Rows.{only_one, cast_int, cast_null}
use Rattle.store_sql.proofs.FaultLemmas.{HasWriteCause, none_overflows, Stops, refused_for}
use Rattle.store_sql.proofs.Inserts.{all_refer, each_refers, has_department, no_works}
use Rattle.store_sql.proofs.KeyTables.{counted, free, full}
use Rattle.store_sql.proofs.Queries.{selected}
use Rattle.store_sql.proofs.Stops.{IsHalted}
use Rattle.store_sql.proofs.NumberUpdates.{freed, sole}
use Rattle.store_sql.proofs.Upserts.{IsUnmet, upsert_halts}

-- certificates keep their departments if each name stays
names_stay : (db next : Trees) → next 3 ≡ db 3
    → ((p : Row → Bool) → ((r s : Row) → column r 1 ≡ column s 1 → p r ≡ true → p s ≡ true) → list_any p (db 1) ≡ true
    → list_any p (next 1) ≡ true)
    → AllByRecursion (λ r. has_department db r ≡ true) (db 3) → Refers All whole next
unfolding first_key
names_stay db next certs stay was = all_refer next (subst (AllByRecursion (λ r. has_department next r ≡ true)) (sym certs)
    (all_from (λ r. has_department next r ≡ true) (db 3) (λ r here. elim (or_cases _ _ (all_has (λ r. has_department db r ≡ true) (db 3) r was here)) [
      | inl null ↦ or_left _ _ null
      | inr held ↦ or_right _ _ (stay (λ d. agree plain (1 ∷ []) d (2 ∷ []) r)
          (λ a b same is. subst (λ v. (equal Binary v (column r 2) && true) ≡ true) same is) held)
    ])))

module _ (d : DepartmentRow) where
  abbrev row_at : ℤ → Row
  row_at id = Int id ∷ department_cells d

  fresh_is : (rows : List Row) → fresh_row d rows ≡ row_at (next_rowid rows)
  fresh_is rows = rw cast_null (simp cast_int)

  is_put : (id : ℤ) → IsPut placed_department (row_at id)
  is_put id = record {
    listed = inr (inl refl);
    formed = (refl, refl, refl, refl);
    short = λ fits.
        let exact : AllByRecursion (λ v. is_exact v ≡ true) (row_at id) =
        (refl, (refl, (refl, (refl, (refl, (refl, (refl, (refl, (refl, tt))))))))) in
        (storable _ (row_at id) refl exact (omega arith, omega arith) fits, omega arith);
    entries = λ fits.
        let key : IsStorable 0 (Text d.name ∷ Int id ∷ []) =
        storable _ _ refl (refl, (refl, tt)) (omega arith, omega arith) (omega (arith, fits)) in
        ((λ e. key), ((λ e. cc), ((λ e. cc), ((λ e. cc), tt))));
  }

  too_long : (id : ℤ) → 10 ^ 9 < size (row_at id) → IsTooLong (department_cells d)
  too_long id long = omega (arith, long)

  well_judged : (id : ℤ) (why : Refusal) → IsJudged placed_department (row_at id) (Some why) → ⊥
  well_judged id Mismatch h = let wrong : true ≡ false = h in cc
  well_judged id NoRowid h = h
  well_judged id BadReference h = h
  well_judged id TooDeep h = h
  well_judged id (Violates Datatype) h = let wrong : true ≡ false = h in cc
  well_judged id (Violates NotNull) h = let wrong : true ≡ false = h in cc
  well_judged id (Violates Check) h = let wrong : true ≡ false = h in cc
  well_judged id (Violates PrimaryKey) h = h
  well_judged id (Violates Unique) h = h
  well_judged id (Violates ForeignKey) h = h

  -- a row with the key of the new one has its name
  clash_named : (db : Trees) (gone : List ℤ) (id : ℤ) → HasClash db placed_department gone (row_at id)
      → (other : Row) × Has (left_by db (one db placed_department gone (row_at id))) other × (named d.name other ≡ true)
  unfolding first_key
  clash_named db gone id (i, here, on, other, there, same) = (
    other,
    there,
    all_has (λ j. guards j placed_department ≡ true → agree j.order j.columns other j.columns (row_at id) ≡ true → named d.name other ≡ true)
        whole.indexes i ((λ e same. same), ((λ e. never e refl), ((λ e. never e refl), ((λ e. never e refl), tt)))) here on same,
  )

  -- ---- no department has the name

  added : (s : State) (c : Contents) → Means s.now c
      → AreConflicts (Some (1 ∷ [])) whole.indexes placed_department (s.now.trees 1) (fresh_row d (s.now.trees 1)) []
      → IsHalted whole s.now.trees (edit_of s.now.trees placed_department [] Given 0 (fresh_row d (s.now.trees 1) ∷ []))
      → RefusesDepartment d c
  added s c means none halts =
      let db = s.now.trees in
      let h = means.kept.holds in
      let new = row_at (next_rowid (db 1)) in
      let is : cast_row placed_department (fresh_row d (db 1)) ≡ new = rw (fresh_is (db 1)) (simp cast_int) in
      let stopped = subst (λ row. IsHalted whole db (one db placed_department [] row)) is halts in
      halted db placed_department [] new (is_put (next_rowid (db 1))) h.departments.apart
      (means.kept.sound.obeys.rules Unique)
      (λ out. inr (full department_cells department_places (db 1) c.departments h.departments h.departments_numbered out))
      (λ taken. free (db 1) (department_cells d) h.departments_numbered h.departments.apart taken)
      (λ clash. let it = clash_named db [] (next_rowid (db 1)) clash in
      never it.2 (none_named d (db 1) none it.0 it.1))
      (λ long. inl (too_long (next_rowid (db 1)) long))
      (λ next did broken. absurd (broken (names_stay db next (did.tables.1.1.0 (eqb-false 3 1 refl))
      (λ p alike held. let found = some_has p (db 1) held in
      some_from p (next 1) found.0 (subst (λ l. Has l found.0) (sym did.rows) (put_all_keeps (new ∷ []) (db 1) found.0 did.fresh found.1)) found.2)
      (each_refers db (means.kept.sound.obeys.rules ForeignKey))))) stopped

  -- ---- a department has the name

  module _ (s : State) (c : Contents) (means : Means s.now c) (r0 : Row) (here0 : Has (s.now.trees 1) r0)
      (hit0 : named d.name r0 ≡ true) where
    abbrev db : Trees
    db = s.now.trees

    kept_row : (k : ℕ) → rowid r0 ≡ Int (pos k) → cast_row placed_department (next_row d (fresh_row d (db 1)) r0) ≡ row_at (pos k)
    kept_row k id =
        let name : column r0 1 ≡ Text d.name = name_is d c db means.kept r0 here0 hit0 r0 here0 hit0 in
        let new = fresh_is (db 1) in rw (new, id, name) (simp cast_int)

    -- each name is still there
    renamed : (k : ℕ) (next : Trees) → rowid r0 ≡ Int (pos k)
        → Applies whole Enforced db (one db placed_department (pos k ∷ []) (row_at (pos k))) next → (p : Row → Bool)
        → ((r t : Row) → column r 1 ≡ column t 1 → p r ≡ true → p t ≡ true) → list_any p (db 1) ≡ true → list_any p (next 1) ≡ true
    renamed k next id did p alike held =
        let new = row_at (pos k) in
        let left = without_rowid (pos k) (db 1) in
        let found = some_has p (db 1) held in
        elim (cases_Bool (has_rowid (pos k) found.0)) [
          | inl same ↦
              let tie : is_eq (value_cmp (rowid found.0) (rowid r0)) ≡ true = rw id same in
              let is : found.0 ≡ r0 = Rattle.sqlite_rules.proofs.PlaceLemmas.tied_same (db 1) found.0 r0
              means.kept.holds.departments.apart found.1 here0 (Rattle.store_sql.proofs.Edits.equal_is _ tie) in
              let name : column r0 1 ≡ Text d.name = name_is d c db means.kept r0 here0 hit0 r0 here0 hit0 in
              some_from p (next 1) new (subst (λ l. Has l new) (sym did.rows) (put_all_adds (new ∷ []) left new did.fresh (inl refl)))
              (alike found.0 new (ap (λ r. column r 1) is ∙ name) found.2)
          | inr other ↦
              some_from p (next 1) found.0 (subst (λ l. Has l found.0) (sym did.rows)
              (put_all_keeps (new ∷ []) left found.0 did.fresh
              (has_kept (λ r. not (has_rowid (pos k) r)) (db 1) found.0 found.1 (ap not other)))) found.2
        ]

    over : (rows : List Row) → IsPermutation
        (map (λ r. rowid r ∷ next_row d (fresh_row d (db 1)) r) (filter (has_id d c db means.kept r0 here0 hit0) (db 1))) rows
        → IsHalted whole db (edit_of db placed_department (ids_of rows) Given 1 rows) → RefusesDepartment d c
    over rows all halts =
        let h = means.kept.holds in
        let shows = λ (r : Row). rowid r ∷ next_row d (fresh_row d (db 1)) r in
        let alone : filter (has_id d c db means.kept r0 here0 hit0) (db 1) ≡ r0 ∷ [] =
        only_one (has_id d c db means.kept r0 here0 hit0) (db 1) r0 h.departments.apart here0
        (own_row d c db means.kept r0 here0 hit0) (the_row d c db means.kept r0 here0 hit0) in
        let rows_are = sole (shows r0) rows (subst (λ l. IsPermutation (map shows l) rows) alone all) in
        let k = all_has (λ r. IsNumber (length (db 1)) (rowid r)) (db 1) r0 h.departments_numbered here0 in
        let id : rowid r0 ≡ Int (pos k.0) = k.1 in
        let step = subst (λ rs. IsHalted whole db (edit_of db placed_department (ids_of rs) Given 1 rs)) rows_are halts in
        let at_id = subst (λ v. IsHalted whole db (one db placed_department (id_in v ∷ []) (cast_row placed_department (next_row d (fresh_row d (db 1)) r0)))) id step in
        let new = row_at (pos k.0) in
        let stopped = subst (λ row. IsHalted whole db (one db placed_department (pos k.0 ∷ []) row)) (kept_row k.0 id) at_id in
        let count = counted department_cells department_places (db 1) c.departments h.departments in
        halted db placed_department (pos k.0 ∷ []) new (is_put (pos k.0)) h.departments.apart
        (means.kept.sound.obeys.rules Unique)
        (λ out. let big = ltb-false k.0 (2 ^ 63) out in inr (omega (arith, big, k.2, count)))
        (λ taken. absurd (freed (db 1) (pos k.0) new refl taken))
        (λ clash. absurd (let it = clash_named db (pos k.0 ∷ []) (pos k.0) clash in
        let left = has_filtered (λ r. not (has_rowid (pos k.0) r)) (db 1) it.0 it.1 in
        let same = unique d c db means.kept r0 here0 hit0 it.0 left.0 it.2 in
        let tie : has_rowid (pos k.0) it.0 ≡ true = subst (λ v. is_eq (value_cmp (rowid it.0) v) ≡ true) id same in
        let wrong = rw tie at left.1 in cc))
        (λ long. inl (too_long (pos k.0) long))
        (λ next did broken. absurd (broken (names_stay db next (did.tables.1.1.0 (eqb-false 3 1 refl)) (renamed k.0 next id did)
        (each_refers db (means.kept.sound.obeys.rules ForeignKey))))) stopped

  put_typed : (s : State) (c : Contents) → Means s.now c → (there : Row) (more : List Row)
      → AreConflicts (Some (1 ∷ [])) whole.indexes placed_department (s.now.trees 1) (row_at (next_rowid (s.now.trees 1))) (there ∷ more)
      → accepts_program whole [] put_query
      (department_cells d ++ rowid there ∷ shown placed_department (row_at (next_rowid (s.now.trees 1)))) ≡ true
  put_typed s c means there more conflicts =
      let met = conflicts.sound there (inl refl) in
      let k = all_has (λ r. IsNumber (length (s.now.trees 1)) (rowid r)) (s.now.trees 1) met.0 means.kept.holds.departments_numbered met.1 in
      let id : rowid there ≡ Int (pos k.0) = ap rowid met.3 ∙ k.1 in
      rw id refl

  pub refuses_department : (s : State) (c : Contents) → Means s.now c → Stops put_sql (department_cells d) put_command s
      → RefusesDepartment d c
  refuses_department s c means stops = go
      (upsert_halts s.now whole means.schema 1 placed_department refl (department_cells d)
      (statement_of put_sql (understood whole put_sql)) (Some (1 ∷ [])) put_program (no_works 1)
      (row_at (next_rowid (s.now.trees 1))) (put_typed s c means)
      (λ given h. elim h [ inl over ↦ over | inr fold ↦ none_overflows _ fold ]) terms 9 (source d) refl refl
      (fresh_is (s.now.trees 1)) stops.0 stops.1)
    where
      go : IsUnmet s.now whole means.schema 1 placed_department refl (department_cells d)
          (statement_of put_sql (understood whole put_sql)) (Some (1 ∷ [])) put_program (no_works 1)
          (row_at (next_rowid (s.now.trees 1))) (put_typed s c means)
          (λ given h. elim h [ inl over ↦ over | inr fold ↦ none_overflows _ fold ]) → RefusesDepartment d c
      go (inl out) =
          let h = means.kept.holds in
          inr (full department_cells department_places (s.now.trees 1) c.departments h.departments h.departments_numbered out)
      go (inr (inl (why, bad))) = absurd (well_judged (next_rowid (s.now.trees 1)) why bad)
      go (inr (inr (inl (none, halts)))) =
          let is = sym (fresh_is (s.now.trees 1)) in
          added s c means (subst (λ r. AreConflicts (Some (1 ∷ [])) whole.indexes placed_department (s.now.trees 1) r []) is none)
          (subst (λ r. IsHalted whole s.now.trees (edit_of s.now.trees placed_department [] Given 0 (r ∷ []))) is halts)
      go (inr (inr (inr (there, more, conflicts, kept)))) =
          let is = sym (fresh_is (s.now.trees 1)) in
          let met = conflicts.sound there (inl refl) in
          let hit : named d.name met.0 ≡ true = sym (conflict_is d (s.now.trees 1) met.0)
          ∙ ap (λ n. Rattle.sqlite_rules.specs.Keys.conflicts (Some (1 ∷ [])) whole.indexes placed_department n met.0) (sym is) ∙ met.2 in
          let params = department_cells d ++ rowid there ∷ shown placed_department (row_at (next_rowid (s.now.trees 1))) in
          let all = selected 1 _ _ [] s.now.trees params kept.0 refl (kept.1.answer Null) in
          let shown_all = subst (λ n. IsPermutation (map (λ r. rowid r ∷ next_row d n r)
          (filter (has_id d c s.now.trees means.kept met.0 met.1 hit) (s.now.trees 1))) kept.0) is (rw (met.3) at all) in
          over s c means met.0 met.1 hit kept.0 shown_all kept.2

pub department_fails : {X : Type 0} (d : DepartmentRow) (old new : State) (r : Result X Fault)
    → FailsBy (HasWriteCause put_sql (department_cells d)) old new r → RefusedFor (RefusesDepartment d) old new r
department_fails d old new r = refused_for put_sql (department_cells d) put_command put_is.0 put_is.2
    (RefusesDepartment d) (refuses_department d) old new r
