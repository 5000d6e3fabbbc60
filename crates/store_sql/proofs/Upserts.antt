-- INSERT of one row .. ON CONFLICT .. DO UPDATE, and why it stops.
use Rattle.store_sql.proofs.Words.{Abort, Answers, Applies, AreConflicts, AtPlace, Chosen, Clears, Database, Does, Edit}
use Rattle.store_sql.proofs.Words.{Enforced, Err, Error, Given, InsertOr, IsJudged, Judged, List, Meets, None, Ok}
use Rattle.store_sql.proofs.Words.{OnRows, Option, Program, ProgramOverflows, Puts, Refusal, Row, Schema, Some, Table}
use Rattle.store_sql.proofs.Words.{Tally, Task, Term, Trees, Tries, TriesEach, Updates, Upsert, Upserts, Values}
use Rattle.store_sql.proofs.Words.{Written, [], accepts_program, accepts_terms, ap, cast_row, count_of, edit_of, false}
use Rattle.store_sql.proofs.Words.{fits_i64, ids_of, inl, inr, length, lets_of, nothing, one_step, rowid, shown}
use Rattle.store_sql.proofs.Words.{slice_get, stamped, subst, sym, taken_by, true, value_rows, with_rowid, works, ℕ}
use Rattle.store_sql.proofs.Words.{◌++◌, ◌/◌, ◌∙◌, ◌∷◌, ◌≡◌, ◌⊎◌}
use Rattle.store_sql.proofs.Statements.{went, same_value, uncounted, mode}
use Rattle.sqlite_rules.specs.Edit.{id_in}
use Rattle.sqlite.specs.Rows.{InsertsOr}
use Rattle.store_sql.proofs.Stops.{IsHalted, IsKept, change, concluded, edited_halts, halts, update_stopped}
use Rattle.store_sql.proofs.Stops as stops

module _ (limit : Option ℕ) (db after : Database) (tally : Tally) (schema : Schema) (has : db.schema ≡ schema)
    (at : ℕ) (table : Table) (found : slice_get schema.tables at ≡ Some (uncounted table)) (params : Row)
    (text : List ℕ) (target : Option (List ℕ)) (q : Program)
    (none : (olds news : List Row) → works schema Enforced 0 table.tree olds news ≡ []) where
  abbrev task : Task
  task = record { limit = limit; keys = Enforced; schema = schema; table = uncounted table; params = params }

  abbrev clause : Upsert
  clause = record { target = target; update = Some q }

  -- the row is inserted if none conflicts, and otherwise the query's rows replace the one that does
  abbrev pub Upserted : Row → Trees → Type 0
  Upserted new next = (AreConflicts target schema.indexes (uncounted table) (db.trees table.tree) new []
      × Applies schema Enforced db.trees (edit_of db.trees (uncounted table) [] Given 0 (new ∷ [])) next)
      ⊎ ((there : Row) × (more : List Row) × AreConflicts target schema.indexes (uncounted table)
      (db.trees table.tree) new (there ∷ more)
      × (rows : List Row) × Answers (record { schema = schema; trees = db.trees }) q
      (params ++ rowid there ∷ shown (uncounted table) new) rows
      × Applies schema Enforced db.trees (edit_of db.trees (uncounted table) (ids_of rows) Given 1 rows) next)

  puts : (new : Row) (one : Written) → Puts task new db.trees (Ok one)
      → Applies schema Enforced db.trees (edit_of db.trees (uncounted table) [] Given 0 (new ∷ [])) one.trees
  puts new one h =
      let written = went h in
      let edit = edit_of db.trees (uncounted table) [] Given 0 (new ∷ []) in
      subst (Applies schema Enforced db.trees edit) (sym (ap (λ (it : Written). it.trees) (same_value written.2)))
      (one_step schema Enforced db.trees written.0 edit (none (taken_by db.trees edit) edit.news) written.1)

  updates : (given : Row) (one : Written) → Updates task q given db.trees (Ok one)
      → (rows : List Row) × Answers (record { schema = schema; trees = db.trees }) q given rows
      × Applies schema Enforced db.trees (edit_of db.trees (uncounted table) (ids_of rows) Given 1 rows) one.trees
  updates given one h =
      let answered = went h in
      let written = went answered.2 in
      let edit = edit_of db.trees (uncounted table) (ids_of answered.0) Given 1 answered.0 in
      let step = one_step schema Enforced db.trees written.0 edit (none (taken_by db.trees edit) edit.news) written.1 in
      let same = sym (ap (λ (it : Written). it.trees) (same_value written.2)) in
      (answered.0, answered.1, subst (Applies schema Enforced db.trees edit) same step)

  clears : (new : Row) (one : Written) (found : List Row) → Clears task Abort new db.trees found (Ok one)
      → Puts task new db.trees (Ok one)
  clears new one [] h = h
  clears new one (x ∷ more) h = h

  meets : (new : Row) (one : Written) (found : List Row)
      → AreConflicts target schema.indexes (uncounted table) (db.trees table.tree) new found
      → Meets task (Upserts task Abort new db.trees []) new db.trees clause found (Ok one) → Upserted new one.trees
  meets new one [] conflicts h = inl (conflicts, puts new one (clears new one h.0 h.2))
  meets new one (there ∷ more) conflicts h =
      let it = updates (params ++ rowid there ∷ shown (uncounted table) new) one h in
      inr (there, more, conflicts, it.0, it.1, it.2)

  judged : (new : Row) (one : Written) (verdict : Option Refusal)
      → Judged task Abort (clause ∷ []) new db.trees verdict (Ok one) → Upserted new one.trees
  judged new one None h = meets new one h.0 h.1 h.2
  judged new one (Some why) h = absurd (let e = h in cc)

  pub tries : (new : Row) (one : Written) → Tries task Abort (clause ∷ []) new db.trees (Ok one) → Upserted new one.trees
  tries new one (inl bad) = absurd (let e = bad.1 in cc)
  tries new one (inr it) = judged new one it.0 it.2

  pub upserts : (terms : List Term) (width : ℕ) (source : Row)
      → value_rows (stamped (uncounted table) params) width (length terms / width) terms ≡ source ∷ []
      → Does limit mode params db text None (InsertOr at Abort (Values terms width) (clause ∷ [])) (Ok (tally, after))
      → Upserted (with_rowid Chosen (db.trees table.tree) (cast_row (uncounted table) source)) after.trees
      × (after.schema ≡ schema)
  upserts terms width source is h =
      let command = InsertOr at Abort (Values terms width) (clause ∷ []) in
      let ran = subst (λ s. Does limit mode params (record db { schema = s }) text None command (Ok (tally, after)))
      has h in
      let done = went (subst (λ o. AtPlace
      (λ t. OnRows (record { limit = limit; keys = Enforced; schema = schema; table = t; params = params }) mode
      None command db.trees) o (Ok (tally, after))) found ran) in
      let now = ap (λ (p : Tally × Database). p.1) (same_value (went (went done.2).2).2) in
      let given = went done.1 in
      let counter = went given.2 in
      let tried = went counter.2 in
      let counted = went tried.2 in
      let each = went (subst (λ rows. TriesEach task Abort (clause ∷ []) rows (count_of counter.0) (nothing db.trees)
      (Ok tried.0)) (given.1.1 ∙ is) tried.1) in
      let trees : done.0.trees ≡ each.0.trees =
      ap (λ (it : Written). it.trees) (same_value counted.2) ∙ same_value counted.1
      ∙ ap (λ (p : Written × _). p.0.trees) (same_value each.2) in
      let all : after.trees ≡ each.0.trees = ap (λ (d : Database). d.trees) now ∙ trees in
      let new = with_rowid Chosen (db.trees table.tree) (cast_row (uncounted table) source) in
      (subst (Upserted new) (sym all) (tries new each.0 each.1), ap (λ (d : Database). d.schema) now)

-- ---- why it stops

module _ (db : Database) (schema : Schema) (has : db.schema ≡ schema) (at : ℕ) (table : Table)
    (found : slice_get schema.tables at ≡ Some (uncounted table)) (params : Row) (text : List ℕ)
    (target : Option (List ℕ)) (q : Program)
    (none : (olds news : List Row) → works schema Enforced 0 table.tree olds news ≡ [])
    (new : Row) (typed : (there : Row) (more : List Row)
    → AreConflicts target schema.indexes (uncounted table) (db.trees table.tree) new (there ∷ more)
    → accepts_program schema (lets_of q) q.body (params ++ rowid there ∷ shown (uncounted table) new) ≡ true)
    (sure : (given : Row) → ProgramOverflows db.trees given [] (lets_of q) q.body → ⊥) where
  abbrev unlimited : Task
  unlimited = record { limit = None; keys = Enforced; schema = schema; table = uncounted table; params = params }

  abbrev its_clause : Upsert
  its_clause = record { target = target; update = Some q }

  abbrev addition : Edit
  addition = edit_of db.trees (uncounted table) [] Given 0 (new ∷ [])

  abbrev given : Row → Row
  given there = params ++ rowid there ∷ shown (uncounted table) new

  -- The row's number is out of range, or a rule of the table refuses the row; or none conflicts and it can't be
  -- inserted; or one does and the query's rows can't replace it.
  abbrev pub IsUnmet : Type 0
  IsUnmet = (fits_i64 (id_in (rowid new)) ≡ false) ⊎ (((why : Refusal) × IsJudged (uncounted table) new (Some why))
      ⊎ ((AreConflicts target schema.indexes (uncounted table) (db.trees table.tree) new [] × IsHalted schema db.trees (addition))
      ⊎ ((there : Row) × (more : List Row)
      × (met : AreConflicts target schema.indexes (uncounted table) (db.trees table.tree) new (there ∷ more))
      × IsKept db schema has at table found params text none q (given there) (typed there more met) (sure (given there))
      (change db schema has at table found params text none q (given there) (typed there more met) (sure (given there))))))

  put_stopped : (stop : Option Error) → Puts unlimited new db.trees (Err stop) → IsHalted schema db.trees (addition)
  put_stopped stop h = elim (halts h) [
    | inl (s, edited) ↦ edited_halts schema db.trees (addition) s (none (taken_by db.trees (addition)) (addition).news) edited
    | inr (next, edited, gives) ↦ absurd (let e = gives in cc)
  ]

  cleared : (stop : Option Error) (met : List Row) → Clears unlimited Abort new db.trees met (Err stop)
      → IsHalted schema db.trees (addition)
  cleared stop [] h = put_stopped stop h
  cleared stop (x ∷ more) h = put_stopped stop h

  unmet : (stop : Option Error) (met : List Row)
      → AreConflicts target schema.indexes (uncounted table) (db.trees table.tree) new met
      → Meets unlimited (Upserts unlimited Abort new db.trees []) new db.trees its_clause met (Err stop) → IsUnmet
  unmet stop [] conflicts h = inr (inr (inl (conflicts, cleared stop h.0 h.2)))
  unmet stop (there ∷ more) conflicts h =
      let g = given there in
      inr (inr (inr (
        there,
        more,
        conflicts,
        update_stopped db schema has at table found params text none q g (typed there more conflicts) (sure g) stop h,
      )))

  unjudged : (stop : Option Error) (verdict : Option Refusal) → IsJudged (uncounted table) new verdict
      → Judged unlimited Abort (its_clause ∷ []) new db.trees verdict (Err stop) → IsUnmet
  unjudged stop None is h = unmet stop h.0 h.1 h.2
  unjudged stop (Some why) is h = inr (inl (why, is))

  tried : (stop : Option Error) → Tries unlimited Abort (its_clause ∷ []) new db.trees (Err stop) → IsUnmet
  tried stop (inl out) = inl out.0
  tried stop (inr it) = unjudged stop it.0 it.1 it.2

  module _ (terms : List Term) (width : ℕ) (source : Row)
      (fits : accepts_terms terms (stamped (uncounted table) params) ≡ true)
      (is : value_rows (stamped (uncounted table) params) width (length terms / width) terms ≡ source ∷ [])
      (is_new : with_rowid Chosen (db.trees table.tree) (cast_row (uncounted table) source) ≡ new) where
    abbrev made : Row
    made = with_rowid Chosen (db.trees table.tree) (cast_row (uncounted table) source)

    stopped : (stop : Option Error) → InsertsOr unlimited Abort (its_clause ∷ []) (Values terms width) db.trees
        (Err stop) → IsUnmet
    stopped stop h = elim (halts h) [
      | inl (s, missing) ↦ absurd (stops.sourced db schema has at table found params text none terms width fits s missing)
      | inr (rows, given, more) ↦ elim (halts more) [
        | inl counter ↦ absurd (let e = counter.1 in cc)
        | inr (counter, counts, most) ↦ elim (halts most) [
          | inl (s, each) ↦ elim (halts (subst
              (λ rs. TriesEach unlimited Abort (its_clause ∷ []) rs (count_of counter) (nothing db.trees) (Err s))
              (given.1 ∙ is) each)) [
                | inl (t, one) ↦ tried t
                    (subst (λ row. Tries unlimited Abort (its_clause ∷ []) row db.trees (Err t)) is_new one)
                | inr (one, put, last) ↦ absurd (let e = last in cc)
              ]
          | inr (done, each, last) ↦ absurd (elim (halts last) [ inl over ↦ (let e = over.1 in cc) | inr gives ↦ (let e = gives.2 in cc) ])
        ]
      ]
    ]

    abbrev no_tally : Tally
    no_tally = record { rows = None; last = None; shown = []; in_doubt = false }

    wrote : (w : Written) → InsertsOr unlimited Abort (its_clause ∷ []) (Values terms width) db.trees (Ok w)
        → Upserted None db db no_tally schema has at table found params text target q none new w.trees
    wrote w h =
        let given = went h in
        let counter = went given.2 in
        let tried = went counter.2 in
        let counted = went tried.2 in
        let each = went (subst (λ rows. TriesEach unlimited Abort (its_clause ∷ []) rows (count_of counter.0)
        (nothing db.trees) (Ok tried.0)) (given.1.1 ∙ is) tried.1) in
        let trees : w.trees ≡ each.0.trees =
        ap (λ (it : Written). it.trees) (same_value counted.2) ∙ same_value counted.1
        ∙ ap (λ (p : Written × _). p.0.trees) (same_value each.2) in
        subst (Upserted None db db no_tally schema has at table found params text target q none new) (sym trees)
        (tries None db db no_tally schema has at table found params text target q none new each.0
        (subst (λ row. Tries unlimited Abort (its_clause ∷ []) row db.trees (Ok each.0)) is_new each.1))

    ended : (w : Written) (stop : Option Error) → Upserted None db db no_tally schema has at table found params text target q none new w.trees
        → Rattle.sqlite.specs.Does.Concludes unlimited mode None w (Err stop) → IsUnmet
    ended w stop (inl put) h =
        inr (inr (inl (put.0, concluded db schema has at table found params text none (addition) w stop put.1 h)))
    ended w stop (inr put) h =
        let g = given put.0 in
        let edit = change db schema has at table found params text none q g (typed put.0 put.1 put.2) (sure g) put.3 in
        inr (inr (inr (put.0, put.1, put.2, (put.3, put.4, concluded db schema has at table found params text none edit w stop put.5 h))))

    pub upsert_halts : (stop : Option Error)
        → Does None mode params db text None (InsertOr at Abort (Values terms width) (its_clause ∷ [])) (Err stop)
        → IsUnmet
    upsert_halts stop h =
        let command = InsertOr at Abort (Values terms width) (its_clause ∷ []) in
        let ran = subst (λ s. Does None mode params (record db { schema = s }) text None command (Err stop)) has h in
        let done = subst (λ o. AtPlace
        (λ t. OnRows (record { limit = None; keys = Enforced; schema = schema; table = t; params = params }) mode None command
        db.trees) o (Err stop)) found ran in
        elim (halts done) [ inl (s, stop_here) ↦ stopped s stop_here | inr (w, put, last) ↦ ended w stop (wrote w put) last ]
