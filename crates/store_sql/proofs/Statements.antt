-- The effect of statements on one table, for any table.
use Rattle.store_sql.proofs.Words.{Answers, Applies, AtPlace, Chosen, Command, Commit, CommitsBy, Database, Delete}
use Rattle.store_sql.proofs.Words.{Does, Edited, Enforced, Err, Error, Executes, ExecutesIn, Given, Insert, IsDatabase}
use Rattle.store_sql.proofs.Words.{IsNotRun, IsPlain, IsRolledBack, IsTrue, IsUnchanged, IsWrite, List, MayCommit, Mode}
use Rattle.store_sql.proofs.Words.{None, Ok, OnRows, Option, Program, Release, Result, Row, Schema, Some, State}
use Rattle.store_sql.proofs.Words.{Survives, Table, Tally, Term, Trees, Update, Values, Written, [], ap, append-nil}
use Rattle.store_sql.proofs.Words.{cases_Bool, command_of, edit_of, false, ids_of, inl, inr, length, one_step}
use Rattle.store_sql.proofs.Words.{shows_rows, slice_get, stamped, statement_of, subst, subst₂, sym, taken_by}
use Rattle.store_sql.proofs.Words.{understood, value_rows, works, ℕ, ◌/◌, ◌∙◌, ◌≡◌, ◌⊎◌}
use Rattle.sqlite.specs.State.{IsNewestNamed, names_in, begins_at}

-- a part that returned a value did not stop on the way
pub went : {B E R : Type 0} {b : B} {Stops : E → Type 0} → ((stop : E) × Stops stop × (Ok b ≡ Err stop)) ⊎ R → R
went (inl stopped) = absurd (let e = stopped.2 in cc)
went (inr on) = on

pub same_value : {B E : Type 0} {a b : B} → ◌≡◌ {A = Result B E} (Ok a) (Ok b) → a ≡ b
same_value e = cc

-- whatever the text is, a statement that failed left the database as it was, or the transaction is rolled back
pub stopped : (sql : List ℕ) (params : Row) (old new : State) (e : Error) → Executes sql params old new (Err e)
    → IsUnchanged old new ⊎ IsRolledBack old new
unfolding ExecutesIn IsNotRun
stopped sql params old new e (inl (inl h)) = inl h.1
stopped sql params old new e (inl (inr h)) = inr h.3
stopped sql params old new e (inr h) = elim (cases_Bool (shows_rows false h.0)) [
  | inl shows ↦ inl (rw shows at h.2).1
  | inr runs ↦ elim (rw runs at h.2) [ inl refused ↦ inl refused.1 | inr failed ↦ inr failed.3 ]
]

-- without the count in `sqlite_sequence`, which computes away
abbrev pub uncounted : Table → Table
uncounted table = record table { is_counted = false }

abbrev pub mode : Mode
mode = record { keys = Enforced; in_doubt = false; may_wait = false }

-- A write that a crash interrupts commits nothing or, outside a transaction, its whole effect.
module _ (sql : List ℕ) (params : Row) (s : State) (schema : Schema) (has : s.now.schema ≡ schema) (command : Command)
    (is : command_of (understood schema sql) ≡ command)
    (plain : IsPlain (understood schema sql)) (writes : IsWrite command) where
  ends_none : (command : Command) → IsWrite command → (command ≡ Commit)
      ⊎ ((name : List ℕ) × (at : ℕ) × (command ≡ Release name) × IsNewestNamed (names_in s) name at
      × IsTrue (begins_at s at)) → ⊥
  ends_none command w (inl e) = subst IsWrite e w
  ends_none command w (inr h) = subst IsWrite h.2 w

  pub commits_as : (trees : Trees) → CommitsBy sql params s trees
      → (s.in_transaction ≡ false) × (tally : Tally) × (after : Database)
      × Does s.step_limit mode params s.now (statement_of sql (understood schema sql)) None command
      (Ok (tally, after)) × IsDatabase after × (trees ≡ after.trees)
  unfolding CommitsBy
  commits_as trees h =
      let known = sym h.1.is ∙ ap (λ s. understood s sql) has in
      let bare = subst IsPlain (sym known) plain in
      let all = subst₂ (λ k t. MayCommit s None k t params trees) (ap command_of known ∙ is)
      (ap (statement_of sql) known) (rw (bare.0, bare.1, append-nil params) at h.2) in
      elim all [
        | inl ended ↦ absurd (ends_none command writes ended.0)
        | inr wrote ↦ (wrote.0, wrote.1, wrote.2, wrote.3, wrote.4, wrote.5)
      ]

module _ (limit : Option ℕ) (db after : Database) (tally : Tally) (schema : Schema) (has : db.schema ≡ schema)
    (at : ℕ) (table : Table) (found : slice_get schema.tables at ≡ Some (uncounted table)) (params : Row)
    (text : List ℕ) where
  pub inserts : (terms : List Term) (width : ℕ) → Does limit mode params db text None (Insert at (Values terms width))
      (Ok (tally, after))
      → let rows = value_rows (stamped (uncounted table) params) width (length terms / width) terms in
      let edit = edit_of db.trees (uncounted table) [] Chosen 0 rows in
      works schema Enforced 0 table.tree (taken_by db.trees edit) edit.news ≡ []
      → Applies schema Enforced db.trees edit after.trees × (after.schema ≡ schema)
  inserts terms width h none =
      let command = Insert at (Values terms width) in
      let table′ = uncounted table in
      let ran = subst (λ s. Does limit mode params (record db { schema = s }) text None command (Ok (tally, after)))
      has h in
      let done = went (subst (λ o. AtPlace
      (λ t. OnRows (record { limit = limit; keys = Enforced; schema = schema; table = t; params = params }) mode
      None command db.trees) o (Ok (tally, after))) found ran) in
      let now = ap (λ (p : Tally × Database). p.1) (same_value (went (went done.2).2).2) in
      let given = went done.1 in
      let written = went (went given.2).2 in
      let counted = went written.2 in
      let trees : done.0.trees ≡ written.0 = ap (λ (it : Written). it.trees) (same_value counted.2)
      ∙ same_value counted.1 in
      let wrote = subst (λ rows. Edited schema Enforced db.trees (edit_of db.trees table′ [] Chosen 0 rows)
      (Ok written.0)) given.1.1 written.1 in
      let all : after.trees ≡ written.0 = ap (λ (d : Database). d.trees) now ∙ trees in
      let edit = edit_of db.trees table′ [] Chosen 0 (value_rows (stamped table′ params) width (length terms / width) terms)
      in (rw all (one_step schema Enforced db.trees written.0 edit none wrote), ap (λ (d : Database). d.schema) now)

  -- UPDATE writes the rows that its query shows, each under its old rowid
  pub updates : (q : Program) → Does limit mode params db text None (Update at q) (Ok (tally, after))
      → ((olds news : List Row) → works schema Enforced 0 table.tree olds news ≡ [])
      → (rows : List Row) × Answers (record { schema = schema; trees = db.trees }) q params rows
      × Applies schema Enforced db.trees (edit_of db.trees (uncounted table) (ids_of rows) Given 1 rows)
      after.trees × (after.schema ≡ schema)
  updates q h none =
      let command = Update at q in
      let ran = subst (λ s. Does limit mode params (record db { schema = s }) text None command (Ok (tally, after)))
      has h in
      let done = went (subst (λ o. AtPlace
      (λ t. OnRows (record { limit = limit; keys = Enforced; schema = schema; table = t; params = params }) mode
      None command db.trees) o (Ok (tally, after))) found ran) in
      let now = ap (λ (p : Tally × Database). p.1) (same_value (went (went done.2).2).2) in
      let given = went done.1 in
      let written = went given.2 in
      let all : after.trees ≡ written.0 = ap (λ (d : Database). d.trees) now
      ∙ ap (λ (it : Written). it.trees) (same_value written.2) in
      let edit = edit_of db.trees (uncounted table) (ids_of given.0) Given 1 given.0 in
      let step = one_step schema Enforced db.trees written.0 edit (none (taken_by db.trees edit) edit.news) written.1 in
      (given.0, given.1, subst (Applies schema Enforced db.trees edit) (sym all) step, ap (λ (d : Database). d.schema) now)

  -- DELETE deletes the rows whose rowids its query shows
  pub deletes : (q : Program) → Does limit mode params db text None (Delete at q) (Ok (tally, after))
      → ((olds news : List Row) → works schema Enforced 0 table.tree olds news ≡ [])
      → (rows : List Row) × Answers (record { schema = schema; trees = db.trees }) q params rows
      × Applies schema Enforced db.trees (edit_of db.trees (uncounted table) (ids_of rows) Given 0 []) after.trees
      × (after.schema ≡ schema)
  deletes q h none =
      let command = Delete at q in
      let ran = subst (λ s. Does limit mode params (record db { schema = s }) text None command (Ok (tally, after)))
      has h in
      let done = went (subst (λ o. AtPlace
      (λ t. OnRows (record { limit = limit; keys = Enforced; schema = schema; table = t; params = params }) mode
      None command db.trees) o (Ok (tally, after))) found ran) in
      let now = ap (λ (p : Tally × Database). p.1) (same_value (went (went done.2).2).2) in
      let given = went done.1 in
      let written = went given.2 in
      let all : after.trees ≡ written.0 = ap (λ (d : Database). d.trees) now
      ∙ ap (λ (it : Written). it.trees) (same_value written.2) in
      let edit = edit_of db.trees (uncounted table) (ids_of given.0) Given 0 [] in
      let step = one_step schema Enforced db.trees written.0 edit (none (taken_by db.trees edit) edit.news) written.1 in
      (given.0, given.1, subst (Applies schema Enforced db.trees edit) (sym all) step, ap (λ (d : Database). d.schema) now)

pub survives_as : (old new : State) (P Q : Trees → Type 0) → ((trees : Trees) → P trees → Q trees)
    → Survives old new P → Survives old new Q
survives_as old new P Q more s = record {
  clean = s.clean;
  shield = s.shield;
  counts = s.counts;
  limit = s.limit;
  closes = s.closes;
  crash = λ clean db left. elim (s.crash clean db left) [ inl was ↦ inl was | inr p ↦ inr (more db p) ];
}
