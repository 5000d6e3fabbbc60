-- Why a statement on one table stops: a rule, a row that is too long, or a foreign key.
use Rattle.store_sql.proofs.Words.{All, Answers, Applies, AtPlace, Chosen, Database, Delete, Does, Edit, Edited}
use Rattle.store_sql.proofs.Words.{Enforced, Err, Error, Given, Has, Insert, IsOversized, List, None, Ok, OnRows}
use Rattle.store_sql.proofs.Words.{Option, Program, ProgramOverflows, Refers, Refusal, Result, Row, Schema, Some, Table}
use Rattle.store_sql.proofs.Words.{Task, Term, Trees, Update, Updates, Values, Written, [], accepts_program}
use Rattle.store_sql.proofs.Words.{accepts_terms, ap, arith, edit_of, false, ids_of, inl, inr, length, lets_of}
use Rattle.store_sql.proofs.Words.{one_step, slice_get, stamped, subst, suc, sym, taken_by, true, value_rows, works}
use Rattle.store_sql.proofs.Words.{zero, ℕ, ◌/◌, ◌∙◌, ◌∷◌, ◌≡◌, ◌⊎◌}
use Rattle.std.proofs.Common.{length-append}
use Rattle.sqlite_rules.specs.Action.{Leads}
use Rattle.sqlite_rules.specs.Edit.{IsRefused}
use Rattle.sqlite.specs.Does.{Concludes}
use Rattle.sqlite.specs.Rows.{Deletes, Inserts, Queried, Sourced}
use Rattle.store_sql.proofs.Statements.{mode, same_value, uncounted, went}

-- a rule refuses the edit, or one of its rows is too long, or it leaves a row without its parent
abbrev pub IsHalted : Schema → Trees → Edit → Type 0
IsHalted schema db edit = ((why : Refusal) × IsRefused schema Enforced db edit why)
    ⊎ (((row : Row) × Has edit.news row × IsOversized schema edit.table row)
    ⊎ ((next : Trees) × Applies schema Enforced db edit next × (Refers All schema next → ⊥)))

-- a part that stopped did so in its first step, or later
pub halts : {B E R : Type 0} {e : E} {Stops : E → Type 0}
    → ((stop : E) × Stops stop × (◌≡◌ {A = Result B E} (Err e) (Err stop))) ⊎ R → ((stop : E) × Stops stop) ⊎ R
halts (inl h) = inl (h.0, h.1)
halts (inr on) = inr on

pub edited_halts : (schema : Schema) (db : Trees) (edit : Edit) (stop : Option Error)
    → works schema Enforced 0 edit.table.tree (taken_by db edit) edit.news ≡ []
    → Edited schema Enforced db edit (Err stop) → IsHalted schema db edit
edited_halts schema db edit stop none (why, inl refused, told) = inl (refused.0, refused.1)
edited_halts schema db edit stop none (why, inr (inl big), told) = inr (inl (big.0, big.1, big.2))
edited_halts schema db edit stop none (why, inr (inr went_on), told) =
    absurd (unsettled went_on.2.0 (rw none at went_on.2.1))
  where
    unsettled : (n : ℕ) → Leads schema Enforced n went_on.0 [] (Err why) → ⊥
    unsettled zero h = let e = h.1 in cc
    unsettled (suc n) h = omega (arith, ap length h.2, length-append h.0 (h.1 ∷ []))

module _ (db : Database) (schema : Schema) (has : db.schema ≡ schema) (at : ℕ) (table : Table)
    (found : slice_get schema.tables at ≡ Some (uncounted table)) (params : Row) (text : List ℕ)
    (none : (olds news : List Row) → works schema Enforced 0 table.tree olds news ≡ []) where
  abbrev task : Task
  task = record { limit = None; keys = Enforced; schema = schema; table = uncounted table; params = params }

  pub concluded : (edit : Edit) (w : Written) (stop : Option Error) → Applies schema Enforced db.trees edit w.trees
      → Concludes task mode None w (Err stop) → IsHalted schema db.trees edit
  concluded edit w stop did h = elim (halts h) [
    | inl tested ↦ inr (inr (w.trees, did, tested.1.0))
    | inr later ↦ absurd (elim (halts later.2) [ inl shown ↦ (let e = shown.1 in cc) | inr gives ↦ (let e = gives.2 in cc) ])
  ]

  -- ---- INSERT

  module _ (terms : List Term) (width : ℕ) (typed : accepts_terms terms (stamped (uncounted table) params) ≡ true) where
    abbrev rows : List Row
    rows = value_rows (stamped (uncounted table) params) width (length terms / width) terms

    abbrev insertion : Edit
    insertion = edit_of db.trees (uncounted table) [] Chosen 0 rows

    pub sourced : (stop : Option Error) → Sourced None (record { schema = schema; trees = db.trees }) (stamped (uncounted table) params)
        (Values terms width) (Err stop) → ⊥
    sourced None h = h
    sourced (Some e) (inl mismatch) = let wrong : true ≡ false = sym typed ∙ mismatch.1 in cc
    sourced (Some e) (inr interrupted) = let never : false ≡ true = interrupted.1 in cc

    insert_stopped : (stop : Option Error) → Inserts task (Values terms width) db.trees (Err stop)
        → IsHalted schema db.trees insertion
    insert_stopped stop h = elim (halts h) [
      | inl (s, missing) ↦ absurd (sourced s missing)
      | inr (given, is, more) ↦ elim (halts more) [
        | inl counted ↦ absurd (let e = counted.1 in cc)
        | inr (counter, counts, most) ↦ elim (halts most) [
          | inl (s, edited) ↦ edited_halts schema db.trees insertion s
              (none (taken_by db.trees insertion) insertion.news)
              (subst (λ rs. Edited schema Enforced db.trees (edit_of db.trees (uncounted table) [] Chosen 0 rs) (Err s)) is.1 edited)
          | inr (mid, edited, last) ↦ absurd (elim (halts last) [ inl over ↦ (let e = over.1 in cc) | inr gives ↦ (let e = gives.2 in cc) ])
        ]
      ]
    ]

    inserted_all : (w : Written) → Inserts task (Values terms width) db.trees (Ok w)
        → Applies schema Enforced db.trees insertion w.trees
    inserted_all w h =
        let given = went h in
        let written = went (went given.2).2 in
        let counted = went written.2 in
        let trees : w.trees ≡ written.0 = ap (λ (it : Written). it.trees) (same_value counted.2) ∙ same_value counted.1 in
        let wrote = subst (λ rs. Edited schema Enforced db.trees (edit_of db.trees (uncounted table) [] Chosen 0 rs) (Ok written.0))
        given.1.1 written.1 in
        rw trees (one_step schema Enforced db.trees written.0 insertion (none (taken_by db.trees insertion) insertion.news) wrote)

    pub insert_halts : (stop : Option Error) → Does None mode params db text None (Insert at (Values terms width)) (Err stop)
        → IsHalted schema db.trees insertion
    insert_halts stop h =
        let command = Insert at (Values terms width) in
        let ran = subst (λ s. Does None mode params (record db { schema = s }) text None command (Err stop)) has h in
        let done = subst (λ o. AtPlace
        (λ t. OnRows (record { limit = None; keys = Enforced; schema = schema; table = t; params = params }) mode None command
        db.trees) o (Err stop)) found ran in
        elim (halts done) [
          | inl (s, stopped) ↦ insert_stopped s stopped
          | inr (w, wrote, ended) ↦ concluded insertion w stop (inserted_all w wrote) ended
        ]

  -- ---- UPDATE and DELETE

  module _ (q : Program) (given : Row) (typed : accepts_program schema (lets_of q) q.body given ≡ true)
      (sure : ProgramOverflows db.trees given [] (lets_of q) q.body → ⊥) where
    queried : (stop : Option Error) → Queried None (record { schema = schema; trees = db.trees }) q given (Err stop) → ⊥
    queried None h = h
    queried (Some e) (inl mismatch) = let wrong : true ≡ false = sym typed ∙ mismatch.1 in cc
    queried (Some e) (inr (inl over)) = sure over.1
    queried (Some e) (inr (inr interrupted)) = let never : false ≡ true = interrupted.1 in cc

    abbrev pub change : List Row → Edit
    change rs = edit_of db.trees (uncounted table) (ids_of rs) Given 1 rs

    abbrev pub removal : List Row → Edit
    removal rs = edit_of db.trees (uncounted table) (ids_of rs) Given 0 []

    -- the rows that the query shows, and why they can't replace the old ones
    abbrev pub IsKept : (List Row → Edit) → Type 0
    IsKept edit =
        (rs : List Row) × Answers (record { schema = schema; trees = db.trees }) q given rs × IsHalted schema db.trees (edit rs)

    pub update_stopped : (stop : Option Error) → Updates task q given db.trees (Err stop) → IsKept change
    update_stopped stop h = elim (halts h) [
      | inl (s, missing) ↦ absurd (queried s missing)
      | inr (rs, answer, more) ↦ elim (halts more) [
        | inl (s, edited) ↦ (
          rs,
          answer,
          edited_halts schema db.trees (change rs) s (none (taken_by db.trees (change rs)) (change rs).news) edited,
        )
        | inr (next, edited, gives) ↦ absurd (let e = gives in cc)
      ]
    ]

    pub updated_all : (w : Written) → Updates task q given db.trees (Ok w)
        → (rs : List Row) × Answers (record { schema = schema; trees = db.trees }) q given rs
        × Applies schema Enforced db.trees (change rs) w.trees
    updated_all w h =
        let answered = went h in
        let written = went answered.2 in
        let edit = change answered.0 in
        let step = one_step schema Enforced db.trees written.0 edit (none (taken_by db.trees edit) edit.news) written.1 in
        let same = sym (ap (λ (it : Written). it.trees) (same_value written.2)) in
        (answered.0, answered.1, subst (Applies schema Enforced db.trees edit) same step)

  module _ (q : Program) (typed : accepts_program schema (lets_of q) q.body params ≡ true)
      (sure : ProgramOverflows db.trees params [] (lets_of q) q.body → ⊥) where
    delete_stopped : (stop : Option Error) → Deletes task q db.trees (Err stop) → IsKept q params typed sure (removal q params typed sure)
    delete_stopped stop h = elim (halts h) [
      | inl (s, missing) ↦ absurd (queried q params typed sure s missing)
      | inr (rs, answer, more) ↦ elim (halts more) [
        | inl (s, edited) ↦ let edit = removal q params typed sure rs in
            (rs, answer, edited_halts schema db.trees edit s (none (taken_by db.trees edit) edit.news) edited)
        | inr (next, edited, gives) ↦ absurd (let e = gives in cc)
      ]
    ]

    deleted_all : (w : Written) → Deletes task q db.trees (Ok w)
        → (rs : List Row) × Answers (record { schema = schema; trees = db.trees }) q params rs
        × Applies schema Enforced db.trees (removal q params typed sure rs) w.trees
    deleted_all w h =
        let answered = went h in
        let written = went answered.2 in
        let edit = removal q params typed sure answered.0 in
        let step = one_step schema Enforced db.trees written.0 edit (none (taken_by db.trees edit) edit.news) written.1 in
        let same = sym (ap (λ (it : Written). it.trees) (same_value written.2)) in
        (answered.0, answered.1, subst (Applies schema Enforced db.trees edit) same step)

    pub update_halts : (stop : Option Error) → Does None mode params db text None (Update at q) (Err stop)
        → IsKept q params typed sure (change q params typed sure)
    update_halts stop h =
        let ran = subst (λ s. Does None mode params (record db { schema = s }) text None (Update at q) (Err stop)) has h in
        let done = subst (λ o. AtPlace
        (λ t. OnRows (record { limit = None; keys = Enforced; schema = schema; table = t; params = params }) mode None (Update at q)
        db.trees) o (Err stop)) found ran in
        elim (halts done) [
          | inl (s, stopped) ↦ update_stopped q params typed sure s stopped
          | inr (w, wrote, ended) ↦ let all = updated_all q params typed sure w wrote in
              (all.0, all.1, concluded (change q params typed sure all.0) w stop all.2 ended)
        ]

    pub delete_halts : (stop : Option Error) → Does None mode params db text None (Delete at q) (Err stop)
        → IsKept q params typed sure (removal q params typed sure)
    delete_halts stop h =
        let ran = subst (λ s. Does None mode params (record db { schema = s }) text None (Delete at q) (Err stop)) has h in
        let done = subst (λ o. AtPlace
        (λ t. OnRows (record { limit = None; keys = Enforced; schema = schema; table = t; params = params }) mode None (Delete at q)
        db.trees) o (Err stop)) found ran in
        elim (halts done) [
          | inl (s, stopped) ↦ delete_stopped s stopped
          | inr (w, wrote, ended) ↦ let all = deleted_all w wrote in
              (all.0, all.1, concluded (removal q params typed sure all.0) w stop all.2 ended)
        ]
