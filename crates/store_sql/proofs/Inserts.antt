-- INSERT of the columns of one struct, and why it is refused.
use Rattle.store_sql.proofs.Words.{All, AllByRecursion, Applies, Bool, Chosen, Contents, Database, Does, Edit, Enforced}
use Rattle.store_sql.proofs.Words.{FailsBy, Fault, ForeignKey, Has, Holds, Insert, Int, IsPermutation, Keeps, List}
use Rattle.store_sql.proofs.Words.{Lists, Means, None, Ok, Option, Refers, RefusedFor, Result, Row, Some, State, Table}
use Rattle.store_sql.proofs.Words.{Tally, Term, Trees, Unique, Values, [], accepts_terms, agree, all_from, all_has, ap}
use Rattle.store_sql.proofs.Words.{at_places, cast_row, placed_cert, edit_of, eqb-true, false, fits_i64, has_null}
use Rattle.store_sql.proofs.Words.{id_in}
use Rattle.store_sql.proofs.Words.{if◌then◌else◌, inl, inr, is_eq, is_taken, joined, length, list_any, plain, pos, refl}
use Rattle.store_sql.proofs.Words.{rowid, same_name, slice_get, some_has, stamped, statement_of, subst, sym, test_has}
use Rattle.store_sql.proofs.Words.{true, understood, value_cmp, value_cmp-Int, value_rows, whole, with_rowid, works, ℕ}
use Rattle.store_sql.proofs.Words.{◌/◌, ◌<◌, ◌==◌, ◌^◌, ◌||◌, ◌∙◌, ◌∷◌, ◌≡◌}
use Rattle.sqlite_schema.specs.declared.schema.Action.TheVariants.{NoAction}
use Rattle.sqlite_rules.specs.Action.{deed_of}
use Rattle.store_sql.proofs.Selects.{IsTreeOf}
use Rattle.store_sql.proofs.Statements.{mode, inserts, uncounted}
use Rattle.store_sql.proofs.Rows.{inserted, lists_more, same_number}
use Rattle.store_sql.proofs.Elsewhere.{Spares}
use Rattle.store_sql.proofs.FaultLemmas.{IsStatement, HasWriteCause, refused_for, Stops}
use Rattle.store_sql.proofs.CallLemmas.{Write}
use Rattle.sqlite_schema.specs.declared.schema.Reference.{Reference}
use Rattle.sqlite_schema.specs.Rules.{has_parent}
use Rattle.sqlite_rules.proofs.RuleLemmas.{refers_from}
use Rattle.store_sql.proofs.Reasons.{HasClash, IsPut, halted, size, one}
use Rattle.store_sql.specs.Schema.{to_department}
use Rattle.store_sql.proofs.Edits.{of_record}
use Rattle.std.proofs.lemmas.Bool.{eqb-false}
use Rattle.store_sql.proofs.Stops.{IsHalted, insert_halts}

idle : (b : Bool) → deed_of Enforced b (if b then NoAction else NoAction) ≡ None
idle true = refl
idle false = refl

-- no foreign key of the tables triggers an action
pub no_works : (tree : ℕ) (olds news : List Row) → works whole Enforced 0 tree olds news ≡ []
no_works tree olds news = rw (idle (length news == 0)) refl

-- The text that inserts the row of a struct. `row` is that row, which depends on the existing rows.
pub record IsInsert {X : Type 0} (sql : List ℕ) (cells : X → Row) (places : List ℕ) (at : ℕ) (table : Table)
    (terms : List Term)
    (width : ℕ) (with_x : X → Contents → Contents) (of : Contents → List X) (row : X → List Row → Row) : Type 0 where
  pub tree : IsTreeOf Holds cells places table.tree of
  pub found : slice_get whole.tables at ≡ Some (uncounted table)
  pub is : (x : X) → IsStatement sql (Insert at (Values terms width)) (length (cells x))
  pub source : X → Row
  pub sourced : (x : X)
      → (value_rows (stamped (uncounted table) (cells x)) width (length terms / width) terms ≡ source x ∷ [])
      × (accepts_terms terms (stamped (uncounted table) (cells x)) ≡ true)
  pub made : (x : X) (rows : List Row) → (with_rowid Chosen rows (cast_row (uncounted table) (source x)) ≡ row x rows)
      × (at_places places (row x rows) ≡ cells x)
  pub held : (x : X) (db after : Trees) (c : Contents) → Holds db c → Spares table.tree db after
      → IsPermutation (row x (db table.tree) ∷ db table.tree) (after table.tree)
      → Lists cells places (after table.tree) (x ∷ of c) → Holds after (with_x x c)

module _ {X : Type 0} {sql : List ℕ} {cells : X → Row} {places : List ℕ} {at : ℕ} {table : Table} {terms : List Term}
    {width : ℕ} {with_x : X → Contents → Contents} {of : Contents → List X} {row : X → List Row → Row}
    (it : IsInsert sql cells places at table terms width with_x of row) where
  does : (x : X) (limit : Option ℕ) (db next : Database) (tally : Tally) (c : Contents) → Means db c
      → Does limit mode (cells x) db (statement_of sql (understood whole sql)) None (Insert at (Values terms width))
      (Ok (tally, next)) → (next.schema ≡ whole) × Holds next.trees (with_x x c)
  does x limit db next tally c means h =
      let rows = value_rows (stamped (uncounted table) (cells x)) width (length terms / width) terms in
      let source = it.source x in
      let did = inserts limit db next tally whole means.schema at table it.found (cells x)
      (statement_of sql (understood whole sql)) terms width h
      (no_works table.tree [] (edit_of db.trees (uncounted table) [] Chosen 0 rows).news) in
      let put = subst (λ rs. Applies whole Enforced db.trees (edit_of db.trees (uncounted table) [] Chosen 0 rs)
      next.trees) (it.sourced x).0 did.0 in (
        did.1,
        it.held x db.trees next.trees c means.kept.holds put.tables
            (subst (λ r. IsPermutation (r ∷ db.trees table.tree) (next.trees table.tree))
            (it.made x (db.trees table.tree)).0 (inserted whole (uncounted table) db.trees next.trees source put))
            (lists_more cells places (uncounted table) db.trees next.trees (of c) x source
            (it.tree.held db.trees c means.kept.holds)
            (ap (at_places places) (it.made x (db.trees table.tree)).0 ∙ (it.made x (db.trees table.tree)).1) put),
      )

  pub insert : (x : X) → Write sql (cells x) (with_x x)
  insert x = record { command = Insert at (Values terms width); is = it.is x; on_rows = tt; does = does x }

-- ---- why it is refused

-- a struct has the number that is taken
pub taken_number : {X : Type 0} {cells : X → Row} {places : List ℕ} (number : X → ℕ) {rows : List Row} {xs : List X}
    (n : ℕ) (rest : Row) → ((x : X) (r : Row) → at_places places r ≡ cells x → rowid r ≡ Int (pos (number x)))
    → Lists cells places rows xs → is_taken rows (Int (pos n) ∷ rest) ≡ true → (x : X) × Has xs x × (number x ≡ n)
taken_number {cells = cells} {places = places} number {rows = rows} {xs = xs} n rest ids h taken =
    let found = some_has (λ r. is_eq (value_cmp (rowid r) (Int (pos n)))) rows taken in
    let it = of_record cells places rows xs found.0 h found.1 in
    let tie : is_eq (value_cmp (Int (pos (number it.0))) (Int (pos n))) ≡ true =
    subst (λ v. is_eq (value_cmp v (Int (pos n))) ≡ true) (ids it.0 found.0 it.2) found.2 in
    let same : (number it.0 == n) ≡ true =
    sym (same_number (number it.0) n) ∙ ap is_eq (sym (value_cmp-Int (pos (number it.0)) (pos n))) ∙ tie in
    (it.0, it.1, eqb-true (number it.0) n same)

-- ---- foreign keys

-- a department's row has the name in the certificate's row, unless that is NULL
abbrev pub has_department : Trees → Row → Bool
has_department trees row = has_null (2 ∷ []) row || list_any (λ d. agree plain (1 ∷ []) d (2 ∷ []) row) (trees 1)

pub parent_is : (trees : Trees) (row : Row) → has_parent whole.tables trees row (to_department 2) ≡ has_department trees row
unfolding same_name joined
parent_is trees row = refl

-- all references hold if each certificate's department exists
pub all_refer : (trees : Trees) → AllByRecursion (λ r. has_department trees r ≡ true) (trees 3) → Refers All whole trees
all_refer trees all = refers_from All whole trees (λ t ref row listed known is there.
    all_has (λ (u : Table). Has u.references ref → Has (trees u.tree) row
    → has_parent whole.tables trees row ref ≡ true) whole.tables t (never, (never, (at_cert ref row, (never, (never, (never, (never, tt))))))) listed known there)
  where
    never : {A B : Type 0} → ⊥ → A → B
    never none there = absurd none

    at_cert : (ref : Reference) (row : Row) → Has placed_cert.references ref → Has (trees 3) row
        → has_parent whole.tables trees row ref ≡ true
    at_cert ref row (inl same) there = subst (λ r. has_parent whole.tables trees row r ≡ true) (sym same)
        (parent_is trees row ∙ all_has (λ r. has_department trees r ≡ true) (trees 3) row all there)
    at_cert ref row (inr none) there = absurd none

-- each certificate's department exists
pub each_refers : (trees : Trees) → Keeps ForeignKey whole trees → AllByRecursion (λ r. has_department trees r ≡ true) (trees 3)
each_refers trees keeps = all_from (λ r. has_department trees r ≡ true) (trees 3) (λ row there.
    sym (parent_is trees row) ∙ test_has (has_parent whole.tables trees row) (to_department 2 ∷ []) (to_department 2)
    (all_has (λ r. Rattle.std.specs.List.list_all (has_parent whole.tables trees r) (to_department 2 ∷ []) ≡ true) (trees 3) row
    keeps.1.1.0 there) (inl refl))

-- an edit of another table breaks no reference
pub refers_still : {now : Database} {c : Contents} {next : Trees} {edit : Edit} → Means now c
    → Applies whole Enforced now.trees edit next → (1 == edit.table.tree) ≡ false
    → (3 == edit.table.tree) ≡ false → Refers All whole next
refers_still {now = now} {next = next} {edit = edit} means did one three =
    let departments : next 1 ≡ now.trees 1 = did.tables.1.0 (eqb-false 1 edit.table.tree one) in
    let certs : next 3 ≡ now.trees 3 = did.tables.1.1.0 (eqb-false 3 edit.table.tree three) in
    let was = each_refers now.trees (means.kept.sound.obeys.rules ForeignKey) in
    all_refer next (rw certs (subst (λ ds. AllByRecursion (λ r. (has_null (2 ∷ []) r
    || list_any (λ d. agree plain (1 ∷ []) d (2 ∷ []) r) ds) ≡ true) (now.trees 3)) (sym departments) was))

-- ---- INSERT

module _ {X : Type 0} {sql : List ℕ} {cells : X → Row} {places : List ℕ} {at : ℕ} {table : Table} {terms : List Term}
    {width : ℕ} {with_x : X → Contents → Contents} {of : Contents → List X} {row : X → List Row → Row}
    (it : IsInsert sql cells places at table terms width with_x of row) (x : X) where
  halts : (s : State) (c : Contents) → Means s.now c → Stops sql (cells x) (Insert at (Values terms width)) s
      → IsHalted whole s.now.trees (one s.now.trees (uncounted table) [] (row x (s.now.trees table.tree)))
  halts s c means stops =
      let trees = s.now.trees in
      let halts = insert_halts s.now whole means.schema at table it.found (cells x)
      (statement_of sql (understood whole sql)) (no_works table.tree) terms width (it.sourced x).1 stops.0 stops.1 in
      let given = subst (λ rs. IsHalted whole trees (edit_of trees (uncounted table) [] Chosen 0 rs))
      (it.sourced x).0 halts in
      subst (λ r. IsHalted whole trees (one trees (uncounted table) [] r)) (it.made x (trees table.tree)).0 given

  -- the edit of the row, and the row
  abbrev pub adds : State → Edit
  adds s = one s.now.trees (uncounted table) [] (row x (s.now.trees table.tree))

  abbrev pub new_row : State → Row
  new_row s = row x (s.now.trees table.tree)

  -- Why the call fails: the number is out of range or taken, or the key is taken, or the row is too long, or its parent
  -- is missing.
  pub insert_fails : (Refuses : Contents → Type 0) → ((s : State) → IsPut (uncounted table) (new_row s))
      → ((s : State) (c : Contents) → Means s.now c → fits_i64 (id_in (rowid (new_row s))) ≡ false → Refuses c)
      → ((s : State) (c : Contents) → Means s.now c → is_taken (s.now.trees table.tree) (new_row s) ≡ true → Refuses c)
      → ((s : State) (c : Contents) → Means s.now c → HasClash s.now.trees (uncounted table) [] (new_row s) → Refuses c)
      → ((s : State) (c : Contents) → 10 ^ 9 < size (new_row s) → Refuses c)
      → ((s : State) (c : Contents) (next : Trees) → Means s.now c → Applies whole Enforced s.now.trees (adds s) next
      → (Refers All whole next → ⊥) → Refuses c)
      → {Y : Type 0} (old new : State) (r : Result Y Fault) → FailsBy (HasWriteCause sql (cells x)) old new r
      → RefusedFor Refuses old new r
  insert_fails Refuses put range taken clash long orphan =
      refused_for sql (cells x) (Insert at (Values terms width)) (it.is x).0 (it.is x).2 Refuses (λ s c means stops.
      halted s.now.trees (uncounted table) [] (new_row s) (put s) (it.tree.held s.now.trees c means.kept.holds).apart
      (means.kept.sound.obeys.rules Unique) (range s c means) (taken s c means)
      (clash s c means) (long s c) (λ next did broken. orphan s c next means did broken) (halts s c means stops))
