-- Why a row isn't inserted into a table of a guard.
use Rattle.rows.proofs.Words.{All, AllByRecursion, Applies, BadReference, Bool, Check, Datatype, Edit, Enforced}
use Rattle.rows.proofs.Words.{ForeignKey, Has, Index, IsOversized, IsTable, Keeps, List, Mismatch, NoRowid, NotNull}
use Rattle.rows.proofs.Words.{PrimaryKey, Refers, Row, Schema, Table, TooDeep, Trees, Unique, Value, Violates, agree}
use Rattle.rows.proofs.Words.{all_from, all_has, and_parts, are_typed, cases_Bool, clashes, drop, false}
use Rattle.rows.proofs.Words.{fits_i64, guards, id_in, index_reals, inl, inr, int_cmp, int_is, is_int, is_ne, is_taken}
use Rattle.rows.proofs.Words.{leb-true, left_by, length, list_any, nat_le, nat_lt, not, references_fit, refl, rowid}
use Rattle.rows.proofs.Words.{some_has, subst, sym, table_reals, tied_itself, true, with_tree, works, [], ℕ}
use Rattle.rows.proofs.Words.{ℤ, ◌&&◌, ◌<◌, ◌^◌, ◌∙◌, ◌∷◌, ◌≡◌, ◌≢◌, ◌≤◌, ◌⊎◌}
use Rattle.std.proofs.lemmas.Bool.{leb-false, not-false}
use Rattle.std.proofs.lemmas.Cmp.{int_cmp_total}
use Rattle.sqlite_trees.specs.Tree.{IsAscending}
use Rattle.sqlite_trees.specs.View.{IsStorable, IsStorableRow}
use Rattle.sqlite_sql.specs.Catalog.{entry_of}
use Rattle.sqlite_schema.specs.Rules.{are_present, differ, has_computed, passes_checks}
use Rattle.sqlite_rules.specs.Edit.{edited, taken_by}
use Rattle.sqlite_rules.specs.Keys.{are_unique}
use Rattle.sqlite_rules.proofs.EditLemmas.{turns}
use Rattle.sqlite_rules.proofs.ListLemmas.{fails_has}
use Rattle.sqlite_rules.proofs.RuleLemmas.{unique_kept}
use Rattle.sqlite_rules.proofs.TableLemmas.{put_has}
use Rattle.store_sql.proofs.Queries.{int_ne_test}
use Rattle.store_sql.proofs.Reasons.{other_tree, size, the_one, this_tree}
use Rattle.store_sql.proofs.Stops.{IsHalted}
use Rattle.sqlite_schema.specs.declared.schema.Reference.{Reference}

-- ---- tables that this crate can write

-- The tables have trees of their own, and no foreign keys. All of it is shown by computing with the tables.
pub record IsSimple (whole : Schema) : Type 0 where
  pub apart : IsAscending (λ a b. a.tree ≡ b.tree → ⊥) whole.tables
  pub fit : (adds removes : Bool) → AllByRecursion (λ t. references_fit whole t adds removes ≡ true) whole.tables
  pub no_works : (tree : ℕ) (olds news : List Row) → works whole Enforced 0 tree olds news ≡ []
  pub none_refer : (ref : Reference) → AllByRecursion (λ u. Has u.references ref → ⊥) whole.tables

-- ---- one row

differs_from_itself : (v : Value) → is_int v ≡ true → differ v v ≡ true → ⊥
differs_from_itself v int h =
    let id = int_is v int in
    let test : is_ne (int_cmp (id_in v) (id_in v)) ≡ true =
    sym (int_ne_test (id_in v) (id_in v)) ∙ subst (λ w. differ w w ≡ true) id h in
    let same = tied_itself int_cmp_total (id_in v) in
    let wrong : false ≡ true = subst (λ o. is_ne o ≡ true) same test in cc

-- what is known of a table and of a row that is inserted
pub record IsPut (whole : Schema) (table : Table) (new : Row) : Type 0 where
  pub listed : Has whole.tables table
  pub formed : ((are_typed table.key 0 table.columns (drop 1 new) && has_computed table new) ≡ true)
      × (are_present table.key 0 table.columns new ≡ true) × (passes_checks table new ≡ true)
      × (is_int (rowid new) ≡ true)
  pub short : size new ≤ 10 ^ 9 → IsStorableRow (table_reals table) new
  pub entries : size new ≤ 10 ^ 9
      → AllByRecursion (λ i. i.table ≡ table.tree → IsStorable (index_reals (table_reals table) i.columns) (entry_of i.columns new))
      whole.indexes

module _ (db : Trees) (table : Table) (gone : List ℤ) (new : Row) where
  abbrev pub one : Edit
  one = record { table = table; gone = gone; news = new ∷ [] }

  -- a row of the table has the key of the new one
  abbrev pub HasClash : Schema → Type 0
  HasClash whole = (i : Index) × Has whole.indexes i × (guards i table ≡ true) × (other : Row)
      × Has (left_by db one) other × (agree i.order i.columns other i.columns new ≡ true)

module _ (whole : Schema) (simple : IsSimple whole) (db : Trees) (table : Table) (gone : List ℤ) (new : Row) where
  other_row : (row : Row) → differ (rowid row) (rowid new) ≡ true → is_int (rowid new) ≡ true
      → (row ≡ new) ⊎ Has (left_by db (one db table gone new)) row → Has (left_by db (one db table gone new)) row
  other_row row differs int (inl same) =
      absurd (differs_from_itself (rowid new) int (subst (λ r. differ (rowid r) (rowid new) ≡ true) same differs))
  other_row row differs int (inr left) = left

  clash : Has whole.tables table → IsTable (db table.tree) → is_taken (left_by db (one db table gone new)) new ≡ false
      → is_int (rowid new) ≡ true → (after : Trees) → after table.tree ≡ edited db (one db table gone new)
      → AllByRecursion (λ t. t.tree ≢ table.tree → after t.tree ≡ db t.tree) whole.tables
      → Keeps Unique whole db → (Keeps Unique whole after → ⊥) → HasClash db table gone new whole
  clash listed ordered free int after rows others keeps broken =
      let turned = turns whole db after (one db table gone new) simple.apart listed ordered (rw free refl) rows others in
      elim (cases_Bool (are_unique whole.indexes after table (new ∷ []))) [
        | inl fine ↦ absurd (broken (unique_kept whole db after table (left_by db (one db table gone new)) (taken_by db (one db table gone new)) (new ∷ []) turned fine keeps))
        | inr fails ↦
            let index = fails_has
            (λ i. not (guards i table && list_any (clashes i.order i.columns (after table.tree)) (new ∷ []))) whole.indexes fails in
            let on : (guards index.0 table && list_any (clashes index.0.order index.0.columns (after table.tree)) (new ∷ [])) ≡ true =
            not-false
            (guards index.0 table && list_any (clashes index.0.order index.0.columns (after table.tree)) (new ∷ [])) index.2 in
            let parts = and_parts (guards index.0 table)
            (list_any (clashes index.0.order index.0.columns (after table.tree)) (new ∷ [])) on in
            let row = some_has (clashes index.0.order index.0.columns (after table.tree)) (new ∷ []) parts.1 in
            let is_new = the_one row.0 new row.1 in
            let meets = λ (other : Row). agree index.0.order index.0.columns other index.0.columns new && differ (rowid other) (rowid new) in
            let found = some_has meets (after table.tree)
            (subst (λ r. clashes index.0.order index.0.columns (after table.tree) r ≡ true) is_new row.2) in
            let both = and_parts (agree index.0.order index.0.columns found.0 index.0.columns new) (differ (rowid found.0) (rowid new)) found.2 in (
              index.0,
              index.1,
              parts.0,
              found.0,
              other_row found.0 both.1 int
                  (put_has new (left_by db (one db table gone new)) found.0 (subst (λ l. Has l found.0) rows found.1)),
              both.0,
            )
      ]

  -- if the table has no index, no row has it
  pub unclashed : AllByRecursion (λ i. guards i table ≡ true → ⊥) whole.indexes → HasClash db table gone new whole → ⊥
  unclashed none (i, here, on, other, there, same) = all_has (λ j. guards j table ≡ true → ⊥) whole.indexes i none here on

  -- Such a row is refused for its rowid, taken or out of range, its key, its size, or for lack of a parent.
  pub halted : {R : Type 0} → IsPut whole table new → IsTable (db table.tree) → Keeps Unique whole db
      → (fits_i64 (id_in (rowid new)) ≡ false → R) → (is_taken (left_by db (one db table gone new)) new ≡ true → R) → (HasClash db table gone new whole → R)
      → (10 ^ 9 < size new → R)
      → ((next : Trees) → Applies whole Enforced db (one db table gone new) next → (Refers All whole next → ⊥) → R) → IsHalted whole db (one db table gone new) → R
  halted {R} p ordered unique range taken clashes long orphan h = go h
    where
      within : size new ≤ 10 ^ 9 → (IsStorableRow (table_reals table) new → ⊥)
          ⊎ ((i : Index) × Has whole.indexes i × (i.table ≡ table.tree)
          × (IsStorable (index_reals (table_reals table) i.columns) (entry_of i.columns new) → ⊥)) → ⊥
      within fits (inl row) = row (p.short fits)
      within fits (inr (i, here, of, entry)) = entry (all_has
          (λ j. j.table ≡ table.tree → IsStorable (index_reals (table_reals table) j.columns) (entry_of j.columns new))
          whole.indexes i (p.entries fits) here of)

      too_long : (IsStorableRow (table_reals table) new → ⊥)
          ⊎ ((i : Index) × Has whole.indexes i × (i.table ≡ table.tree)
          × (IsStorable (index_reals (table_reals table) i.columns) (entry_of i.columns new) → ⊥)) → R
      too_long big = elim (cases_Bool (nat_le (size new) (10 ^ 9))) [
        | inl fits ↦ absurd (within (leb-true (size new) (10 ^ 9) fits) big)
        | inr over ↦ long (leb-false (size new) (10 ^ 9) over)
      ]

      broken : (Keeps Unique whole (with_tree db table.tree (edited db (one db table gone new))) → ⊥) → R
      broken unkept = elim (cases_Bool (is_taken (left_by db (one db table gone new)) new)) [
        | inl is_taken ↦ taken is_taken
        | inr free ↦ clashes (clash p.listed ordered free p.formed.3 (with_tree db table.tree (edited db (one db table gone new)))
            (this_tree db table.tree (edited db (one db table gone new)))
            (all_from (λ t. t.tree ≢ table.tree → with_tree db table.tree (edited db (one db table gone new)) t.tree ≡ db t.tree) whole.tables
            (λ t listed. other_tree db table.tree (edited db (one db table gone new)) t.tree)) unique unkept)
      ]

      go : IsHalted whole db (one db table gone new) → R
      go (inl (Violates Datatype, h)) = absurd (let wrong = rw p.formed.0 at h in cc)
      go (inl (Violates NotNull, h)) = absurd (let wrong = rw p.formed.1 at h in cc)
      go (inl (Violates Check, h)) = absurd (let wrong = rw p.formed.2 at h in cc)
      go (inl (Violates PrimaryKey, h)) = elim (cases_Bool (is_taken (left_by db (one db table gone new)) new)) [
        | inl is_taken ↦ taken is_taken
        | inr free ↦ absurd (let wrong = rw free at h in cc)
      ]
      go (inl (Violates Unique, h)) = broken h
      go (inl (Violates ForeignKey, h)) = absurd h
      go (inl (Mismatch, h)) = absurd (let wrong = rw p.formed.3 at h in cc)
      go (inl (NoRowid, h)) = elim (cases_Bool (fits_i64 (id_in (rowid new)))) [
        | inl fits ↦ absurd (let wrong = rw fits at h in cc)
        | inr out ↦ range out
      ]
      go (inl (BadReference, h)) =
          let fits = all_has (λ t. references_fit whole t true (nat_lt 0 (length gone)) ≡ true) whole.tables table
          (simple.fit true (nat_lt 0 (length gone))) p.listed in
          absurd (let wrong : true ≡ false = sym fits ∙ h in cc)
      go (inl (TooDeep, h)) = absurd h
      go (inr (inl (row, here, big))) = too_long (subst (λ r. IsOversized whole table r) (the_one row new here) big)
      go (inr (inr (next, did, unreferred))) = orphan next did unreferred

-- ---- edits that add no row

-- an edit that only removes rows isn't refused, if keys and references still hold
pub removal_halts : (whole : Schema) → IsSimple whole → (db : Trees) (table : Table) (gone : List ℤ)
    → let edit : Edit = record { table = table; gone = gone; news = [] } in
    Has whole.tables table → Keeps Unique whole (with_tree db table.tree (edited db edit))
    → ((next : Trees) → Applies whole Enforced db edit next → Refers All whole next) → IsHalted whole db edit → ⊥
removal_halts whole simple db table gone listed unique refers (inl (Violates Datatype, h)) = let wrong : true ≡ false = h in cc
removal_halts whole simple db table gone listed unique refers (inl (Violates NotNull, h)) = let wrong : true ≡ false = h in cc
removal_halts whole simple db table gone listed unique refers (inl (Violates Check, h)) = let wrong : true ≡ false = h in cc
removal_halts whole simple db table gone listed unique refers (inl (Violates PrimaryKey, h)) = let wrong : true ≡ false = h in cc
removal_halts whole simple db table gone listed unique refers (inl (Violates Unique, h)) = h unique
removal_halts whole simple db table gone listed unique refers (inl (Violates ForeignKey, h)) = h
removal_halts whole simple db table gone listed unique refers (inl (Mismatch, h)) = let wrong : true ≡ false = h in cc
removal_halts whole simple db table gone listed unique refers (inl (NoRowid, h)) = let wrong : true ≡ false = h in cc
removal_halts whole simple db table gone listed unique refers (inl (BadReference, h)) =
    let fits = all_has (λ t. references_fit whole t false (nat_lt 0 (length gone)) ≡ true) whole.tables table
    (simple.fit false (nat_lt 0 (length gone))) listed in
    let wrong : true ≡ false = sym fits ∙ h in cc
removal_halts whole simple db table gone listed unique refers (inl (TooDeep, h)) = h
removal_halts whole simple db table gone listed unique refers (inr (inl (row, none, big))) = none
removal_halts whole simple db table gone listed unique refers (inr (inr (next, did, broken))) = broken (refers next did)
