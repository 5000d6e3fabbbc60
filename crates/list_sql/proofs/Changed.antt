-- The result of the write: the rows are those in the table, and the table has room for them.
use Rattle.std.proofs.Common.{◌≡◌, ◌≢◌, ℕ, List, [], ◌∷◌, Result, IsTrue, inl, inr, ap}
use Rattle.std.proofs.Common.{refl, arith, length, sym, ◌∙◌, Bool, true, false}
use Rattle.std.specs.Prelude.{◌==◌}
use Rattle.std.proofs.lemmas.Bool.{eqb-true}
use Rattle.krl.proofs.Booleans.{clash}
use Rattle.sqlite.specs.Tree.{Trees}
use Rattle.sqlite.specs.State.{State as Connection}
use Rattle.krl.specs.Contents.{IsPublished}
use Rattle.krl.specs.Published.{published_text}
use Rattle.list_guard.specs.Judged.{IsKeepable}
use Rattle.list_guard.specs.State.{State, with_last}
use Rattle.list_sql.specs.Changes.{with_rows}
use Rattle.list_sql.specs.Contents.{list_tables, no_contents}
use Rattle.list_sql.specs.Refusals.{RefusesList, RefusesNone}
use Rattle.list_sql.specs.Registering.{Leads}
use Rattle.list_sql.specs.Rows.{empty_row, list_contents}
use Rattle.list_sql.specs.Told.{told}
use Rattle.rows.specs.Transactions.{Whole}
use Rattle.store_sql.specs.declared.table_fault.Fault.{Fault}
use Rattle.list_sql.proofs.Answering.{leads_whole}

rows_same : (list : List ℕ) (s : State) → with_rows list (list_contents s) ≡ list_contents (with_last list)
rows_same list s = refl

-- ---- the row of a new list guard

pub opening_fits : RefusesList empty_row no_contents → ⊥
opening_fits (inl (x, none, same)) = none
opening_fits (inr long) = omega (arith, long)

-- ---- a published list has a byte

pub published_some : IsPublished [] → ⊥
published_some (c, h) =
    let same : length {A = ℕ} [] ≡ length (published_text c.head c.cas c.ids) = ap length h.text in omega (arith, same)

-- ---- a list with a byte, and one without

pub none_there : (list : List ℕ) (b : Bool) → b ≡ (length list == 0) → b ≡ true → list ≡ []
none_there [] b is h = refl
none_there (x ∷ list) b is h = let e = eqb-true (length (x ∷ list)) 0 (sym is ∙ h) in absurd (omega (arith, e))

pub some_there : (list : List ℕ) (b : Bool) → b ≡ (length list == 0) → b ≡ false → list ≢ []
some_there list b is h none = clash b (is ∙ ap (λ (l : List ℕ). length l == 0) none) h

-- ---- the call

pub list_kept : (old new : Connection)
    → ((trees : Trees) → IsTrue new.is_open → new.may_leave trees → trees ≡ new.committed.trees)
    → (r : Result (Unit {0}) Fault) (list : List ℕ) → list ≢ []
    → Whole list_tables (with_rows list) RefusesNone old new r
    → Leads (IsKeepable list) (with_last list) old new (told (λ x. x) r)
list_kept old new settled r list some = leads_whole (IsKeepable list) (with_last list) (with_rows list) RefusesNone some
    (rows_same list) (λ s room never. never) old new settled r
