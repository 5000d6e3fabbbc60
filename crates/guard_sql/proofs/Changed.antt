-- The state after a write: it is valid, its rows are those of the tables, and the tables have room.
use Rattle.std.proofs.Common.{◌≡◌, ℕ, ◌<◌, ◌^◌, [], ◌∷◌, None, Result, IsTrue, inl, inr, ap, sym, ◌∙◌}
use Rattle.std.proofs.Common.{refl, arith}
use Rattle.std.specs.Prelude.{length}
use Rattle.std.proofs.lemmas.Bool.Decides.{nat_tests}
use Rattle.sqlite.specs.Tree.{Trees}
use Rattle.sqlite.specs.State.{State as Connection}
use Rattle.sqlite_trees.proofs.ListLemmas.{all-append}
use Rattle.lines.proofs.Blobs.{length-key_blob}
use Rattle.values.proofs.SerialLemmas.{still_serials}
use Rattle.guard.specs.declared.approved.Approved.{Approved}
use Rattle.guard.specs.declared.scope.Scope.{Scope}
use Rattle.guard.specs.Judged.{IsKeepable}
use Rattle.guard.specs.Machine.{State, body_of, with_approved}
use Rattle.guard.specs.Retiring.{IsLowered, with_last}
use Rattle.guard_sql.specs.Changes.{with_approval, with_last as with_last_row}
use Rattle.guard_sql.specs.Contents.{guard_tables, no_contents}
use Rattle.guard_sql.specs.Keeping.{IsGuard, IsScope}
use Rattle.guard_sql.specs.Refusals.{RefusesApproval, RefusesGuard, RefusesLast}
use Rattle.guard_sql.specs.Registering.{Leads}
use Rattle.guard_sql.specs.Rows.{approval_row, guard_contents, guard_row}
use Rattle.guard_sql.specs.Told.{told}
use Rattle.rows.specs.Transactions.{Whole}
use Rattle.store_sql.specs.declared.table_fault.Fault.{Fault}
use Rattle.guard_sql.proofs.Answering.{leads_whole}
use Rattle.guard_sql.proofs.Newest.{body_has, free, one_more}

-- ---- one more body

pub more_lawful : (row : Approved) → row.serial < 2 ^ 63 → (s : State) → IsGuard s → IsGuard (with_approved s row)
more_lawful row low s guard = record {
  scope = guard.scope;
  numbers = all-append (λ (a : Approved). a.serial < 2 ^ 63) s.approved (row ∷ []) guard.numbers (low, tt);
}

pub more_same : (row : Approved) (s : State)
    → with_approval (approval_row row) (guard_contents s) ≡ guard_contents (with_approved s row)
more_same row s = ap (λ rows. record { guards = guard_row s.scope ∷ []; approved = rows })
    (sym (one_more s.approved row))

pub more_fits : (row : Approved) (s : State) → body_of s row.serial ≡ None → IsKeepable row
    → RefusesApproval (approval_row row) (guard_contents s) → ⊥
more_fits row s none room (inl (x, here, same)) =
    let it = body_has s.approved x here in
    free s row.serial none it.0 it.1 (ap (λ r. r.serial) (sym it.2) ∙ same)
more_fits row s none room (inr long) = let short = room.body in omega (arith, long, short)

-- ---- a lower last serial

pub last_below : (scope : Scope) → IsScope scope → scope.last < 2 ^ 63
last_below scope is = let h = is.serials in grind (arith, nat_tests)

pub lower_lawful : (last : ℕ) (s : State) → IsGuard s → IsLowered s last → IsGuard (with_last s last)
lower_lawful last s guard to = record {
  scope = record {
    ca = guard.scope.ca;
    serials = still_serials s.scope.first s.scope.last last guard.scope.serials to.0 to.1;
  };
  numbers = guard.numbers;
}

pub lower_same : (last : ℕ) (s : State) → with_last_row last (guard_contents s) ≡ guard_contents (with_last s last)
lower_same last s = refl

pub lower_fits : (last : ℕ) (s : State) → IsGuard s → RefusesLast last (guard_contents s) → ⊥
lower_fits last s guard (x, inl same, (one, long)) =
    let n = length-key_blob s.scope.ca in
    let m = guard.scope.ca in
    let size : length x.ca ≡ 51 = ap (λ g. length g.ca) same ∙ omega (arith, n, m) in
    omega (arith, long, size)
lower_fits last s guard (x, inr none, why) = absurd none

-- ---- the row of a new guard

pub opening_fits : (scope : Scope) → IsScope scope → RefusesGuard (guard_row scope) no_contents → ⊥
opening_fits scope is (inl (x, none, same)) = none
opening_fits scope is (inr long) =
    let n = length-key_blob scope.ca in let m = is.ca in omega (arith, long, n, m)

-- ---- the calls

module _ (old new : Connection)
    (settled : (trees : Trees) → IsTrue new.is_open → new.may_leave trees → trees ≡ new.committed.trees)
    (r : Result (Unit {0}) Fault) where
  pub last_set : (last : ℕ) → Whole guard_tables (with_last_row last) (RefusesLast last) old new r
      → Leads (λ s. IsLowered s last) (Unit {0}) (λ s. with_last s last) old new (told (λ x. x) r)
  last_set last = leads_whole (λ s. IsLowered s last) (Unit {0}) (λ s. with_last s last) (with_last_row last)
      (RefusesLast last) (lower_lawful last) (lower_same last) (λ s guard to room. lower_fits last s guard) old new
      settled r
