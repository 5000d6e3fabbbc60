-- Why a run is refused, and that a deletion of runs never is.
use Rattle.store_sql.proofs.Words.{AllByRecursion, Bool, Contents, Damaged, Delete, Device, Err, FailsBy, Fault, Has}
use Rattle.store_sql.proofs.Words.{HasCause, HasCauseOr, INSERT_RUN, Index, Keeps, List, Means, NoMemory, Ok}
use Rattle.store_sql.proofs.Words.{RefusedFor, Result, Row, RunRow, State, Trees, Unique, [], accepts_program, all_has}
use Rattle.store_sql.proofs.Words.{ap, arith, cases_eq, clashes, column, drop, false, guards, ids_of, inl, inr, joined}
use Rattle.store_sql.proofs.Words.{lt-ltb, not, refl, placed_run, run_cells, statement_of, subst, true, understood}
use Rattle.store_sql.proofs.Words.{whole, with_tree, without_all, ℕ, ◌&&◌, ◌<◌, ◌==◌, ◌^◌, ◌∙◌, ◌≡◌}
use Rattle.sqlite_rules.proofs.ListLemmas.{test_from}
use Rattle.sqlite_rules.proofs.RuleLemmas.{keeps_at, keeps_from}
use Rattle.store_sql.specs.Refusals.{RefusesRun}
use Rattle.store_sql.proofs.RunTable.{puts, run_row}
use Rattle.store_sql.proofs.FaultLemmas.{HasWriteCause, none_overflows, Stops, refused_for}
use Rattle.store_sql.proofs.Inserts.{no_works, insert_fails, refers_still, taken_number}
use Rattle.store_sql.proofs.Reasons.{IsPut, never, other_tree, size, storable, unclashed}
use Rattle.store_sql.proofs.Stops.{delete_halts}
use Rattle.store_sql.proofs.NumberUpdates.{removal_halts}
use Rattle.store_sql.proofs.RunTable as run

-- ---- INSERT

run_put : (r : RunRow) → IsPut placed_run (run_row r)
unfolding joined
run_put r = record {
  listed = inr (inr (inr (inr (inl refl))));
  formed = (refl, refl, refl, refl);
  short = λ fits. (storable _ (run_row r) refl (refl, (refl, (refl, tt))) (omega arith, omega arith) fits, omega arith);
  entries = λ fits. ((λ e. cc), ((λ e. cc), ((λ e. cc), ((λ e. cc), tt))));
}

-- a run is never too long
run_short : (x : RunRow) → 10 ^ 9 < size (run_row x) → ⊥
run_short x long = omega (arith, long)

pub run_fails : {X : Type 0} (x : RunRow) → x.lo < 2 ^ 63 → (old new : State) (r : Result X Fault)
    → FailsBy (HasWriteCause INSERT_RUN.now (run_cells x)) old new r → RefusedFor (RefusesRun x) old new r
run_fails x below = insert_fails puts x (RefusesRun x) (λ s. run_put x)
    (λ s c means out. never (lt-ltb x.lo (2 ^ 63) below) out)
    (λ s c means taken. taken_number (λ y. y.lo) x.lo (drop 1 (run_row x))
    (λ y r is. ap (λ v. column v 0) is) means.kept.holds.runs taken)
    (λ s c means clash. absurd (unclashed s.now.trees placed_run [] (run_row x)
    ((λ e. never e refl), ((λ e. never e refl), ((λ e. never e refl), ((λ e. never e refl), tt)))) clash))
    (λ s c long. absurd (run_short x long))
    (λ s c next means did broken. absurd (broken (refers_still means did refl refl)))

-- ---- DELETE of runs

-- rows of a table without an index stay unique
kept_apart : (db : Trees) (tree : ℕ) (rows : List Row) → AllByRecursion (λ i. (i.table == tree) ≡ false) whole.indexes
    → Keeps Unique whole db → Keeps Unique whole (with_tree db tree rows)
kept_apart db tree rows none keeps = keeps_from Unique whole (with_tree db tree rows) (λ t row listed there.
    elim (cases_eq t.tree tree) [
      | inl same ↦ test_from (λ (i : Index). not (guards i t && clashes i.order i.columns (with_tree db tree rows t.tree) row)) whole.indexes
          (λ i here. let off : (i.table == t.tree) ≡ false = ap (λ n. i.table == n) same
          ∙ all_has (λ (j : Index). (j.table == tree) ≡ false) whole.indexes i none here in
          rw off (unguarded i.is_unique (clashes i.order i.columns (with_tree db tree rows t.tree) row)))
      | inr other ↦ let still = other_tree db tree rows t.tree other in
          rw still (keeps_at Unique whole db t row keeps listed (subst (λ l. Has l row) still there))
    ])
  where
    unguarded : (u b : Bool) → not ((u && false) && b) ≡ true
    unguarded true b = refl
    unguarded false b = refl

delete_typed : (ends : RunRow) → accepts_program whole [] run.delete_query (run_cells ends) ≡ true
delete_typed ends = refl

-- no deletion of runs is refused
pub deletes_runs : (ends : RunRow) (s : State) (c : Contents) → Means s.now c
    → Stops run.delete_sql (run_cells ends) (Delete 4 run.delete_program) s → ⊥
deletes_runs ends s c means stops =
    let db = s.now.trees in
    let kept = delete_halts s.now whole means.schema 4 placed_run refl (run_cells ends)
    (statement_of run.delete_sql (understood whole run.delete_sql)) (no_works 6) run.delete_program
    (delete_typed ends) (λ h. elim h [ inl over ↦ over | inr fold ↦ none_overflows _ fold ]) stops.0 stops.1 in
    let ids = ids_of kept.0 in
    removal_halts db placed_run ids (inr (inr (inr (inr (inl refl)))))
    (kept_apart db 6 (without_all (db 6) ids) (refl, (refl, (refl, (refl, tt)))) (means.kept.sound.obeys.rules Unique))
    (λ next did. refers_still means did refl refl) kept.2

-- ---- the calls

pub deletion_fails : {X : Type 0} (ends : RunRow) (old new : State) (r : Result X Fault)
    → FailsBy (HasWriteCause run.delete_sql (run_cells ends)) old new r → FailsBy HasCause old new r
deletion_fails {X} ends old new r h = unrefused r
    (refused_for run.delete_sql (run_cells ends) (Delete 4 run.delete_program) run.delete_is.0
    run.delete_is.2 (λ c. ⊥) (deletes_runs ends) old new r h)
  where
    cause : (f : Fault) → HasCauseOr ⊥ old new f → HasCause old new f
    cause NoMemory h = tt
    cause Device (inl failed) = failed
    cause Device (inr refused) = absurd refused
    cause Damaged h = h

    unrefused : (r : Result X Fault) → RefusedFor (λ c. ⊥) old new r → FailsBy HasCause old new r
    unrefused (Ok x) h = tt
    unrefused (Err f) h = λ c means. cause f (h c means)
