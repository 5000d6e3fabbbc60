-- The histories that tables represent after a call.
use Rattle.store.proofs.Words.{Arrival, Contents, DiskFailed, Fails, Has, HasCleanDisk, HasFailed, IsTrue, List, Never}
use Rattle.store.proofs.Words.{None, Opening, Option, Rests, Survives, Tells, Trees, ap, false, inl, inr, is_some}
use Rattle.store.proofs.Words.{office_contents, subst, sym, true, ℕ, ◌∙◌, ◌≡◌}
use Rattle.sqlite.specs.State.{State}
use Rattle.store_sql.specs.Contents.{Kept}
use Rattle.store.specs.Meaning.{IsLeft, KeepsTelling}

-- if no query has a limit on its steps, only a disk fails
pub disk_failed : (old new : State) → old.step_limit ≡ None → HasFailed old new → DiskFailed old new
disk_failed old new unlimited (inl more) = inl more
disk_failed old new unlimited (inr (inl shut)) = inr shut
disk_failed old new unlimited (inr (inr limited)) =
    let wrong : true ≡ false = sym limited ∙ ap (λ (limit : Option ℕ). is_some limit) unlimited in cc

-- a call that fails leaves tables as they are
rests_still : (c : Contents) (a b : State) → Fails a b → IsTrue b.is_open
    → IsTrue a.is_open × (Rests (Has c) a → Rests (Has c) b)
rests_still c a b (inl same) still = (
  same.0.was_open,
  λ rests. record {
    autocommit = same.0.mode ∙ rests.autocommit;
    now = subst (Has c) (sym same.0.now_is) rests.now;
    committed = subst (Has c) (sym same.0.committed_is) rests.committed;
  },
)
rests_still c a b (inr back) still =
    let u = back.undone still in (
      back.was_open still,
      λ rests. record {
        autocommit = back.autocommit;
        now = subst (Has c) (sym u.0) rests.committed;
        committed = subst (Has c) (sym u.1) rests.committed;
      },
    )

-- a call that leaves the tables as they are
pub tells_still : (old new : State) → Survives old new Never → HasCleanDisk new → Fails old new → (o : Opening)
    (l : List Arrival) → Tells old o l → Tells new o l
tells_still old new survives clean fails o l tells = record {
  history = tells.history;
  unlimited = survives.limit ∙ tells.unlimited;
  rows = λ still.
      let e = rests_still (office_contents o l) old new fails still in
      e.1 (tells.rows e.0);
  left = λ trees may. elim (survives.crash clean trees may) [
    | inl before ↦ tells.left trees before
    | inr none ↦ absurd none
  ];
}

-- a call that commits nothing over a closed connection, and leaves what an open one represents
pub keeps_telling : (old new : State) (Commits : Trees → Type 0) → HasCleanDisk new → Survives old new Commits
    → (IsTrue new.is_open → IsTrue old.is_open) → ((trees : Trees) → Commits trees → IsTrue old.is_open)
    → ((o : Opening) (l : List Arrival) → Tells old o l → IsTrue old.is_open → Tells new o l) → KeepsTelling old new
keeps_telling old new Commits clean survives was commits same o l tells = record {
  history = tells.history;
  unlimited = survives.limit ∙ tells.unlimited;
  rows = λ still. (same o l tells (was still)).rows still;
  left = λ trees may. elim (survives.crash clean trees may) [
    | inl before ↦ tells.left trees before
    | inr more ↦ (same o l tells (commits trees more)).left trees may
  ];
}

-- if a crash leaves only the committed tables, it leaves the history's rows
pub left_committed : (s : State) (o : Opening) (l : List Arrival)
    → ((trees : Trees) → s.may_leave trees → trees ≡ s.committed.trees) → Rests (Has (office_contents o l)) s
    → (trees : Trees) → s.may_leave trees → IsLeft o l trees
left_committed s o l settled rests trees may =
    inl (subst (λ (t : Trees). Kept t (office_contents o l)) (sym (settled trees may)) rests.committed.kept)
