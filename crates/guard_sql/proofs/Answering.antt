-- What a register's calls do over tables that keep a guard.
use Rattle.std.proofs.Common.{◌≡◌, ℕ, true, false, Ok, Err, Option, None, Result, IsTrue}
use Rattle.std.proofs.Common.{inl, inr, ap, sym, subst, refl, ◌∙◌, arith}
use Rattle.std.specs.Prelude.{is_some}
use Rattle.std.proofs.lemmas.Bool.{both_ways, cases_Bool}
use Rattle.sqlite.specs.Tree.{Trees}
use Rattle.sqlite.specs.State.{State as Connection, HasCleanDisk, IsUnchanged, Survives}
use Rattle.store_sql.specs.Faults.{HasCause as SqlCause, HasFailed as SqlFailed}
use Rattle.store_sql.specs.declared.table_fault.Fault.{Fault}
use Rattle.store_sql.specs.declared.table_fault.Fault.TheVariants.{Damaged, Device, NoMemory}
use Rattle.guard.specs.Judged.{HasCause}
use Rattle.guard.specs.declared.register.RegisterFault.TheVariants as register
use Rattle.guard.specs.State.{State}
use Rattle.store_sql.specs.Calls.{Fails, Never}
use Rattle.rows.specs.Calls.{FindsSuch}
use Rattle.guard_sql.specs.Contents.{Contents, Holds, Kept, guard_tables}
use Rattle.guard_sql.specs.Keeping.{HasFailed, HasGuard, IsGuard, Keeps, Leaves}
use Rattle.store_sql.specs.Refusals.{HasCauseOr}
use Rattle.guard_sql.specs.Registering.{Leads, Shows}
use Rattle.guard_sql.specs.Rows.{guard_contents}
use Rattle.rows.specs.Statements.{Found}
use Rattle.guard_sql.specs.Told.{register_fault, told}
use Rattle.rows.specs.Transactions.{Has, Rests, Whole}
use Rattle.rows.proofs.Before.{fails_before, same_before}
use Rattle.rows.proofs.Wholes.{rests_still, still_outside}

-- ---- failures

-- if no query has a limit on its steps, a failure is that of a disk, now or earlier
pub has_failed : (old new : Connection) → old.step_limit ≡ None → (IsTrue new.is_open → IsTrue old.is_open)
    → SqlFailed old new → HasFailed new
has_failed old new unlimited was (inl more) = inl (omega (arith, more))
has_failed old new unlimited was (inr (inl shut)) = elim (cases_Bool new.is_open) [
  | inl still ↦ absurd (both_ways old.is_open shut (was still))
  | inr is ↦ inr is
]
has_failed old new unlimited was (inr (inr limited)) =
    let wrong : true ≡ false = sym limited ∙ ap (λ (limit : Option ℕ). is_some limit) unlimited in cc

was_open : (old new : Connection) → Fails old new → IsTrue new.is_open → IsTrue old.is_open
was_open old new (inl same) still = same.0.was_open
was_open old new (inr back) still = back.was_open still

-- ---- reads

keeps_still : (old new : Connection) → Survives old new Never → Fails old new → (s : State) → Keeps old s → Keeps new s
keeps_still old new survives fails s keeps = record {
  guard = keeps.guard;
  unlimited = survives.limit ∙ keeps.unlimited;
  autocommit = still_outside old new fails keeps.autocommit;
  rows = λ still.
      let e = rests_still (guard_contents s) old new fails still in
      e.1 (keeps.rows e.0);
}

leaves_still : (old new : Connection) → Survives old new Never → HasCleanDisk new → (s : State) → Leaves old s s
    → Leaves new s s
leaves_still old new survives clean s left trees may = elim (survives.crash clean trees may) [
  | inl was ↦ left trees was
  | inr none ↦ absurd none
]

-- the cause of a fault, if the register is open and if it is shut
caused : (old new : Connection) (f : Fault) → old.step_limit ≡ None → Fails old new × (f ≡ Damaged → IsUnchanged old new)
    → (IsTrue old.is_open → SqlCause old new f) → HasCause (register_fault f) (HasFailed new)
caused old new NoMemory unlimited was cause = tt
caused old new Damaged unlimited was cause = cause (was.1 refl).0.was_open
caused old new Device unlimited was cause = has_failed old new unlimited (was_open old new was.0) failed
  where
    failed : SqlFailed old new
    failed = elim (cases_Bool old.is_open) [ inl is ↦ cause is | inr shut ↦ inr (inl shut) ]

pub shows_found : {X Y : Type 0} {Such : Contents → Option X → Type 0} (Shown : State → Y → Type 0) (of : Option X → Y)
    → ((s : State) (trees : Trees) → IsGuard s → Holds trees (guard_contents s) → (x : Option X)
    → Such (guard_contents s) x → Shown s (of x)) → {old new : Connection} (r : Result (Option X) Fault)
    → Found guard_tables (FindsSuch guard_tables Such) old new r → Shows Shown old new (told of r)
shows_found Shown of so {old = old} {new = new} (Ok x) found = record {
  honest = λ clean. omega (arith, found.survives.clean);
  before = λ clean. fails_before old new (inl (found.reads clean));
  row = λ clean s keeps.
      let rests = keeps.rows (found.reads clean).0.was_open in
      so s old.now.trees keeps.guard rests.now.kept.holds x (found.finds clean (guard_contents s) rests.now).1;
  same = λ clean. keeps_still old new found.survives (inl (found.reads clean));
  crash = λ clean s keeps. leaves_still old new found.survives clean s;
  cause = λ clean s keeps. tt;
}
shows_found Shown of so {old = old} {new = new} (Err f) found = record {
  honest = λ clean. omega (arith, found.survives.clean);
  before = λ clean. fails_before old new (found.reads clean).0;
  row = λ clean s keeps. tt;
  same = λ clean. keeps_still old new found.survives (found.reads clean).0;
  crash = λ clean s keeps. leaves_still old new found.survives clean s;
  cause = λ clean s keeps. caused old new f keeps.unlimited (found.reads clean)
      (λ is. found.fault clean (guard_contents s) (keeps.rows is).now);
}

-- an answer without a statement
pub shows_at_once : {Y : Type 0} (Shown : State → Y → Type 0) (y : Y) (conn : Connection)
    → ((s : State) → IsGuard s → Shown s y) → Shows Shown conn conn (Ok y)
shows_at_once Shown y conn so = record {
  honest = λ clean. clean;
  before = λ clean. same_before conn;
  row = λ clean s keeps. so s keeps.guard;
  same = λ clean s keeps. keeps;
  crash = λ clean s keeps left. left;
  cause = λ clean s keeps. tt;
}

-- ---- writes

-- the tables of the one state are those of one of the two
pub widened : (c : Connection) (s t : State) → Leaves c s s → Leaves c s t
widened c s t left trees may = elim (left trees may) [ inl is ↦ inl is | inr is ↦ inl is ]

caused_or : (old new : Connection) (refused : Type 0) (f : Fault) → old.step_limit ≡ None
    → (IsTrue new.is_open → IsTrue old.is_open) → (refused → ⊥) → HasCauseOr refused old new f
    → HasCause (register_fault f) (HasFailed new)
caused_or old new refused NoMemory unlimited was never cause = tt
caused_or old new refused Damaged unlimited was never cause = absurd cause
caused_or old new refused Device unlimited was never (inl failed) = has_failed old new unlimited was failed
caused_or old new refused Device unlimited was never (inr why) = absurd (never why)

-- the state after a whole write
module _ (May : State → Type 0) (Room : Type 0) (next : State → State) (after : Contents → Contents)
    (refused : Contents → Type 0) (lawful : (s : State) → IsGuard s → May s → IsGuard (next s))
    (same : (s : State) → after (guard_contents s) ≡ guard_contents (next s))
    (fits : (s : State) → IsGuard s → May s → Room → refused (guard_contents s) → ⊥) (old new : Connection)
    (settled : (trees : Trees) → IsTrue new.is_open → new.may_leave trees → trees ≡ new.committed.trees) where
  cut_off : (r : Result (Unit {0}) Fault) → Whole guard_tables after refused old new r → HasCleanDisk new → (s : State)
      → Keeps old s → Leaves old s s → Leaves new s (next s)
  cut_off r whole clean s keeps left trees may = elim (whole.survives.crash clean trees may) [
    | inl was ↦ widened old s (next s) left trees was
    | inr more ↦ inr (subst (Kept trees) (same s) (more.1 (guard_contents s) (keeps.rows more.0)))
  ]

  pub leads_whole : (r : Result (Unit {0}) Fault) → Whole guard_tables after refused old new r
      → Leads May Room next old new (told (λ x. x) r)
  leads_whole (Ok x) whole = record {
    honest = λ clean. omega (arith, whole.survives.clean);
    before = λ clean. tt;
    kept = λ clean s keeps may.
        let e = whole.ends clean in
        let rests : HasGuard (next s) new =
        subst (λ c. Rests (Has guard_tables c) new) (same s) (e.2 (guard_contents s) (keeps.rows e.0)).1 in
        record {
          guard = lawful s keeps.guard may;
          unlimited = whole.survives.limit ∙ keeps.unlimited;
          autocommit = whole.outside clean keeps.autocommit;
          rows = λ _. rests;
        };
    fault = λ clean s keeps. tt;
    durable = λ clean s keeps may trees left.
        let e = whole.ends clean in
        let rests : HasGuard (next s) new =
        subst (λ c. Rests (Has guard_tables c) new) (same s) (e.2 (guard_contents s) (keeps.rows e.0)).1 in
        inl (subst (λ (t : Trees). Kept t (guard_contents (next s))) (sym (settled trees e.1 left)) rests.committed.kept);
    crash = λ clean s keeps left may. cut_off (Ok x) whole clean s keeps left;
    cause = λ clean s keeps may room. tt;
  }
  leads_whole (Err f) whole = record {
    honest = λ clean. omega (arith, whole.survives.clean);
    before = λ clean. whole.kept clean;
    kept = λ clean s keeps may. tt;
    fault = λ clean s keeps. record {
      guard = keeps.guard;
      unlimited = whole.survives.limit ∙ keeps.unlimited;
      autocommit = whole.outside clean keeps.autocommit;
      rows = λ still.
          let e = whole.ends clean still in
          e.1 (guard_contents s) (keeps.rows e.0);
    };
    durable = λ clean s keeps may. tt;
    crash = λ clean s keeps left may. cut_off (Err f) whole clean s keeps left;
    cause = λ clean s keeps may room. caused_or old new (refused (guard_contents s)) f keeps.unlimited
        (λ still. (whole.ends clean still).0) (fits s keeps.guard may room)
        (whole.cause clean keeps.autocommit (guard_contents s) keeps.rows);
  }

-- a fault without a statement, for lack of room
pub leads_nowhere : {May : State → Type 0} {Room : Type 0} {next : State → State} (conn : Connection)
    → ((s : State) → IsGuard s → May s → Room → ⊥) → Leads May Room next conn conn (Err register.Device)
leads_nowhere {next = next} conn never = record {
  honest = λ clean. clean;
  before = λ clean. same_before conn;
  kept = λ clean s keeps may. tt;
  fault = λ clean s keeps. keeps;
  durable = λ clean s keeps may. tt;
  crash = λ clean s keeps left may. widened conn s (next s) left;
  cause = λ clean s keeps may room. absurd (never s keeps.guard may room);
}
