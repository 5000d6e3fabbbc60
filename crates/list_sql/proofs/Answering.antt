-- The effect of the register's write over a table that holds a list guard.
use Rattle.std.proofs.Common.{◌≡◌, ℕ, true, false, Ok, Err, Option, None, Result, IsTrue}
use Rattle.std.proofs.Common.{inl, inr, ap, sym, subst, ◌∙◌, arith}
use Rattle.std.specs.Prelude.{is_some}
use Rattle.std.proofs.lemmas.Bool.{both_ways, cases_Bool}
use Rattle.sqlite.specs.Tree.{Trees}
use Rattle.sqlite.specs.State.{State as Connection, HasCleanDisk}
use Rattle.store_sql.specs.Faults.{HasFailed as SqlFailed}
use Rattle.store_sql.specs.declared.table_fault.Fault.{Fault}
use Rattle.store_sql.specs.declared.table_fault.Fault.TheVariants.{Damaged, Device, NoMemory}
use Rattle.list_guard.specs.Judged.{HasCause}
use Rattle.list_guard.specs.declared.register.RegisterFault.TheVariants as register
use Rattle.list_guard.specs.State.{State}
use Rattle.list_sql.specs.Contents.{Contents, Kept, list_tables}
use Rattle.list_sql.specs.Keeping.{HasFailed, HasList, IsFilled, Keeps, Leaves}
use Rattle.store_sql.specs.Refusals.{HasCauseOr}
use Rattle.list_sql.specs.Registering.{Leads}
use Rattle.list_sql.specs.Rows.{list_contents}
use Rattle.list_sql.specs.Told.{register_fault, told}
use Rattle.rows.specs.Transactions.{Has, Rests, Whole}

-- ---- failures

-- without a limit on the steps of a query, a failure is one of the disk, now or before
pub has_failed : (old new : Connection) → old.step_limit ≡ None → (IsTrue new.is_open → IsTrue old.is_open)
    → SqlFailed old new → HasFailed new
has_failed old new unlimited was (inl more) = inl (omega (arith, more))
has_failed old new unlimited was (inr (inl shut)) = elim (cases_Bool new.is_open) [
  | inl still ↦ absurd (both_ways old.is_open shut (was still))
  | inr is ↦ inr is
]
has_failed old new unlimited was (inr (inr limited)) =
    let wrong : true ≡ false = sym limited ∙ ap (λ (limit : Option ℕ). is_some limit) unlimited in cc

-- ---- writes

-- what leaves one state leaves one of two
pub widened : (c : Connection) (s t : State) → Leaves c s s → Leaves c s t
widened c s t left trees may = elim (left trees may) [ inl is ↦ inl is | inr is ↦ inl is ]

caused_or : (old new : Connection) (refused : Type 0) (f : Fault) → old.step_limit ≡ None
    → (IsTrue new.is_open → IsTrue old.is_open) → (refused → ⊥) → HasCauseOr refused old new f
    → HasCause (register_fault f) (HasFailed new)
caused_or old new refused NoMemory unlimited was never cause = tt
caused_or old new refused Damaged unlimited was never cause = absurd cause
caused_or old new refused Device unlimited was never (inl failed) = has_failed old new unlimited was failed
caused_or old new refused Device unlimited was never (inr why) = absurd (never why)

-- a whole write leads to the next state
module _ (Room : Type 0) (next : State) (after : Contents → Contents) (refused : Contents → Type 0)
    (lawful : IsFilled next) (same : (s : State) → after (list_contents s) ≡ list_contents next)
    (fits : (s : State) → Room → refused (list_contents s) → ⊥) (old new : Connection)
    (settled : (trees : Trees) → IsTrue new.is_open → new.may_leave trees → trees ≡ new.committed.trees) where
  cut_off : (r : Result (Unit {0}) Fault) → Whole list_tables after refused old new r → HasCleanDisk new → (s : State)
      → Keeps old s → Leaves old s s → Leaves new s next
  cut_off r whole clean s keeps left trees may = elim (whole.survives.crash clean trees may) [
    | inl was ↦ widened old s next left trees was
    | inr more ↦ inr (subst (Kept trees) (same s) (more.1 (list_contents s) (keeps.rows more.0)))
  ]

  pub leads_whole : (r : Result (Unit {0}) Fault) → Whole list_tables after refused old new r
      → Leads Room next old new (told (λ x. x) r)
  leads_whole (Ok x) whole = record {
    honest = λ clean. omega (arith, whole.survives.clean);
    kept = λ clean s keeps.
        let e = whole.ends clean in
        let rests : HasList next new =
        subst (λ c. Rests (Has list_tables c) new) (same s) (e.2 (list_contents s) (keeps.rows e.0)).1 in
        record {
          filled = lawful;
          unlimited = whole.survives.limit ∙ keeps.unlimited;
          autocommit = whole.outside clean keeps.autocommit;
          rows = λ _. rests;
        };
    fault = λ clean s keeps. tt;
    durable = λ clean s keeps trees left.
        let e = whole.ends clean in
        let rests : HasList next new =
        subst (λ c. Rests (Has list_tables c) new) (same s) (e.2 (list_contents s) (keeps.rows e.0)).1 in
        inl (subst (λ (t : Trees). Kept t (list_contents next)) (sym (settled trees e.1 left)) rests.committed.kept);
    crash = λ clean s keeps left. cut_off (Ok x) whole clean s keeps left;
    cause = λ clean s keeps room. tt;
  }
  leads_whole (Err f) whole = record {
    honest = λ clean. omega (arith, whole.survives.clean);
    kept = λ clean s keeps. tt;
    fault = λ clean s keeps. record {
      filled = keeps.filled;
      unlimited = whole.survives.limit ∙ keeps.unlimited;
      autocommit = whole.outside clean keeps.autocommit;
      rows = λ still.
          let e = whole.ends clean still in
          e.1 (list_contents s) (keeps.rows e.0);
    };
    durable = λ clean s keeps. tt;
    crash = λ clean s keeps left. cut_off (Err f) whole clean s keeps left;
    cause = λ clean s keeps room. caused_or old new (refused (list_contents s)) f keeps.unlimited
        (λ still. (whole.ends clean still).0) (fits s room)
        (whole.cause clean keeps.autocommit (list_contents s) keeps.rows);
  }

-- a fault without a call, if there is no room
pub leads_nowhere : {Room : Type 0} {next : State} (conn : Connection) → (Room → ⊥)
    → Leads Room next conn conn (Err register.Device)
leads_nowhere {next = next} conn never = record {
  honest = λ clean. clean;
  kept = λ clean s keeps. tt;
  fault = λ clean s keeps. keeps;
  durable = λ clean s keeps. tt;
  crash = λ clean s keeps left. widened conn s next left;
  cause = λ clean s keeps room. absurd (never room);
}
