-- Writing several rows in one transaction, and what the tables hold then.
use Rattle.std.proofs.Common.{◌≡◌, ◌<◌, ◌^◌, ◌++◌, ◌∷◌, ◌+◌, ◌∙◌, [], ℕ, List, All, None, Ok, Err, Result, IsTrue, ap, arith}
use Rattle.std.proofs.Common.{append_assoc, drop, get_or, inl, length, refl, subst, sym, take}
use Rattle.std.specs.Prelude.{fold}
use Rattle.std.proofs.lemmas.List.{take-append-drop, take_more}
use Rattle.std.proofs.lemmas.List.Elements.{All-head, All-tail, All-weaker, recursion_from_All}
use Rattle.std.proofs.lemmas.List.Sums.{fold-append}
use Rattle.sqlite.specs.Tree.{Trees}
use Rattle.sqlite.specs.State.{HasCleanDisk, State as Connection, Survives}
use Rattle.sqlite_trees.proofs.ListLemmas.{all-append}
use Rattle.store_sql.proofs.Staying.{stays_then}
use Rattle.store_sql.specs.declared.table_fault.Fault.{Fault}
use Rattle.guard.specs.declared.approved.Approved.{Approved}
use Rattle.guard.specs.Judged.{AreNew, IsKeepable}
use Rattle.guard.specs.Machine.{State, body_of, with_approved, with_rows}
use Rattle.guard.proofs.Weighed.{none_more, rows_first}
use Rattle.guard_sql.specs.declared.approvals.ApprovalRow.{ApprovalRow}
use Rattle.guard_sql.specs.Changes.{with_approval}
use Rattle.guard_sql.specs.Contents.{Contents, guard_tables}
use Rattle.guard_sql.specs.Keeping.{IsGuard}
use Rattle.guard_sql.specs.Refusals.{RefusesApproval}
use Rattle.guard_sql.specs.Registering.{Leads as LeadsTo}
use Rattle.guard_sql.specs.Rows.{approval_row, guard_contents, guard_row}
use Rattle.guard_sql.specs.Several.{IsLow, RefusesApprovals, with_approvals}
use Rattle.guard_sql.specs.Told.{told}
use Rattle.guard_sql.proofs.Answering.{leads_whole}
use Rattle.guard_sql.proofs.Changed.{more_fits}
use Rattle.rows.specs.Transactions.{Has, Part, Waits, Whole}
use Rattle.rows.proofs.Causes.{fails_then}
use Rattle.rows.proofs.Steps.{Leads, answers_then, waits_then}

-- ---- one row after the other

-- the first rows have been written, of all these
abbrev pub Written : (all rows : List Approved) → Connection → Connection → Type 0
Written all rows old new =
    Part guard_tables {X = Unit {0}} (Has guard_tables) (with_approvals rows) (RefusesApprovals all) old new (Ok tt)

survives_still : (c : Connection) (P : Trees → Type 0) → Survives c c P
survives_still c P = record {
  clean = omega arith;
  shield = λ h. h;
  counts = omega arith;
  limit = refl;
  closes = λ clean is_open. inl is_open;
  crash = λ clean trees h. inl h;
}

-- nothing has been written over an open connection
pub none_written : (all : List Approved) (c : Connection) → (HasCleanDisk c → IsTrue c.is_open) → Written all [] c c
none_written all c opens = record {
  makes = λ clean d means. (
    tt,
    record { was_open = opens clean; is_open = opens clean; means = means; committed = λ _. refl; mode = refl },
  );
  fault = λ clean. tt;
  stays = λ clean inside. (record { was_open = λ still. still; committed = λ _. refl }, refl);
  survives = survives_still c (Waits (Has guard_tables) c);
}

-- the rows before one, it, and those after it
pub around : (rows : List Approved) (i : ℕ) (row : Approved) → i < length rows → row ≡ get_or rows i row
    → rows ≡ take i rows ++ row ∷ drop (i + 1) rows
around rows i row within is =
    sym (take-append-drop (i + 1) rows)
    ∙ (ap (λ (front : List Approved). front ++ drop (i + 1) rows)
    (take_more rows i row within ∙ ap (λ (a : Approved). take i rows ++ a ∷ []) (sym is))
    ∙ append_assoc (take i rows) (row ∷ []) (drop (i + 1) rows))

more : (before : List Approved) (row : Approved) (c : Contents)
    → with_approval (approval_row row) (with_approvals before c) ≡ with_approvals (before ++ row ∷ []) c
more before row c =
    ap (λ (rows : List ApprovalRow). record c { approved = rows })
    (sym (fold-append (λ (rs : List ApprovalRow) a. approval_row a ∷ rs) c.approved before (row ∷ [])))

module _ (all before : List Approved) (row : Approved) (later : List Approved) (is : all ≡ before ++ row ∷ later)
    (old mid new : Connection) (r : Result (Unit {0}) Fault) (first : Written all before old mid)
    (wrote : Part guard_tables (Has guard_tables) (with_approval (approval_row row))
    (RefusesApproval (approval_row row)) mid new r) where
  leads_on : HasCleanDisk mid → Leads guard_tables (Has guard_tables) (Has guard_tables) (with_approvals before) old mid
  leads_on clean c means = let it = first.makes clean c means in (with_approvals before c, it.1, it.1.means)

  still : HasCleanDisk new → HasCleanDisk mid
  still clean = omega (arith, wrote.survives.clean)

  -- the next row is written, or fails to be
  pub one_more : Part guard_tables (Has guard_tables) (with_approvals (before ++ row ∷ [])) (RefusesApprovals all) old new r
  one_more = record {
    makes = λ clean. answers_then (Has guard_tables) (λ _ _. Unit {0}) (with_approvals (before ++ row ∷ []))
        (Has guard_tables) (λ _ _. Unit {0}) (with_approval (approval_row row)) (with_approvals before) old mid new r
        (leads_on (still clean)) (wrote.makes clean) (λ _ _ _. tt) (more before row);
    fault = λ clean. fails_then (Has guard_tables) (Has guard_tables) (RefusesApproval (approval_row row))
        (RefusesApprovals all) (with_approvals before) (Waits (Has guard_tables) old) old mid new r
        (leads_on (still clean)) (λ c means why. (before, row, later, is, why)) first.survives (still clean)
        wrote.survives.counts (wrote.fault clean);
    stays = λ clean. stays_then {X = Unit {0}} old mid new tt r (first.stays (still clean)) (wrote.stays clean);
    survives = waits_then (Has guard_tables) (Has guard_tables) (with_approvals before) old mid new leads_on
        first.survives wrote.survives;
  }

-- a part that fails doesn't say what it would have made
pub failed : {all : List Approved} {old new : Connection} {f : Fault} (some meant : List Approved)
    → Part guard_tables {X = Unit {0}} (Has guard_tables) (with_approvals some) (RefusesApprovals all) old new (Err f)
    → Part guard_tables {X = Unit {0}} (Has guard_tables) (with_approvals meant) (RefusesApprovals all) old new (Err f)
failed some meant p = record { makes = p.makes; fault = p.fault; stays = p.stays; survives = p.survives }

-- ---- the state afterwards

rows_lawful : (rows : List Approved) → All IsLow rows → (s : State) → IsGuard s → IsGuard (with_rows s rows)
rows_lawful rows low s guard = record {
  scope = guard.scope;
  numbers = all-append (λ (a : Approved). a.serial < 2 ^ 63) s.approved rows guard.numbers
      (recursion_from_All (λ (a : Approved). a.serial < 2 ^ 63) rows
      (All-weaker IsLow (λ (a : Approved). a.serial < 2 ^ 63) (λ a is. is.0) rows low));
}

rows_same : (rows : List Approved) (s : State)
    → with_approvals rows (guard_contents s) ≡ guard_contents (with_rows s rows)
rows_same rows s = ap (λ (all : List ApprovalRow). record { guards = guard_row s.scope ∷ []; approved = all })
    (sym (fold-append (λ (rs : List ApprovalRow) a. approval_row a ∷ rs) [] s.approved rows))

-- a row is new after those before it
new_at : (s : State) (before : List Approved) (row : Approved) (later : List Approved)
    → AreNew s (before ++ row ∷ later) → body_of (with_rows s before) row.serial ≡ None
new_at s [] row later are = subst (λ (t : State). body_of t row.serial ≡ None) (sym (none_more s)) are.0
new_at s (a ∷ before) row later are =
    subst (λ (t : State). body_of t row.serial ≡ None) (rows_first s a before)
    (new_at (with_approved s a) before row later are.1)

one_of : (P : Approved → Type 0) (before : List Approved) (row : Approved) (later : List Approved)
    → All P (before ++ row ∷ later) → P row
one_of P [] row later all = All-head P row later all
one_of P (a ∷ before) row later all = one_of P before row later (All-tail P a (before ++ row ∷ later) all)

rows_fit : (rows : List Approved) (s : State) → AreNew s rows → All IsKeepable rows
    → RefusesApprovals rows (guard_contents s) → ⊥
rows_fit rows s are room (before, row, later, is, why) =
    more_fits row (with_rows s before) (new_at s before row later (subst (AreNew s) is are))
    (one_of IsKeepable before row later (subst (All IsKeepable) is room))
    (subst (RefusesApproval (approval_row row)) (rows_same before s) why)

pub bodies_kept : (old new : Connection)
    (settled : (trees : Trees) → IsTrue new.is_open → new.may_leave trees → trees ≡ new.committed.trees)
    (r : Result (Unit {0}) Fault) (rows : List Approved) → All IsLow rows
    → Whole guard_tables (with_approvals rows) (RefusesApprovals rows) old new r
    → LeadsTo (λ s. AreNew s rows) (All IsKeepable rows) (λ s. with_rows s rows) old new (told (λ x. x) r)
bodies_kept old new settled r rows low =
    leads_whole (λ s. AreNew s rows) (All IsKeepable rows) (λ s. with_rows s rows) (with_approvals rows)
    (RefusesApprovals rows) (λ s guard are. rows_lawful rows low s guard) (rows_same rows)
    (λ s guard are room. rows_fit rows s are room) old new settled r

-- a row that the tables have no room for
pub never_fits : (rows : List Approved) → (All IsKeepable rows → ⊥) → (s : State) → IsGuard s → AreNew s rows
    → All IsKeepable rows → ⊥
never_fits rows high s guard are room = high room
