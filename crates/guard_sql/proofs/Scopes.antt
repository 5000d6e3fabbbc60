-- The scope that is found in the row of a guard.
use Rattle.std.proofs.Common.{◌≡◌, List, [], ◌∷◌, Ok, Err, Result, IsTrue, None, sym, subst, refl, ◌∙◌, inl, inr}
use Rattle.std.proofs.Common.{Bool, Option, Some, ap, arith, false, true, ℕ}
use Rattle.std.proofs.lemmas.List.Sorted.{length_permutation}
use Rattle.std.specs.List.Sorted.{IsPermutation}
use Rattle.std.specs.Prelude.{if◌then◌else◌, ◌==◌, ◌&&◌}
use Rattle.lines.specs.Keys.{key_of}
use Rattle.values.specs.Serials.{are_serials}
use Rattle.sqlite.specs.Effect.{Database}
use Rattle.sqlite.specs.Tree.{Trees}
use Rattle.sqlite.specs.State.{State as Connection, IsUnchanged, Survives}
use Rattle.lines.proofs.Blobs.{key_of_again}
use Rattle.store_sql.proofs.NumberUpdates.{sole, void}
use Rattle.store_sql.specs.Faults.{HasCause, HasFailed as SqlFailed}
use Rattle.store_sql.specs.declared.table_fault.Fault.{Fault}
use Rattle.store_sql.specs.declared.table_fault.Fault.TheVariants.{Damaged, Device, NoMemory}
use Rattle.guard.specs.declared.scope.Scope.{Scope}
use Rattle.guard.specs.State.{State}
use Rattle.guard_sql.specs.declared.guards.GuardRow.{GuardRow}
use Rattle.guard_sql.specs.declared.opening_fault.OpeningFault.{OpeningFault}
use Rattle.guard_sql.specs.declared.opening_fault.OpeningFault.TheVariants as fault
use Rattle.store_sql.specs.Calls.{Fails, Never}
use Rattle.guard_sql.specs.Contents.{Contents, HasGuards, Kept, Means, guard_tables}
use Rattle.guard_sql.specs.Keeping.{HasGuard, IsGuard, IsScope, Stores}
use Rattle.guard_sql.specs.Opening.{FindsScope, IsExcused, Says, scope_in, scope_with}
use Rattle.store_sql.specs.Refusals.{HasCauseOr}
use Rattle.guard_sql.specs.Rows.{guard_contents, guard_row}
use Rattle.guard_sql.specs.Told.{opening_fault}
use Rattle.rows.specs.Transactions.{Has}
use Rattle.guard_sql.proofs.Answering.{has_failed}

-- a valid scope is read back
scope_again : (scope : Scope) → IsScope scope → scope_in (guard_row scope ∷ []) ≡ Ok scope
scope_again scope is = rw (key_of_again scope.ca is.ca, is.serials) refl

-- so the scope in a guard's rows is its own
said : (scope : Scope) (rows : List GuardRow) (r : Result Scope OpeningFault) → IsScope scope
    → IsPermutation (guard_row scope ∷ []) rows → r ≡ scope_in rows → r ≡ Ok scope
said scope rows r is same told =
    told ∙ subst (λ l. scope_in l ≡ Ok scope) (sym (sole (guard_row scope) rows same)) (scope_again scope is)

pub found_scope : (old new : Connection) (rows : List GuardRow) (r : Result Scope OpeningFault) → r ≡ scope_in rows
    → ((c : Contents) → Means old.now c → IsUnchanged old new × IsPermutation c.guards rows) → FindsScope old new r
found_scope old new rows (Ok scope) told finds = λ s guard means.
    let it = finds (guard_contents s) means in
    let same = said s.scope rows (Ok scope) guard.scope it.1 told in
    (cc, it.0)
found_scope old new rows (Err fault.NoMemory) told finds = λ s guard means.
    let same = said s.scope rows (Err fault.NoMemory) guard.scope (finds (guard_contents s) means).1 told in absurd cc
found_scope old new rows (Err fault.Device) told finds = λ s guard means.
    let same = said s.scope rows (Err fault.Device) guard.scope (finds (guard_contents s) means).1 told in absurd cc
found_scope old new rows (Err fault.Damaged) told finds = λ s guard means.
    let same = said s.scope rows (Err fault.Damaged) guard.scope (finds (guard_contents s) means).1 told in cc
found_scope old new rows (Err fault.AlreadyAGuard) told finds = λ s guard means.
    let same = said s.scope rows (Err fault.AlreadyAGuard) guard.scope (finds (guard_contents s) means).1 told in cc
found_scope old new rows (Err fault.NotAGuard) told finds = λ s guard means.
    let same = said s.scope rows (Err fault.NotAGuard) guard.scope (finds (guard_contents s) means).1 told in cc
found_scope old new rows (Err fault.WrongSchema) told finds = λ s guard means.
    let same = said s.scope rows (Err fault.WrongSchema) guard.scope (finds (guard_contents s) means).1 told in cc

pub not_found : (old new : Connection) (f : Fault) → ((c : Contents) → Means old.now c → Fails old new)
    → ((c : Contents) → Means old.now c → HasCause old new f) → FindsScope old new (Err (opening_fault f))
not_found old new NoMemory fails cause = λ s guard means. fails (guard_contents s) means
not_found old new Device fails cause = λ s guard means.
    (fails (guard_contents s) means, cause (guard_contents s) means)
not_found old new Damaged fails cause = λ s guard means. cause (guard_contents s) means

-- a connection that is open, at rest and has the rows durably represents the state
pub made_stores : (c : Connection) (s : State)
    → ((trees : Trees) → IsTrue c.is_open → c.may_leave trees → trees ≡ c.committed.trees) → IsTrue c.is_open
    → IsGuard s → c.step_limit ≡ None → HasGuard s c → Stores c s
made_stores c s settled is_open guard unlimited rests = record {
  keeps = record { guard = guard; unlimited = unlimited; autocommit = rests.autocommit; rows = λ _. rests };
  is_open = is_open;
  crash = λ trees may. inl (subst (λ (t : Trees). Kept t (guard_contents s)) (sym (settled trees is_open may)) rests.committed.kept);
}

-- an unchanged connection durably represents the state that it had
pub opened_stores : (old new : Connection) (s : State)
    → ((trees : Trees) → IsTrue new.is_open → new.may_leave trees → trees ≡ new.committed.trees) → IsUnchanged old new
    → Survives old new Never → old.step_limit ≡ None → IsGuard s → HasGuard s old → Stores new s
opened_stores old new s settled same survives unlimited guard has =
    let rests : HasGuard s new = record {
      autocommit = same.0.mode ∙ has.autocommit;
      now = subst (Has guard_tables (guard_contents s)) (sym same.0.now_is) has.now;
      committed = subst (Has guard_tables (guard_contents s)) (sym same.0.committed_is) has.committed;
    } in
    made_stores new s settled same.0.is_open guard (survives.limit ∙ unlimited) rests

-- a fault that has its cause is excused by it
pub excused : (old new : Connection) (refused : Type 0) (f : Fault) → old.step_limit ≡ None
    → (IsTrue new.is_open → IsTrue old.is_open) → (refused → ⊥) → HasCauseOr refused old new f
    → IsExcused new (opening_fault f)
excused old new refused NoMemory unlimited was never cause = tt
excused old new refused Damaged unlimited was never cause = cause
excused old new refused Device unlimited was never (inl failed) = has_failed old new unlimited was failed
excused old new refused Device unlimited was never (inr why) = absurd (never why)

-- ---- rows of any content

abbrev scope_if : GuardRow → Option (List ℕ) → Bool → Result Scope OpeningFault
scope_if row None b = Err fault.Damaged
scope_if row (Some key) b =
    if b then Ok (record { ca = key; first = row.first; last = row.last }) else Err fault.Damaged

-- an answer from the rows is neither a lack of memory nor a failure
abbrev IsOfRows : Result Scope OpeningFault → Type 0
IsOfRows (Ok scope) = Unit {0}
IsOfRows (Err fault.NoMemory) = ⊥
IsOfRows (Err fault.Device) = ⊥
IsOfRows (Err e) = Unit {0}

of_key : (row : GuardRow) (key : Option (List ℕ)) (b : Bool) → IsOfRows (scope_if row key b)
of_key row None b = tt
of_key row (Some key) true = tt
of_key row (Some key) false = tt

of_schema : (row : GuardRow) (b : Bool)
    → IsOfRows (if b then scope_with row (key_of row.ca) else Err fault.WrongSchema)
of_schema row true = with_key (key_of row.ca)
  where
    with_key : (key : Option (List ℕ)) → IsOfRows (scope_with row key)
    with_key None = tt
    with_key (Some key) = of_key row (Some key) (row.id == 1 && are_serials row.first row.last)
of_schema row false = tt

of_rows : (rows : List GuardRow) → IsOfRows (scope_in rows)
of_rows [] = tt
of_rows (row ∷ []) = of_schema row (row.schema == 1)
of_rows (row ∷ other ∷ rows) = tt

says_of : (rows : List GuardRow) (failed : Type 0) (r : Result Scope OpeningFault) → IsOfRows r → scope_in rows ≡ r
    → Says rows failed r
says_of rows failed (Ok scope) of is = is
says_of rows failed (Err fault.NoMemory) of is = tt
says_of rows failed (Err fault.Device) of is = absurd of
says_of rows failed (Err fault.Damaged) of is = is
says_of rows failed (Err fault.AlreadyAGuard) of is = is
says_of rows failed (Err fault.NotAGuard) of is = is
says_of rows failed (Err fault.WrongSchema) of is = is

-- the order of the rows doesn't matter
in_order : (xs ys : List GuardRow) → IsPermutation xs ys → scope_in xs ≡ scope_in ys
in_order [] ys same = ap scope_in (sym (void ys same))
in_order (x ∷ []) ys same = ap scope_in (sym (sole x ys same))
in_order (x ∷ w ∷ xs) [] same = absurd (let many = length_permutation _ _ same in omega (arith, many))
in_order (x ∷ w ∷ xs) (y ∷ []) same = absurd (let many = length_permutation _ _ same in omega (arith, many))
in_order (x ∷ w ∷ xs) (y ∷ z ∷ ys) same = refl

pub says : (xs rows : List GuardRow) (failed : Type 0) (r : Result Scope OpeningFault) → IsPermutation xs rows
    → r ≡ scope_in rows → Says xs failed r
says xs rows failed r same told =
    let is = in_order xs rows same ∙ sym told in
    says_of xs failed r (subst IsOfRows is (of_rows xs)) is

pub says_fault : (rows : List GuardRow) (old new : Connection) (f : Fault) → HasCause old new f
    → Says rows (SqlFailed old new) (Err (opening_fault f))
says_fault rows old new NoMemory cause = tt
says_fault rows old new Device cause = cause
says_fault rows old new Damaged cause = absurd cause

-- the table of a guard's rows is that of its contents
pub its_table : (c : Contents) (db : Database) → Means db c → HasGuards c.guards db
its_table c db means = record { schema = means.schema; holds = means.kept.holds.guards }
