-- Finding the list in the rows.
use Rattle.std.proofs.Common.{◌≡◌, List, ◌∷◌, [], Ok, Err, Result, IsTrue, None, sym, subst, ◌∙◌, inl, inr, pos}
use Rattle.std.proofs.Common.{Bool, Equal, Option, Some, ap, ap₂, false, length, true, ℕ}
use Rattle.std.proofs.lemmas.Cmp.{tied_itself}
use Rattle.std.specs.List.Sorted.{IsPermutation}
use Rattle.sqlite.specs.Effect.{Database}
use Rattle.sqlite.specs.Order.{Row, column}
use Rattle.sqlite.specs.Tree.{Trees, rowid}
use Rattle.sqlite.specs.State.{State as Connection, IsUnchanged, Survives}
use Rattle.sqlite.specs.declared.types.Value.TheVariants.{Int}
use Rattle.sqlite_rules.proofs.PlaceLemmas.{tied_same}
use Rattle.sqlite_value.proofs.OrderLemmas.{value_cmp_total}
use Rattle.sqlite_value.specs.Order.{value_cmp}
use Rattle.store_sql.proofs.Edits.{of_row}
use Rattle.store_sql.specs.Contents.{Lists, at_places}
use Rattle.store_sql.specs.Faults.{HasCause, HasFailed as SqlFailed}
use Rattle.store_sql.specs.declared.table_fault.Fault.{Fault}
use Rattle.store_sql.specs.declared.table_fault.Fault.TheVariants.{Damaged, Device, NoMemory}
use Rattle.list_guard.specs.State.{State}
use Rattle.list_sql.specs.declared.lists.ListRow.{ListRow}
use Rattle.list_sql.specs.declared.opening_fault.OpeningFault.{OpeningFault}
use Rattle.list_sql.specs.declared.opening_fault.OpeningFault.TheVariants as fault
use Rattle.store_sql.specs.Calls.{Fails, Never}
use Rattle.list_sql.specs.Cells.{list_cells}
use Rattle.list_sql.specs.Contents.{Contents, HasRows, Kept, Means, list_places, list_tables}
use Rattle.list_sql.specs.Keeping.{HasList, IsFilled, Stores}
use Rattle.list_sql.specs.Opening.{FindsLast, IsExcused, IsUnlessRefused, Misses, Says, is_known, joined, last_in}
use Rattle.list_sql.specs.Opening.{listed}
use Rattle.store_sql.specs.Refusals.{HasCauseOr}
use Rattle.list_sql.specs.Rows.{bytes_of, list_contents, list_rows}
use Rattle.list_sql.specs.Told.{opening_fault}
use Rattle.rows.specs.Transactions.{Has}
use Rattle.list_sql.proofs.Answering.{has_failed}
use Rattle.list_sql.proofs.Elsewhere.{list_apart}
use Rattle.list_sql.proofs.Lookups.{AreApart, in_order}
use Rattle.list_sql.proofs.PieceLemmas.{list_again}
use Rattle.rows.proofs.Wholes.{rests_still}

-- ---- the rows of a table

-- no two rows of a table have the same id
ids_apart : (rows : List Row) (xs : List ListRow) → Lists list_cells list_places rows xs → AreApart xs
ids_apart rows xs h x y here there equal =
    let r = of_row list_cells list_places rows xs x h here in
    let s = of_row list_cells list_places rows xs y h there in
    let first : rowid r.0 ≡ Int (pos x.id) = ap (λ v. column v 0) r.2 in
    let second : rowid s.0 ≡ Int (pos x.id) = ap (λ v. column v 0) s.2 ∙ ap (λ n. Int (pos n)) (sym equal) in
    let tie : value_cmp (rowid r.0) (rowid s.0) ≡ Equal =
    ap₂ value_cmp first second ∙ tied_itself value_cmp_total (Int (pos x.id)) in
    let same : r.0 ≡ s.0 = tied_same rows r.0 s.0 h.apart r.1 s.1 tie in
    list_apart x y (sym r.2 ∙ ap (at_places list_places) same ∙ s.2)

-- so the rows of a list guard represent its list
said : (s : State) (db : Database) (rows : List ListRow) (r : Result (Option (List ℕ)) OpeningFault) → IsFilled s
    → Means db (list_contents s) → IsPermutation (list_rows (bytes_of s.last)) rows → r ≡ last_in rows → r ≡ Ok s.last
said s db rows r filled means same told =
    let apart = ids_apart (db.trees 0) (list_rows (bytes_of s.last)) means.kept.holds.lists in
    told ∙ sym (in_order (list_rows (bytes_of s.last)) rows apart same) ∙ list_again s.last apart filled

pub found_last : (old new : Connection) (rows : List ListRow) (r : Result (Option (List ℕ)) OpeningFault)
    → IsUnlessRefused (last_in rows) r
    → ((c : Contents) → Means old.now c → IsUnchanged old new × IsPermutation c.lists rows) → FindsLast old new r
found_last old new rows (Ok last) told finds = λ s filled means.
    let it = finds (list_contents s) means in
    let same = said s old.now rows (Ok last) filled means it.1 told in
    (cc, it.0)
found_last old new rows (Err fault.NoMemory) told finds = λ s filled means. inl (finds (list_contents s) means).0
found_last old new rows (Err fault.Device) told finds = λ s filled means.
    let same = said s old.now rows (Err fault.Device) filled means (finds (list_contents s) means).1 told in absurd cc
found_last old new rows (Err fault.Damaged) told finds = λ s filled means.
    let same = said s old.now rows (Err fault.Damaged) filled means (finds (list_contents s) means).1 told in cc
found_last old new rows (Err fault.AlreadyAGuard) told finds = λ s filled means.
    let same = said s old.now rows (Err fault.AlreadyAGuard) filled means (finds (list_contents s) means).1 told in cc
found_last old new rows (Err fault.NotAGuard) told finds = λ s filled means.
    let same = said s old.now rows (Err fault.NotAGuard) filled means (finds (list_contents s) means).1 told in cc
found_last old new rows (Err fault.WrongSchema) told finds = λ s filled means.
    let same = said s old.now rows (Err fault.WrongSchema) filled means (finds (list_contents s) means).1 told in cc

pub not_found : (old new : Connection) (f : Fault) → ((c : Contents) → Means old.now c → Fails old new)
    → ((c : Contents) → Means old.now c → HasCause old new f) → FindsLast old new (Err (opening_fault f))
not_found old new NoMemory fails cause = λ s filled means. fails (list_contents s) means
not_found old new Device fails cause = λ s filled means.
    (fails (list_contents s) means, cause (list_contents s) means)
not_found old new Damaged fails cause = λ s filled means. cause (list_contents s) means

-- an open connection at rest with the row stores the state
pub made_stores : (c : Connection) (s : State)
    → ((trees : Trees) → IsTrue c.is_open → c.may_leave trees → trees ≡ c.committed.trees) → IsTrue c.is_open
    → IsFilled s → c.step_limit ≡ None → HasList s c → Stores c s
made_stores c s settled is_open filled unlimited rests = record {
  keeps = record { filled = filled; unlimited = unlimited; autocommit = rests.autocommit; rows = λ _. rests };
  is_open = is_open;
  crash = λ trees may.
      inl (subst (λ (t : Trees). Kept t (list_contents s)) (sym (settled trees is_open may)) rests.committed.kept);
}

-- an unchanged connection stores the state that it had
pub opened_stores : (old new : Connection) (s : State)
    → ((trees : Trees) → IsTrue new.is_open → new.may_leave trees → trees ≡ new.committed.trees) → IsUnchanged old new
    → Survives old new Never → old.step_limit ≡ None → IsFilled s → HasList s old → Stores new s
opened_stores old new s settled same survives unlimited filled has =
    let rests : HasList s new = record {
      autocommit = same.0.mode ∙ has.autocommit;
      now = subst (Has list_tables (list_contents s)) (sym same.0.now_is) has.now;
      committed = subst (Has list_tables (list_contents s)) (sym same.0.committed_is) has.committed;
    } in
    made_stores new s settled same.0.is_open filled (survives.limit ∙ unlimited) rests

-- a fault with its cause is excused, if nothing is refused
pub excused : (old new : Connection) (refused : Type 0) (f : Fault) → old.step_limit ≡ None
    → (IsTrue new.is_open → IsTrue old.is_open) → (refused → ⊥) → HasCauseOr refused old new f
    → IsExcused new (opening_fault f)
excused old new refused NoMemory unlimited was never cause = tt
excused old new refused Damaged unlimited was never cause = cause
excused old new refused Device unlimited was never (inl failed) = has_failed old new unlimited was failed
excused old new refused Device unlimited was never (inr why) = absurd (never why)

-- if a query fails, the table stays, and the fault is excused
pub missed : (old new : Connection) (e : OpeningFault) → old.step_limit ≡ None → FindsLast old new (Err e)
    → Misses old new e
missed old new fault.NoMemory unlimited finds = λ s filled has.
    (tt, λ still. (rests_still (list_contents s) old new (finds s filled has.now) still).1 has)
missed old new fault.Device unlimited finds = λ s filled has.
    let f = finds s filled has.now in
    let still = rests_still (list_contents s) old new f.0 in
    (has_failed old new unlimited (λ is. (still is).0) f.1, λ is. (still is).1 has)
missed old new fault.Damaged unlimited finds = λ s filled has. absurd (finds s filled has.now)
missed old new fault.AlreadyAGuard unlimited finds = λ s filled has. absurd (finds s filled has.now)
missed old new fault.NotAGuard unlimited finds = λ s filled has. absurd (finds s filled has.now)
missed old new fault.WrongSchema unlimited finds = λ s filled has. absurd (finds s filled has.now)

-- ---- the meaning of any rows

-- rows never represent a failure
abbrev IsOfRows : Result (Option (List ℕ)) OpeningFault → Type 0
IsOfRows (Err fault.Device) = ⊥
IsOfRows r = Unit {0}

of_listed : (known : Bool) (bytes : Option (List ℕ)) → IsOfRows (listed known bytes)
of_listed false bytes = tt
of_listed true None = tt
of_listed true (Some bytes) = tt

of_rows : (rows : List ListRow) → IsOfRows (last_in rows)
of_rows [] = tt
of_rows (row ∷ rows) = of_listed (is_known (row ∷ rows)) (joined (row ∷ rows) (length (row ∷ rows)))

says_of : (rows : List ListRow) (failed : Type 0) (r : Result (Option (List ℕ)) OpeningFault) → IsOfRows (last_in rows)
    → IsUnlessRefused (last_in rows) r → Says rows failed r
says_of rows failed (Ok last) of told = sym told
says_of rows failed (Err fault.NoMemory) of told = tt
says_of rows failed (Err fault.Device) of told = absurd (subst IsOfRows (sym told) of)
says_of rows failed (Err fault.Damaged) of told = sym told
says_of rows failed (Err fault.AlreadyAGuard) of told = sym told
says_of rows failed (Err fault.NotAGuard) of told = sym told
says_of rows failed (Err fault.WrongSchema) of told = sym told

-- the order of the rows doesn't matter
pub says : (db : Database) (xs rows : List ListRow) (failed : Type 0) (r : Result (Option (List ℕ)) OpeningFault)
    → HasRows xs db → IsPermutation xs rows → IsUnlessRefused (last_in rows) r → Says xs failed r
says db xs rows failed r has same told =
    let ordered = in_order xs rows (ids_apart (db.trees 0) xs has.holds) same in
    says_of xs failed r (of_rows xs) (subst (λ due. IsUnlessRefused due r) (sym ordered) told)

pub says_fault : (rows : List ListRow) (old new : Connection) (f : Fault) → HasCause old new f
    → Says rows (SqlFailed old new) (Err (opening_fault f))
says_fault rows old new NoMemory cause = tt
says_fault rows old new Device cause = cause
says_fault rows old new Damaged cause = absurd cause

-- the rows of the table are those of its contents
pub its_rows : (c : Contents) (db : Database) → Means db c → HasRows c.lists db
its_rows c db means = record { schema = means.schema; holds = means.kept.holds.lists }
