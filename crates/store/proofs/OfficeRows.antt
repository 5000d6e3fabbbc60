-- Looking at the tables of an office.
use Rattle.store.proofs.Words.{All, All-cons, All-nil, All-permutation, Bool, Contents, Database, DiskFailed, Err}
use Rattle.store.proofs.Words.{Fault, HasCauseOr, HasStopped, IsExcused, List, None, OfficeRow, Ok, RefusesFirstCa}
use Rattle.store.proofs.Words.{Result, StoreFault, [], arith, cases_Bool, false, inl, inr, is_office_table}
use Rattle.store.proofs.Words.{length_permutation, list_any, refl, store_fault_of, subst, sym, true, ◌==◌, ◌∙◌, ◌∷◌}
use Rattle.store.proofs.Words.{◌≡◌}
use Rattle.std.specs.Prelude.{IsPermutation}
use Rattle.store_sql.proofs.FirstTable.{first_seen}
use Rattle.store_sql.specs.Contents.{HasOffices}
use Rattle.office.specs.declared.store_fault.StoreFault.TheVariants.{Device, NoMemory}
use Rattle.sqlite.specs.State.{State}
use Rattle.store_sql.specs.declared.table_fault.Fault.TheVariants as table_fault
use Rattle.store.specs.Meaning.{Looks, opened_by}
use Rattle.store.proofs.Telling.{disk_failed}

-- the `office` table is found
pub unseen : (b : Bool) (rows : List OfficeRow) (db : Database) → b ≡ list_any is_office_table db.schema.tables
    → b ≡ false → HasOffices rows db → ⊥
unseen b rows db is off has =
    let found : true ≡ false = sym (is ∙ first_seen db.schema.tables has.first) ∙ off in
    cc

-- the order of the rows doesn't matter
opened_same : (xs ys : List OfficeRow) → IsPermutation xs ys → opened_by xs ≡ opened_by ys
opened_same [] [] p = refl
opened_same (x ∷ []) (y ∷ []) p =
    let one : All (λ z. z ≡ x) (x ∷ []) = All-cons (λ z. z ≡ x) x [] refl (All-nil (λ z. z ≡ x)) in
    let same : y ≡ x = All-permutation (λ z. z ≡ x) (x ∷ []) (y ∷ []) p one 0 y (omega arith) in
    rw same refl
opened_same (x ∷ w ∷ xs) (y ∷ z ∷ ys) p = refl
opened_same xs ys p = absurd (let many = length_permutation xs ys p in omega arith)

looks_own : (rows : List OfficeRow) (failed : Type 0) → Looks rows failed (opened_by rows)
looks_own [] failed = refl
looks_own (row ∷ []) failed = elim (cases_Bool (row.schema == 2)) [
  | inl is ↦ rw is (rw is refl)
  | inr is ↦ rw is (rw is refl)
]
looks_own (row ∷ other ∷ rows) failed = refl

-- the answer that the rows specify
pub looked : (xs : List OfficeRow) (failed : Type 0) (rows : List OfficeRow) (r : Result (Unit {0}) StoreFault)
    → IsPermutation xs rows → r ≡ opened_by rows → Looks xs failed r
looked xs failed rows r p is = subst (Looks xs failed) (opened_same xs rows p ∙ sym is) (looks_own xs failed)

-- a failure stated in other terms
pub looks_weaker : (rows : List OfficeRow) (P Q : Type 0) (r : Result (Unit {0}) StoreFault) → (P → Q)
    → Looks rows P r → Looks rows Q r
looks_weaker rows P Q (Err Device) so h = so h
looks_weaker rows P Q _ so h = h

-- an existing office is found
pub not_missed : (rows : List OfficeRow) (failed : Type 0) (e : StoreFault) → opened_by rows ≡ Ok tt
    → Looks rows failed (Err e) → IsExcused failed e
not_missed rows failed NoMemory is h = tt
not_missed rows failed Device is h = h
not_missed rows failed _ is h = absurd cc

-- a fault that has its cause is excused by it
pub excused_unless : (old new : State) (refused : Type 0) (f : Fault) → old.step_limit ≡ None → (refused → ⊥)
    → HasCauseOr refused old new f → IsExcused (DiskFailed old new) (store_fault_of f)
excused_unless old new refused table_fault.NoMemory unlimited never cause = tt
excused_unless old new refused table_fault.Device unlimited never (inl failed) = disk_failed old new unlimited failed
excused_unless old new refused table_fault.Device unlimited never (inr why) = absurd (never why)
excused_unless old new refused table_fault.Damaged unlimited never cause = absurd cause

-- the same for a migration that is refused no row
pub excused_by_disk : (old new : State) (c : Contents) (e : StoreFault) → old.step_limit ≡ None
    → (RefusesFirstCa c → ⊥) → IsExcused (HasStopped c old new) e → IsExcused (DiskFailed old new) e
excused_by_disk old new c Device unlimited never (inl failed) = disk_failed old new unlimited failed
excused_by_disk old new c Device unlimited never (inr why) = absurd (never why)
excused_by_disk old new c _ unlimited never h = h
