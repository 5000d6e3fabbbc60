-- What a job does to the office that was opened, it does to the database as it was given.
use Rattle.office_jobs.proofs.Words.{Applies, Arrival, Bool, DiskFailed, Err, Exchange, HasCleanDisk, IsAsBefore}
use Rattle.office_jobs.proofs.Words.{IsExcused, IsOfARegister, IsOpened, IsTrue, IsUnopened, IsUnprinted, JobFault}
use Rattle.office_jobs.proofs.Words.{KeepsTelling, List, OfficePrints, OfficePrintsPart, Ok, OnOk, Opening, Option, Result, RunFault}
use Rattle.office_jobs.proofs.Words.{State, StoreFault, Tells, arith, false, inl, inr, of_store, refl, run_result}
use Rattle.office_jobs.proofs.Words.{subst, sym, true, ℕ, ◌∙◌, ◌≡◌}
use Rattle.office.specs.declared.store_fault.StoreFault.TheVariants as store
use Rattle.store_sql.specs.declared.offices.OfficeRow.{OfficeRow}
use Rattle.office.specs.Faults.{HasRegisterCause}
use Rattle.store.specs.Meaning.{Looks, RegisterHasFailed, opened_by}
use Rattle.store.proofs.Words.{both_ways}
use Rattle.exchanges.specs.declared.running.RunFault.TheVariants as run
use Rattle.office_jobs.specs.declared.job_fault.JobFault.TheVariants as fault
use Rattle.office_jobs.specs.Opening.{IsOfRows}

-- ---- unchanged databases

pub before_again : (a b c : State) → IsAsBefore a b → IsAsBefore b c → IsAsBefore a c
before_again a b c first then = record {
  was_open = λ is_open. first.was_open (then.was_open is_open);
  rest = λ is_open rests. then.rest is_open (first.rest (then.was_open is_open) rests);
  same = λ is_open rests. then.same is_open (first.rest (then.was_open is_open) rests)
      ∙ first.same (then.was_open is_open) rests;
}

-- `IsAsBefore` has to be shown only for an open connection
pub before_open : (a b : State) → (IsTrue b.is_open → IsAsBefore a b) → IsAsBefore a b
before_open a b h = record {
  was_open = λ is_open. (h is_open).was_open is_open;
  rest = λ is_open. (h is_open).rest is_open;
  same = λ is_open. (h is_open).same is_open;
}

-- ---- faults

-- a fault of a register that has its cause is excused by a failure of the disk
pub excused : (e : StoreFault) (old new : State) → HasCleanDisk new → (o : Opening) (l : List Arrival) → Tells old o l
    → IsOfARegister e → HasRegisterCause e (RegisterHasFailed old new) → IsExcused (DiskFailed old new) e
excused store.NoMemory old new clean o l m only cause = tt
excused store.Device old new clean o l m only cause = cause clean o l m
excused store.AlreadyAnOffice old new clean o l m only cause = absurd only
excused store.NotAnOffice old new clean o l m only cause = absurd only
excused store.WrongSchema old new clean o l m only cause = absurd only
excused store.Damaged old new clean o l m only cause = absurd only

-- an excuse that another implies
excused_by : (A B : Type 0) (e : StoreFault) → (A → B) → IsExcused A e → IsExcused B e
excused_by A B store.NoMemory so h = tt
excused_by A B store.Device so h = so h
excused_by A B store.AlreadyAnOffice so h = h
excused_by A B store.NotAnOffice so h = h
excused_by A B store.WrongSchema so h = h
excused_by A B store.Damaged so h = h

-- a failure after an office was opened is one since the database was given
failed_since : (old mid new : State) → IsOpened old mid → DiskFailed mid new → DiskFailed old new
failed_since old mid new opened (inl more) = inl (omega (arith, opened.counts, more))
failed_since old mid new opened (inr shut) = absurd (both_ways mid.is_open shut opened.is_open)

-- a database that wasn't opened is left as it was
pub unopened_left : (old new : State) (held holds : Option (List ℕ)) (e : StoreFault) → IsUnopened old new e
    → holds ≡ held
    → IsUnprinted old new held holds e
unopened_left old new held holds e u same = record {
  unprinted = same;
  tells = u.tells;
  only = u.only;
}

-- what a fault leaves of an opened office, it leaves of the database
pub left_from : (old mid new : State) (held holds : Option (List ℕ)) (e : StoreFault) → IsOpened old mid
    → IsUnprinted mid new held holds e → IsUnprinted old new held holds e
left_from old mid new held holds e opened left = record {
  unprinted = left.unprinted;
  tells = λ o l m. left.tells o l (opened.tells o l m);
  only = λ is_open o l m. excused_by (DiskFailed mid new) (DiskFailed old new) e (failed_since old mid new opened)
      (left.only opened.is_open o l (opened.tells o l m));
}

-- ---- rows of the office's table

-- an office of this schema was there, whatever came of the job
pub of_an_office : {A : Type 0} (rows : List OfficeRow) (failed : Type 0) (r : Result A JobFault)
    → opened_by rows ≡ Ok tt → IsOfRows rows failed r
of_an_office rows failed (Ok x) is = is
of_an_office rows failed (Err fault.NoMemory) is = tt
of_an_office rows failed (Err (fault.Store e)) is = inl is
of_an_office rows failed (Err other) is = is

-- it wasn't opened because of these rows, or the database failed
of_rows_refused : (A : Type 0) (rows : List OfficeRow) (failed : Type 0) (e : StoreFault) → Looks rows failed (Err e)
    → IsOfRows {A = A} rows failed (Err (of_store e))
of_rows_refused A rows failed store.NoMemory h = tt
of_rows_refused A rows failed store.Device h = inr h
of_rows_refused A rows failed store.AlreadyAnOffice h = inr h
of_rows_refused A rows failed store.NotAnOffice h = inr h
of_rows_refused A rows failed store.WrongSchema h = inr h
of_rows_refused A rows failed store.Damaged h = inr h

pub of_refused_rows : (A : Type 0) (rows : List OfficeRow) (failed : Type 0) (e : StoreFault) (f : JobFault)
    → f ≡ of_store e → Looks rows failed (Err e) → IsOfRows {A = A} rows failed (Err f)
of_refused_rows A rows failed e f same h =
    subst (λ (f : JobFault). IsOfRows {A = A} rows failed (Err f)) (sym same) (of_rows_refused A rows failed e h)

-- ---- exchanges

prints_from : (old mid new : State) (es : List Exchange) (held holds : Option (List ℕ)) (fault : Bool)
    → IsAsBefore old mid → KeepsTelling old mid
    → OfficePrints mid new es held holds fault → OfficePrints old new es held holds fault
prints_from old mid new es held holds fault before tells p = record {
  prints = record {
    given = p.prints.given;
    serves = λ o l m. p.prints.serves o l (tells o l m);
    printed = p.prints.printed;
    faults = p.prints.faults;
    forms = p.prints.forms;
    rows = λ none is. before_again old mid new before (p.prints.rows none is);
  };
  lists = λ o l m. p.lists o l (tells o l m);
}

part_from : (old mid new : State) (es : List Exchange) (held holds : Option (List ℕ)) → IsAsBefore old mid
    → KeepsTelling old mid → OfficePrintsPart mid new es held holds → OfficePrintsPart old new es held holds
part_from old mid new es held holds before tells p = record {
  prints = record {
    given = p.prints.given;
    serves = λ o l m. p.prints.serves o l (tells o l m);
    printed = p.prints.printed;
    forms = p.prints.forms;
    rows = λ none is. before_again old mid new before (p.prints.rows none is);
  };
  lists = λ o l m. p.lists o l (tells o l m);
}

-- nothing was run over an opened office
unrun : (old mid new : State) (held holds : Option (List ℕ)) → IsOpened old mid → new ≡ mid → holds ≡ held
    → IsAsBefore old new × IsUnprinted old new held holds store.NoMemory
unrun old mid new held holds opened stays silent = (
  subst (λ (s : State). IsAsBefore old s) (sym stays) opened.before,
  record {
    unprinted = silent;
    tells = subst (λ (s : State). KeepsTelling old s) (sym stays) opened.tells;
    only = λ is_open o l m. tt;
  },
)

pub applied : (r : Result Unit RunFault) (done : Result Unit JobFault) (es : List Exchange) (old mid new : State)
    (held holds : Option (List ℕ)) → done ≡ run_result r → IsOpened old mid
    → OnOk r (OfficePrints mid new es held holds false)
    → (r ≡ Err run.Fault → OfficePrints mid new es held holds true)
    → (r ≡ Err run.Write → OfficePrintsPart mid new es held holds)
    → (r ≡ Err run.NoMemory → new ≡ mid) → (r ≡ Err run.NoMemory → holds ≡ held)
    → Applies es old new held holds done
applied (Ok x) done es old mid new held holds same opened ok fault write stays silent =
    subst (λ (d : Result Unit JobFault). Applies es old new held holds d) (sym same)
    (prints_from old mid new es held holds false opened.before opened.tells ok)
applied (Err run.Fault) done es old mid new held holds same opened ok fault write stays silent =
    subst (λ (d : Result Unit JobFault). Applies es old new held holds d) (sym same)
    (prints_from old mid new es held holds true opened.before opened.tells (fault refl))
applied (Err run.Write) done es old mid new held holds same opened ok fault write stays silent =
    subst (λ (d : Result Unit JobFault). Applies es old new held holds d) (sym same)
    (part_from old mid new es held holds opened.before opened.tells (write refl))
applied (Err run.NoMemory) done es old mid new held holds same opened ok fault write stays silent =
    subst (λ (d : Result Unit JobFault). Applies es old new held holds d) (sym same)
    (unrun old mid new held holds opened (stays refl) (silent refl))

-- nothing is applied to an office that wasn't opened
unapplied_of : (e : StoreFault) (es : List Exchange) (old new : State) (held holds : Option (List ℕ))
    → IsUnopened old new e → holds ≡ held → Applies es old new held holds (Err (of_store e))
unapplied_of store.NoMemory es old new held holds u same =
    (u.before, unopened_left old new held holds store.NoMemory u same)
unapplied_of store.Device es old new held holds u same = (u, same)
unapplied_of store.AlreadyAnOffice es old new held holds u same = (u, same)
unapplied_of store.NotAnOffice es old new held holds u same = (u, same)
unapplied_of store.WrongSchema es old new held holds u same = (u, same)
unapplied_of store.Damaged es old new held holds u same = (u, same)

pub unapplied : (e : StoreFault) (f : JobFault) (es : List Exchange) (old new : State) (held holds : Option (List ℕ))
    → f ≡ of_store e → IsUnopened old new e → holds ≡ held → Applies es old new held holds (Err f)
unapplied e f es old new held holds same u silent =
    subst (λ (f : JobFault). Applies es old new held holds (Err f)) (sym same)
    (unapplied_of e es old new held holds u silent)
