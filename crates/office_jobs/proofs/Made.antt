-- Offices that were not made.
use Rattle.office_jobs.proofs.Words.{DiskFailed, Err, IsAsBefore, IsBlank, IsExcused, IsTrue, IsUnmade, JobFault}
use Rattle.office_jobs.proofs.Words.{KeepsTelling, MakesOffice, Opening, State, StoreFault, of_store, subst, sym, ◌≡◌}
use Rattle.office.specs.declared.store_fault.StoreFault.TheVariants as store
use Rattle.office_jobs.specs.Making.{IsMadeWhole}

makes_not : (e : StoreFault) (opening : Opening) (old new : State) → IsUnmade opening old new e
    → MakesOffice opening old new (Err (of_store e))
makes_not store.NoMemory opening old new u = u
makes_not store.Device opening old new u = u
makes_not store.AlreadyAnOffice opening old new u = u
makes_not store.NotAnOffice opening old new u = u
makes_not store.WrongSchema opening old new u = u
makes_not store.Damaged opening old new u = u

pub unmade : (e : StoreFault) (f : JobFault) (opening : Opening) (old new : State) → f ≡ of_store e
    → IsAsBefore old new → (IsBlank old → IsTrue new.is_open → IsBlank new)
    → (IsBlank old → IsExcused (DiskFailed old new) e) → KeepsTelling old new → IsMadeWhole opening old new
    → MakesOffice opening old new (Err f)
unmade e f opening old new same before blank only tells crash =
    subst (λ (f : JobFault). MakesOffice opening old new (Err f)) (sym same)
    (makes_not e opening old new (record {
      before = before;
      blank = blank;
      only = only;
      tells = tells;
      crash = crash;
    }))
