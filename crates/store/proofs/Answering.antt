-- The answer of a register's reading call, if the tables represent a history.
use Rattle.store.proofs.Words.{Arrival, Bool, Damaged, Device, DiskFailed, Err, Fault, HasCleanDisk, HasRegisterCause}
use Rattle.store.proofs.Words.{IfErr, IfOk, IsAsBefore, IsOfARegister, IsTrue, Kept, List, NoMemory, Ok, OnOk}
use Rattle.store.proofs.Words.{OnlyReads, Opening, Reading, Result, ShowsOffice, State, StoreFault, Tells, arith, false}
use Rattle.store.proofs.Words.{inl, inr, refl, store_fault_of, subst, sym, told, true, ◌≡◌}
use Rattle.sqlite.specs.State.{State as Connection}
use Rattle.store.proofs.Before.{fails_before}
use Rattle.store.specs.Meaning.{RegisterHasFailed}
use Rattle.store.specs.Transactions.{FailuresStay}
use Rattle.store.proofs.Reading.{At}
use Rattle.store.proofs.Telling.{disk_failed, tells_still}

-- the contract of a call that shows this
pub record Answered {X : Type 0} (Shown : State → List Kept → X → Type 0) (old new : Connection)
    (q : Result X StoreFault) : Type 0 where
  pub honest : HasCleanDisk new → HasCleanDisk old
  pub was_open : HasCleanDisk new → IsTrue new.is_open → IsTrue old.is_open
  pub stays_open : HasCleanDisk new → OnOk q (IsTrue new.is_open)
  pub row : HasCleanDisk new → IfOk q (λ x. (o : Opening) (l : List Arrival) → Tells old o l → At Shown o l x)
  pub same : HasCleanDisk new → (o : Opening) (l : List Arrival) → Tells old o l → Tells new o l
  pub before : HasCleanDisk new → IsTrue new.is_open → IsAsBefore old new × FailuresStay old new
  pub cause : IfErr q (λ e. HasRegisterCause e (RegisterHasFailed old new))
  pub only : HasCleanDisk new → IfErr q (λ e. (o : Opening) (l : List Arrival) → Tells old o l → IsOfARegister e)

module _ {X : Type 0} (Shown : State → List Kept → X → Type 0) (old new : Connection) where
  -- lack of memory and a failure of the database are the only faults
  of_a_register : (f : Fault) → OnlyReads {X = X} old new (Err f) → ShowsOffice Shown old new (Err f)
      → (o : Opening) (l : List Arrival) → Tells old o l → IsOfARegister (store_fault_of f)
  of_a_register NoMemory was shows o l tells = tt
  of_a_register Device was shows o l tells = tt
  of_a_register Damaged was shows o l tells =
      absurd (shows o l tells.history (tells.rows (was.1 refl).0.was_open).now).1

  failed : ShowsOffice Shown old new (Err Device) → (o : Opening) (l : List Arrival) → Tells old o l
      → DiskFailed old new
  failed shows o l tells = by_start old.is_open refl
    where
      by_start : (b : Bool) → old.is_open ≡ b → DiskFailed old new
      by_start true is = disk_failed old new tells.unlimited (shows o l tells.history (tells.rows is).now).1
      by_start false is = inr is

  -- a failure has its cause
  caused : (f : Fault) → (HasCleanDisk new → ShowsOffice Shown old new (Err f))
      → HasRegisterCause (store_fault_of f) (RegisterHasFailed old new)
  caused NoMemory shows = tt
  caused Damaged shows = tt
  caused Device shows = λ clean. failed (shows clean)

pub answered : {X : Type 0} {Shown : State → List Kept → X → Type 0} {old new : Connection} {r : Result X Fault}
    {q : Result X StoreFault} → q ≡ told r → Reading Shown old new r → Answered Shown old new q
answered {X} {Shown} {old} {new} {r} {q} is read = subst (λ z. Answered Shown old new z) (sym is) (go r read)
  where
    go : (r : Result X Fault) → Reading Shown old new r → Answered Shown old new (told r)
    go (Ok x) read = record {
      honest = λ clean. omega (arith, read.survives.clean);
      was_open = λ clean. (fails_before old new (inl (read.reads clean))).was_open;
      stays_open = λ clean. (read.reads clean).0.is_open;
      row = λ clean o l tells. (read.shows clean o l tells.history (tells.rows (read.reads clean).0.was_open).now).0;
      same = λ clean. tells_still old new read.survives clean (inl (read.reads clean));
      before = λ clean _. (fails_before old new (inl (read.reads clean)), read.survives.counts);
      cause = tt;
      only = λ clean. tt;
    }
    go (Err f) read = record {
      honest = λ clean. omega (arith, read.survives.clean);
      was_open = λ clean. (fails_before old new (read.reads clean).0).was_open;
      stays_open = λ clean. tt;
      row = λ clean. tt;
      same = λ clean. tells_still old new read.survives clean (read.reads clean).0;
      before = λ clean _. (fails_before old new (read.reads clean).0, read.survives.counts);
      cause = caused Shown old new f read.shows;
      only = λ clean. of_a_register Shown old new f (read.reads clean) (read.shows clean);
    }
