-- The list and the reports of a database, as they are printed.
use Rattle.office_jobs.proofs.Words.{Appends, AppendsBeginning, Arrival, DiskFailed, Err, HasCleanDisk, IfErr, IsAsBefore, IsExcused}
use Rattle.office_jobs.proofs.Words.{IsOfARegister, IsOpened, IsReport, IsTrue, IsUnopened, IsUnprinted, JobFault}
use Rattle.office_jobs.proofs.Words.{KeepsTelling, List, NoMemory, Ok, OnOk, Opening, Option, PrintsKrl, Report}
use Rattle.office_jobs.proofs.Words.{Reports, Result, State, StoreFault, Stores, Tells, Write, of_store, refl, subst, sym}
use Rattle.office_jobs.proofs.Words.{ℕ, ◌≡◌, ◌≢◌}
use Rattle.office.specs.Faults.{HasRegisterCause}
use Rattle.office.specs.declared.store_fault.StoreFault.TheVariants as store
use Rattle.headline.specs.declared.publish_fault.PublishFault.{PublishFault}
use Rattle.headline.specs.declared.publish_fault.PublishFault.TheVariants as publish
use Rattle.headline.specs.Headline.{IfFound, IsListOf, OfStore}
use Rattle.store.specs.Meaning.{RegisterHasFailed}
use Rattle.office_jobs.specs.declared.job_fault.JobFault.TheVariants.{Store}
use Rattle.office_jobs.specs.Faults.{publish_result}
use Rattle.office_jobs.specs.Reporting.{IsReportOf}
use Rattle.office_jobs.proofs.Carried.{before_again, before_open, excused, left_from, unopened_left}

-- ---- the list

-- what a fault of the register leaves of a database
of_fault : (e : StoreFault) (old new : State) (held holds : Option (List ℕ)) → IsAsBefore old new
    → IsUnprinted old new held holds e → PrintsKrl old new held holds (Err (of_store e))
of_fault store.NoMemory old new held holds before left = (before, left)
of_fault store.Device old new held holds before left = (before, left)
of_fault store.AlreadyAnOffice old new held holds before left = (before, left)
of_fault store.NotAnOffice old new held holds before left = (before, left)
of_fault store.WrongSchema old new held holds before left = (before, left)
of_fault store.Damaged old new held holds before left = (before, left)

pub unlisted : (e : StoreFault) (f : JobFault) (old new : State) (held holds : Option (List ℕ))
    → f ≡ of_store e → IsUnopened old new e → holds ≡ held → PrintsKrl old new held holds (Err f)
unlisted e f old new held holds same u silent =
    subst (λ (f : JobFault). PrintsKrl old new held holds (Err f)) (sym same)
    (of_fault e old new held holds u.before (unopened_left old new held holds e u silent))

-- an open office after a fault of the register
pub left : (mid new : State) (held holds : Option (List ℕ)) (e : StoreFault) → holds ≡ held → KeepsTelling mid new
    → ((o : Opening) (l : List Arrival) → Tells mid o l → IsExcused (DiskFailed mid new) e)
    → IsUnprinted mid new held holds e
left mid new held holds e silent tells only = record {
  unprinted = silent;
  tells = tells;
  only = λ is_open o l m. only o l m;
}

-- the list of an office that was opened is that of the database
list_from : (old mid : State) (bytes : List ℕ) → KeepsTelling old mid → IsListOf mid bytes → IsListOf old bytes
list_from old mid bytes tells is = record { text = is.text; list = λ o l m. is.list o l (tells o l m) }

pub listed : (r : Result Unit PublishFault) (done : Result Unit JobFault) (old mid new : State)
    (held holds : Option (List ℕ))
    → done ≡ publish_result r → IsOpened old mid
    → OnOk r ((bytes : List ℕ) × Appends held holds bytes × IsListOf mid bytes)
    → (r ≡ Err publish.Write → (bytes : List ℕ) × AppendsBeginning held holds bytes × IsListOf mid bytes)
    → KeepsTelling mid new
    → IfFound r ((o : Opening) (l : List Arrival) → Tells mid o l → Stores new o l)
    → (IsTrue new.is_open → IsAsBefore mid new)
    → IfErr r (λ e. e ≢ publish.Write → holds ≡ held)
    → IfErr r (OfStore (λ e. (o : Opening) (l : List Arrival) → Tells mid o l → IsOfARegister e))
    → HasCleanDisk new → IfErr r (OfStore (λ e. HasRegisterCause e (RegisterHasFailed mid new)))
    → PrintsKrl old new held holds done
listed (Ok x) done old mid new held holds same opened list part tells found before silent only clean cause =
    subst (λ (d : Result Unit JobFault). PrintsKrl old new held holds d) (sym same) (
      before_again old mid new opened.before (before_open mid new before),
      (list.0, list.1, list_from old mid list.0 opened.tells list.2, λ o l m. found o l (opened.tells o l m)),
    )
listed (Err publish.Write) done old mid new held holds same opened list part tells found before silent only clean cause =
    subst (λ (d : Result Unit JobFault). PrintsKrl old new held holds d) (sym same) (
      before_again old mid new opened.before (before_open mid new before),
      (let it = part refl in
          (it.0, it.1, list_from old mid it.0 opened.tells it.2, λ o l m. found o l (opened.tells o l m))),
    )
listed (Err (publish.Store e)) done old mid new held holds same opened list part tells found before silent only clean cause =
    subst (λ (d : Result Unit JobFault). PrintsKrl old new held holds d) (sym same)
    (of_fault e old new held holds (before_again old mid new opened.before (before_open mid new before))
    (left_from old mid new held holds e opened (left mid new held holds e (silent (λ is_write. cc)) tells
    (λ o l m. excused e mid new clean o l m (only o l m) cause))))

-- ---- reports

-- a fault of the register, as the result of a report
pub report_fault : (report : Report) (e : StoreFault) (old new : State) (held holds : Option (List ℕ))
    → IsUnprinted old new held holds e → IsReport report old new held holds (Err (of_store e))
report_fault report store.NoMemory old new held holds left = left
report_fault report store.Device old new held holds left = left
report_fault report store.AlreadyAnOffice old new held holds left = left
report_fault report store.NotAnOffice old new held holds left = left
report_fault report store.WrongSchema old new held holds left = left
report_fault report store.Damaged old new held holds left = left

pub unreported : (report : Report) (e : StoreFault) (f : JobFault) (old new : State) (held holds : Option (List ℕ))
    → f ≡ of_store e → IsUnopened old new e → holds ≡ held → Reports report old new held holds (Err f)
unreported report e f old new held holds same u silent =
    record {
      before = u.before;
      came = subst (λ (f : JobFault). IsReport report old new held holds (Err f)) (sym same)
          (report_fault report e old new held holds (unopened_left old new held holds e u silent));
    }

-- the report of an office that was opened is that of the database
report_from : (report : Report) (old mid new : State) (text : List ℕ) → KeepsTelling old mid
    → IsReportOf report mid new text → IsReportOf report old new text
report_from report old mid new text tells it = record { form = it.form; is = λ o l m. it.is o l (tells o l m) }

-- a report's result for an opened office is its result for the database
came_from : (report : Report) (old mid new : State) (held holds : Option (List ℕ)) (r : Result Unit JobFault)
    → IsOpened old mid → IsReport report mid new held holds r → IsReport report old new held holds r
came_from report old mid new held holds (Ok x) opened is =
    (is.0, is.1, report_from report old mid new is.0 opened.tells is.2)
came_from report old mid new held holds (Err Write) opened is =
    (is.0, is.1, report_from report old mid new is.0 opened.tells is.2)
came_from report old mid new held holds (Err NoMemory) opened is =
    left_from old mid new held holds store.NoMemory opened is
came_from report old mid new held holds (Err (Store e)) opened is = left_from old mid new held holds e opened is
came_from report old mid new held holds (Err other) opened is = is

-- what is reported of an opened office is reported of the database
pub reports_from : (report : Report) (old mid new : State) (held holds : Option (List ℕ)) (r : Result Unit JobFault)
    → IsOpened old mid → Reports report mid new held holds r → Reports report old new held holds r
reports_from report old mid new held holds r opened is = record {
  before = before_again old mid new opened.before is.before;
  came = came_from report old mid new held holds r opened is.came;
}
