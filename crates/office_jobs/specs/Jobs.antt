-- What each job does over the connection to its database.
use Rattle.std.specs.Prelude.{◌≡◌, ℕ, List, [], codes, IsTrue, Option, Result, Err, false, true}
use Rattle.std.specs.List.{list_any}
use Rattle.sqlite_trees.specs.declared.store.Store.{Ghosts}
use Rattle.sqlite.specs.Held.{Held}
use Rattle.sqlite.specs.State.{State}
use Rattle.office.specs.Openings.{IsOpening}
use Rattle.office.specs.declared.store_fault.StoreFault.{StoreFault}
use Rattle.office.specs.declared.store_fault.StoreFault.TheVariants.{AlreadyAnOffice, NotAnOffice, WrongSchema}
use Rattle.store_sql.specs.Honest.{On, tables_of}
use Rattle.store_sql.specs.Look.{is_ca_name, is_office_name, is_office_table}
use Rattle.office_jobs.specs.declared.job_fault.JobFault.{JobFault}
use Rattle.office_jobs.specs.declared.job_fault.JobFault.TheVariants.{Store}
use Rattle.office_jobs.specs.declared.job.OfficeJob.{OfficeJob}
use Rattle.office_jobs.specs.declared.job.OfficeJob.TheVariants.{Init, Apply, Krl, Signers, Table, Migrate}
use Rattle.office_jobs.specs.declared.reporting.Report.TheVariants as report
use Rattle.office_jobs.specs.Applying.{AppliesAll}
use Rattle.office_jobs.specs.Listing.{PrintsKrl}
use Rattle.office_jobs.specs.Making.{MakesOffice, MigratesOffice, ready_text}
use Rattle.office_jobs.specs.Opening.{HeedsRows}
use Rattle.office_jobs.specs.Reporting.{Reports}

-- an office is made with a valid initial configuration
abbrev pub IsLawfulJob : OfficeJob → Type 0
IsLawfulJob (Init opening) = IsOpening opening.now
IsLawfulJob other = Unit {0}

-- an office is to be made
abbrev pub IsMaking : OfficeJob → Type 0
IsMaking (Init opening) = Unit {0}
IsMaking other = ⊥

-- it is refused with this fault, and the connection is unchanged
abbrev pub IsRefused : {A C : Type 0} → StoreFault → (conn last : C) → Result A JobFault → Type 0
IsRefused e conn last r = (r ≡ Err (Store e)) × (last ≡ conn)

-- it is refused since there is no office
abbrev pub RefusesNone : {A C : Type 0} → (conn last : C) → Result A JobFault → Type 0
RefusesNone conn last r = IsRefused NotAnOffice conn last r

-- A new office wants a database in which no table has one of an office's names.
abbrev pub WantsNone : {S : Type 0} → Ghosts S → (conn last : Held S) → Result (Unit {0}) JobFault → Type 0
WantsNone g conn last r = IsTrue (list_any is_office_name (tables_of g conn)) → IsRefused AlreadyAnOffice conn last r

-- A migration wants an office's table, and no table of CAs beside it.
pub record WantsFormer {S : Type 0} (g : Ghosts S) (conn last : Held S) (r : Result (Unit {0}) JobFault) : Type 0 where
  pub none : list_any is_office_table (tables_of g conn) ≡ false → RefusesNone conn last r
  pub already : list_any is_office_table (tables_of g conn) ≡ true → list_any is_ca_name (tables_of g conn) ≡ true
      → IsRefused WrongSchema conn last r

-- Anything else wants an office's table, with the row of an office of this schema.
pub record WantsOffice {S A : Type 0} (g : Ghosts S) (conn last : Held S) (r : Result A JobFault) : Type 0 where
  pub none : list_any is_office_table (tables_of g conn) ≡ false → RefusesNone conn last r
  pub rows : On g HeedsRows conn last r

-- what a job wants of its database, and how it refuses others
abbrev pub Wants : {S : Type 0} → Ghosts S → OfficeJob → (conn last : Held S) → Result (Unit {0}) JobFault → Type 0
Wants g (Init opening) conn last r = WantsNone g conn last r
Wants g Migrate conn last r = WantsFormer g conn last r
Wants g other conn last r = WantsOffice g conn last r

-- The effect of a job on the tables and on the output, with this result.
abbrev pub DoesOfficeJob : OfficeJob → (old new : State) → (held holds : Option (List ℕ)) → Result (Unit {0}) JobFault
    → Type 0
DoesOfficeJob (Init opening) old new held holds r = MakesOffice opening.now old new r × (holds ≡ held)
DoesOfficeJob (Apply exchanges) old new held holds r = AppliesAll exchanges.now old new held holds r
DoesOfficeJob Krl old new held holds r = PrintsKrl old new held holds r
DoesOfficeJob Signers old new held holds r = Reports report.Signers old new held holds r
DoesOfficeJob Table old new held holds r = Reports report.Table old new held holds r
DoesOfficeJob Migrate old new held holds r = MigratesOffice old new r × (holds ≡ held)

-- the text that is printed once the job is done and its database is closed
abbrev pub told_text : OfficeJob → List ℕ
told_text (Init opening) = ready_text opening.now
told_text Migrate = codes "migrated 1 2\n"
told_text other = []
