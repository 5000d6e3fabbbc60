use Rattle.office_jobs.proofs.Words.{Err, HasCleanDisk, JobFault, MigratesOffice, State, StoreFault, ap, arith}
use Rattle.office_jobs.proofs.Words.{of_store}
use Rattle.office_jobs.proofs.Words.{refl, state, subst, sym}
use Rattle.office.specs.declared.store_fault.StoreFault.TheVariants as store
use Rattle.office_jobs.specs.Making.{IsMoved, IsUnmoved}
use Rattle.office_jobs.proofs.Unlike.{had_no_cas}
use Rattle.office_jobs.specs.Faults.{IsUnwritten}
use Rattle.office_jobs.proofs.Counted.{of_a_store}
use Rattle.office_jobs.proofs.migrating.migrate_over.Goals as goal

pub returns-in-Err-clause-unwritten : goal.returns-in-Err-clause-unwritten
returns-in-Err-clause-unwritten g c = subst IsUnwritten (sym c.from.ensures) (of_a_store c.in-Err.fault)

unmoved : (e : StoreFault) (old new : State) → IsUnmoved old new e → MigratesOffice old new (Err (of_store e))
unmoved store.NoMemory old new u = u
unmoved store.Device old new u = u
unmoved store.AlreadyAnOffice old new u = u
unmoved store.NotAnOffice old new u = u
unmoved store.WrongSchema old new u = u
unmoved store.Damaged old new u = u

pub returns-in-Err-clause-migrates : goal.returns-in-Err-clause-migrates
returns-in-Err-clause-migrates g c = λ clean.
    let old = state g.S.Store c.args.conn in
    let new = state g.S.Store c.in-Err.conn in
    subst (λ (f : JobFault). MigratesOffice old new (Err f)) (sym c.from.ensures) (unmoved c.in-Err.fault old new (record {
      judged = c.in-Err.ensures.judged_back clean;
      only = c.in-Err.ensures.only clean;
      before = c.in-Err.ensures.before clean;
      back = c.in-Err.ensures.back clean;
      tells = c.in-Err.ensures.told clean;
      crash = c.in-Err.ensures.crash_back;
    }))

pub returns-in-Ok-clause-migrates : goal.returns-in-Ok-clause-migrates
returns-in-Ok-clause-migrates g c = λ honest.
    let back = ap (state g.S.Store) c.into_connection.ensures in
    let clean : HasCleanDisk (state g.S.Store c.in-Ok.store.conn) = subst HasCleanDisk back honest in
    subst (λ (s : State). IsMoved (state g.S.Store c.args.conn) s) (sym back) (record {
      unlike = had_no_cas (state g.S.Store c.args.conn) _ c.in-Ok.store _ refl c.in-Ok.ensures.already;
      judged = c.in-Ok.ensures.judged clean;
      moved = c.in-Ok.ensures.moved clean;
      carried = c.in-Ok.ensures.carried clean;
      is_open = c.in-Ok.ensures.stays_open clean;
      crash = c.in-Ok.ensures.crash;
    })

pub returns-in-Ok-clause-honest : goal.returns-in-Ok-clause-honest
returns-in-Ok-clause-honest g c = λ honest.
    let back = ap (state g.S.Store) c.into_connection.ensures in
    let clean : HasCleanDisk (state g.S.Store c.in-Ok.store.conn) = subst HasCleanDisk back honest in
    omega (arith, c.in-Ok.ensures.crash.clean)

pub returns-in-Err-clause-honest : goal.returns-in-Err-clause-honest
returns-in-Err-clause-honest g c = λ clean. omega (arith, c.in-Err.ensures.crash_back.clean)
